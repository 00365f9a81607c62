use Rattle.es3_lexer.proofs.point.point.Goals as goal
use Rattle.es3_lexer.proofs.Oks.{ok_fits}

pub returns-clause-fits : goal.returns-clause-fits
returns-clause-fits c = ok_fits c.step_at.result c.args.operand c.args.s.now c.step_at.ensures
