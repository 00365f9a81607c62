use Rattle.std.proofs.Common.{arith, length}
use Rattle.html_grammar.proofs.Bounds.{run_fits}
use Rattle.html_grammar.specs.Fits.{RunFits}
use Rattle.html_grammar.specs.Runs.{run_length}
use Rattle.html_pieces.proofs.Oks.{ok_has, own_fits}
use Rattle.html_pieces.proofs.parts.run_within.Goals as goal
use Rattle.html_tokens.specs.Views.{run_of, until_of}

pub returns-clause-fits : goal.returns-clause-fits
returns-clause-fits c = ok_has run_of (λ r. RunFits (length c.args.s.now) r) c.run_at.result _ c.run_at.ensures (run_fits (until_of c.args.until) 0 c.args.s.now (omega arith))

pub returns-clause-length : goal.returns-clause-length
returns-clause-length c =
    ok_has run_of (λ r. RunFits (run_length r) r) c.run_at.result _ c.run_at.ensures
    (own_fits (length c.args.s.now) _ (run_fits (until_of c.args.until) 0 c.args.s.now (omega arith)))
