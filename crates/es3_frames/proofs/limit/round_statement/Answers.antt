use Rattle.std.proofs.Common.{ap, sym, ◌∙◌}
use Rattle.es3_grammar.specs.Sums.{capped}
use Rattle.es3_grammar.proofs.Sums.{height_sums}
use Rattle.es3_frames.specs.Views.{stack_of}
use Rattle.es3_frames.proofs.limit.round_statement.Goals as goal

pub returns : goal.returns
returns c = λ d e. c.rise.ensures _ d c.sums.ensures.behind_is e ∙ ap capped (sym (height_sums (stack_of c.args.stack.now) d))
