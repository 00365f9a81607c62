use Rattle.std.proofs.Common.{sym, ◌∙◌}
use Rattle.es3_grammar.proofs.Sums.{no_in_sums}
use Rattle.es3_frames.specs.Views.{stack_of}
use Rattle.es3_frames.proofs.stack.Stack.no_in.Goals as goal

pub returns : goal.returns
returns c = c.sums.ensures.no_in_is ∙ sym (no_in_sums (stack_of c.args.self.now))
