use Rattle.std.proofs.Common.{◌≡◌, length}
use Rattle.es3_tree.specs.PlacedView.{stmt}
use Rattle.es3_grammar.specs.Machine.{resume}
use Rattle.es3_frames.specs.Views.{spot_of, stack_of}
use Rattle.es3_steps.proofs.resume.resume.Given as goal

abbrev pub invariant-loop-frame : goal.invariant-loop-frame
invariant-loop-frame l = resume (stack_of l.stack) (stmt l.whole.tree.value) (spot_of l.token) ≡ resume (stack_of l.fn.stack) (stmt l.fn.done.tree.value) (spot_of l.token)

abbrev pub decreases-loop-frame : goal.decreases-loop-frame
decreases-loop-frame l = length (stack_of l.stack)
