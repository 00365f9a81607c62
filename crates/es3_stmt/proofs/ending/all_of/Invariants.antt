use Rattle.std.proofs.Common.{◌≡◌, length}
use Rattle.es3_tree.specs.PlacedView.{stmt}
use Rattle.es3_grammar.specs.Machine.{all_of}
use Rattle.es3_grammar.specs.Within.{reading_of}
use Rattle.es3_frames.specs.Views.{stack_of}
use Rattle.es3_stmt.proofs.ending.all_of.Given as goal

abbrev pub invariant-loop-frame : goal.invariant-loop-frame
invariant-loop-frame l = reading_of (all_of (stack_of l.stack) (stmt l.whole.tree.value)) ≡ reading_of (all_of (stack_of l.fn.stack) (stmt l.fn.done.tree.value))

abbrev pub decreases-loop-frame : goal.decreases-loop-frame
decreases-loop-frame l = length (stack_of l.stack)
