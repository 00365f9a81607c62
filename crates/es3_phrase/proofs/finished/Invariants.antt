use Rattle.std.proofs.Common.{◌≡◌, length}
use Rattle.es3_tree.specs.PlacedView.{expr}
use Rattle.es3_grammar.specs.Machine.{finished}
use Rattle.es3_frames.specs.Views.{stack_of}
use Rattle.es3_phrase.proofs.finished.Given as goal

abbrev pub invariant-loop-frame : goal.invariant-loop-frame
invariant-loop-frame l = finished (stack_of l.stack) (expr l.part.tree.value) ≡ finished (stack_of l.fn.stack) (expr l.fn.part.tree.value)

abbrev pub decreases-loop-frame : goal.decreases-loop-frame
decreases-loop-frame l = length (stack_of l.stack)
