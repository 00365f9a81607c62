use Rattle.std.proofs.Common.{◌≡◌, length}
use Rattle.es3_tree.specs.PlacedView.{expr}
use Rattle.es3_grammar.specs.Machine.{settle}
use Rattle.es3_frames.specs.Views.{spot_of, stack_of}
use Rattle.es3_steps.proofs.settle.settle.Given as goal

-- what is left to settle gives what the whole gives
abbrev pub invariant-loop-stack : goal.invariant-loop-stack
invariant-loop-stack l =
    settle l.no_in (stack_of l.stack) (expr l.part.tree.value) (spot_of l.token) ≡ settle l.no_in (stack_of l.fn.stack) (expr l.fn.part.tree.value) (spot_of l.token)

abbrev pub decreases-loop-stack : goal.decreases-loop-stack
decreases-loop-stack l = length (stack_of l.stack)
