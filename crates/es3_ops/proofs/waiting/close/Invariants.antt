use Rattle.std.proofs.Common.{◌≡◌, map, reverse, length}
use Rattle.es3_tree.specs.PlacedView.{expr}
use Rattle.es3_ops.specs.Views.{left_of}
use Rattle.es3_ops.specs.Waiting as all
use Rattle.es3_ops.proofs.waiting.close.Given as goal

-- closing what is left gives what closing all gives
abbrev pub invariant-loop-left : goal.invariant-loop-left
invariant-loop-left l = record {
  part : all.closed l.level (reverse (map left_of l.waiting.items)) (expr l.part) ≡ all.closed l.level (reverse (map left_of l.fn.waiting.items)) (expr l.fn.part);
  rest : all.outside l.level (reverse (map left_of l.waiting.items)) ≡ all.outside l.level (reverse (map left_of l.fn.waiting.items));
}

abbrev pub decreases-loop-left : goal.decreases-loop-left
decreases-loop-left l = length l.waiting.items
