use Rattle.std.proofs.Common.{◌≡◌, map, reverse}
use Rattle.std.specs.Iterator.Adapters.{rev_source}
use Rattle.std.specs.Slice.Iter.{iter_rest}
use Rattle.es3_ops.specs.Views.{depth_of}
use Rattle.es3_ops.specs.Waiting as all
use Rattle.es3_ops.proofs.waiting.whole_depth.Given as goal

-- what is left, round what was passed, gives what all gives
abbrev pub invariant-loop-left : goal.invariant-loop-left
invariant-loop-left l = all.whole_depth (reverse (map depth_of (iter_rest (rev_source l.left-iterator)))) l.depth ≡ all.whole_depth (reverse (map depth_of l.waiting)) 1
