use Rattle.std.proofs.Common.{◌≡◌, ◌≤◌, ◌^◌, ◌<◌, map, reverse, vec_capacity, vec_len, length}
use Rattle.es3_ops.specs.Views.{depth_of}
use Rattle.es3_ops.specs.Waiting as all
use Rattle.es3_ops.proofs.waiting.close_depths.Given as goal

-- closing what is left gives what closing all gives
abbrev pub invariant-loop-left : goal.invariant-loop-left
invariant-loop-left l = record {
  depth : all.closed_depth l.level (reverse (map depth_of l.waiting.items)) l.depth ≡ all.closed_depth l.level (reverse (map depth_of l.fn.waiting.items)) l.fn.depth;
  rest : all.outside_depths l.level (reverse (map depth_of l.waiting.items)) ≡ all.outside_depths l.level (reverse (map depth_of l.fn.waiting.items));
  fits : all.whole_depth (reverse (map depth_of l.waiting.items)) l.depth < 2 ^ 32;
  room : vec_len l.waiting ≤ vec_len l.fn.waiting;
  capacity : vec_capacity l.waiting ≡ vec_capacity l.fn.waiting;
}

abbrev pub decreases-loop-left : goal.decreases-loop-left
decreases-loop-left l = length l.waiting.items
