use Rattle.std.proofs.Common.{◌≡◌, [], map, reverse}
use Rattle.std.specs.Vec.Iter.{into_iter_items}
use Rattle.es3_ops.specs.Views.{item_of, left_of}
use Rattle.es3_ops.specs.Waiting.{waiting}
use Rattle.es3_ops.proofs.grouping.all_waiting.Given as goal

-- what waits, with what is left, gives what waits behind all
abbrev pub invariant-loop-part : goal.invariant-loop-part
invariant-loop-part l = waiting (reverse (map left_of l.waiting.items)) (map item_of (into_iter_items l.part-iterator)) ≡ waiting [] (map item_of l.fn.front.items)
