use Rattle.std.specs.Vec.Iter.{into_iter_items}
use Rattle.es3_heap.specs.Objects.{object_at, props_of}
use Rattle.freeze_marks.proofs.Public.{Gathered}
use Rattle.freeze_marks.proofs.records.public_pairs.Given as goal

abbrev pub invariant-loop-key : goal.invariant-loop-key
invariant-loop-key l = Gathered (props_of (object_at l.h l.o)) l.pairs.items (into_iter_items l.key-iterator)
