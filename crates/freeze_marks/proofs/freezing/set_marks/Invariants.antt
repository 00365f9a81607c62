use Rattle.std.proofs.Common.{◌≡◌, ◌++◌}
use Rattle.std.specs.List.{filter}
use Rattle.std.specs.Vec.Iter.{into_iter_items}
use Rattle.es3_heap.specs.Enumerating.{own_keys}
use Rattle.heap_rows.specs.Marks.{is_set_mark}
use Rattle.freeze_marks.proofs.freezing.set_marks.Given as goal

abbrev pub invariant-loop-key : goal.invariant-loop-key
invariant-loop-key l = l.marks.items ++ filter is_set_mark (into_iter_items l.key-iterator) ≡ filter is_set_mark (own_keys l.h l.fn.o)
