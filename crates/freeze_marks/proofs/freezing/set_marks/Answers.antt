use Rattle.std.proofs.Common.{◌∙◌, sym}
use Rattle.std.specs.List.{filter}
use Rattle.std.specs.Vec.Iter.{into_iter_items}
use Rattle.es3_heap.specs.Enumerating.{own_keys}
use Rattle.es3_heap.specs.Objects.{object_at, props_of}
use Rattle.heap_rows.specs.Marks.{is_set_mark}
use Rattle.freeze_marks.proofs.Deleted.{all_found, set_marks-is}
use Rattle.freeze_marks.proofs.freezing.set_marks.Goals as goal

pub returns : goal.returns
returns c =
    all_found c.loop-key.marks.items (into_iter_items c.loop-key.key-iterator) (filter is_set_mark (own_keys c.args.h.now c.args.o))
    (sym c.loop-key.key-iterator.rest.ok.0 ∙ c.in-None.ensures.steps.0) c.loop-key.invariant
    ∙ sym (set_marks-is (props_of (object_at c.args.h.now c.args.o)))
