use Rattle.std.proofs.Common.{◌≡◌, ◌∙◌, [], length, subst, rules}
use Rattle.es3_heap.specs.Objects.{object_at, props_of, with_object}
use Rattle.heap_rows.specs.Doing.{guests, copied, record_object}
use Rattle.row_outcomes.specs.Comes.{Comes}
use Rattle.freeze_marks.specs.Records.{AreNew}
use Rattle.freeze_marks.specs.Copies.{gives_new}
use Rattle.freeze_marks.proofs.Fresh.{new_record-is}
use Rattle.freeze_marks.proofs.copies.record_copy.Goals as goal

pub returns-clause-outcome : goal.returns-clause-outcome
returns-clause-outcome c =
    let h = c.args.h.now in
    let pairs = c.in_ok-pairs.pairs.items in
    let are : pairs ≡ guests (props_of (object_at h c.args.o)) = search rules in
    let once : AreNew [] pairs = search rules in
    let made : c.new_record.new.h ≡ with_object h (record_object (copied pairs)) = search rules ∙ new_record-is pairs h once in
    let last : c.in_ok-record.record ≡ length h.list = search rules in
    subst (λ ps. Comes (gives_new c.args.closed (record_object (copied ps)) c.args.by h) c.finished.result c.finished.new.h) are
    (c.finished.ensures.outcome h (record_object (copied pairs)) made last)
