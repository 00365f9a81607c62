-- A key of a record is read, written or dropped; a record or an array is frozen.
use Rattle.std.proofs.Common.{ℕ, true, List, length}
use Rattle.std.specs.Prelude.{◌&&◌, ◌||◌, not, is_some, if◌then◌else◌}
use Rattle.caja_units.specs.Units.{is_hidden}
use Rattle.es3_objects.specs.declared.value.Value.{Value}
use Rattle.es3_objects.specs.declared.value.Value.TheVariants as v
use Rattle.es3_heap.specs.Objects.{Objects, hidden_attrs, object_at, class_of}
use Rattle.es3_heap.specs.Properties.{own, put, delete}
use Rattle.es3_live.specs.Live.{IsLive, AreClosed}
use Rattle.es3_live.proofs.Writing.{Grown, same_objects, grown_trans, put_grown, define_grown, delete_grown}
use Rattle.rows.specs.Public.{is_bad}
use Rattle.heap_rows.specs.Marks.{is_frozen, read_mark, set_mark, grant_read, grant_set, drop_marks, freeze}
use Rattle.heap_rows.specs.Doing.{on_object, of_record, of_either}
use Rattle.live_rows.proofs.Changes.{grown_if, on_object_grown, of_record_grown, of_either_grown, freeze_grown, drop_marks_grown}

pub reads_grown : (h : Objects) (o : Value) (k : List ℕ) → AreClosed h
    → Grown h (on_object o h (λ i. of_record (class_of (object_at h i)) (if is_some (own h i k) && not (is_hidden k) then grant_read h i k else h) h))
reads_grown h o k closed =
    on_object_grown o h _ closed (λ i. of_record_grown (class_of (object_at h i)) _ h closed
    (grown_if h _ (grant_read h i k) h (define_grown h i (read_mark k) (v.Bool true) hidden_attrs closed tt) (same_objects h closed)))

write_grown : (h : Objects) (i : ℕ) (k : List ℕ) (x : Value) → AreClosed h → IsLive (length h.list) x → Grown h (grant_set (put h i k x) i k)
write_grown h i k x closed live =
    let first = put_grown h i k x closed live in
    grown_trans first (define_grown (put h i k x) i (set_mark k) (v.Bool true) hidden_attrs first.closed tt)

pub writes_grown : (h : Objects) (o : Value) (k : List ℕ) (x : Value) → AreClosed h → IsLive (length h.list) x
    → Grown h (on_object o h (λ i. of_record (class_of (object_at h i)) (if is_frozen h i || is_bad k then h else grant_set (put h i k x) i k) h))
writes_grown h o k x closed live =
    on_object_grown o h _ closed (λ i. of_record_grown (class_of (object_at h i)) _ h closed
    (grown_if h _ h (grant_set (put h i k x) i k) (same_objects h closed) (write_grown h i k x closed live)))

drop_grown : (h : Objects) (i : ℕ) (k : List ℕ) → AreClosed h → Grown h (drop_marks (delete h i k) i k)
drop_grown h i k closed =
    let first = delete_grown h i k closed in
    grown_trans first (drop_marks_grown (delete h i k) i k first.closed)

pub drops_grown : (h : Objects) (o : Value) (k : List ℕ) → AreClosed h
    → Grown h (on_object o h (λ i. of_record (class_of (object_at h i)) (if is_frozen h i || is_bad k then h else drop_marks (delete h i k) i k) h))
drops_grown h o k closed =
    on_object_grown o h _ closed (λ i. of_record_grown (class_of (object_at h i)) _ h closed
    (grown_if h _ h (drop_marks (delete h i k) i k) (same_objects h closed) (drop_grown h i k closed)))

pub freezes_grown : (h : Objects) (o : Value) → AreClosed h → Grown h (on_object o h (λ i. of_either (class_of (object_at h i)) (freeze h i) h))
freezes_grown h o closed = on_object_grown o h _ closed (λ i. of_either_grown (class_of (object_at h i)) _ h closed (freeze_grown h i closed))
