-- What the guards that write and delete leave, at a key: a bad one is refused first, then a frozen object.
use Rattle.std.specs.Prelude.{ℕ, zero, suc, Bool, true, List, [], ◌∷◌, Option, Some, None, length, nat_lt, codes, if◌then◌else◌}
use Rattle.caja_units.specs.Index.{array_index}
use Rattle.es3_objects.specs.declared.value.Value.{Value}
use Rattle.es3_objects.specs.declared.value.Value.TheVariants as v
use Rattle.es3_objects.specs.declared.value.Class.{Class}
use Rattle.es3_objects.specs.declared.value.Class.TheVariants as class
use Rattle.es3_heap.specs.Objects.{Objects, object_at, class_of}
use Rattle.es3_heap.specs.Properties.{put, delete}
use Rattle.es3_convert.specs.Conversions.{array_items}
use Rattle.rows.specs.Public.{is_bad}
use Rattle.heap_rows.specs.Marks.{is_frozen, grant_set, drop_marks}
use Rattle.heap_rows.specs.Doing.{Done, gives}
use Rattle.row_outcomes.specs.Comes.{throws}
use Rattle.row_outcomes.specs.Arrays.{changed_array}

abbrev pub unless : Bool → List ℕ → ℕ → Objects → Done → Done
unless bad message by h done = if bad then throws message by h else done

-- setPub

-- another item in the place of one, or a new last one
abbrev pub with_item : List Value → ℕ → Value → List Value
with_item [] i x = x ∷ []
with_item (y ∷ ys) zero x = x ∷ ys
with_item (y ∷ ys) (suc i) x = y ∷ with_item ys i x

-- 15.4.5.1: an item that is there, or the one behind the last
abbrev pub item_set : Option ℕ → ℕ → Value → ℕ → Objects → Done
item_set None o x by h = throws (codes "not writable") by h
item_set (Some i) o x by h = if nat_lt (length (array_items h o)) i then throws (codes "not writable") by h else changed_array o (with_item (array_items h o) i x) x h

-- of an object that is not frozen, by its class: the key of a record is written and marked
abbrev pub object_set : Class → ℕ → List ℕ → Value → ℕ → Objects → Done
object_set class.Object o us x by h = gives x (grant_set (put h o us x) o us) []
object_set class.Array o us x by h = item_set (array_index us) o x by h
object_set c o us x by h = throws (codes "not writable") by h

abbrev pub value_set : Value → List ℕ → Value → ℕ → Objects → Done
value_set (v.Obj o) us x by h = unless (is_frozen h o) (codes "not writable") by h (object_set (class_of (object_at h o)) o us x by h)
value_set y us x by h = throws (codes "not writable") by h

abbrev pub set_answer : Value → Value → ℕ → Objects → List ℕ → Done
set_answer o x by h us = unless (is_bad us) (codes "bad key") by h (value_set o us x by h)

-- deletePub: a record's key goes with its marks
abbrev pub object_delete : Class → ℕ → List ℕ → ℕ → Objects → Done
object_delete class.Object o us by h = gives (v.Bool true) (drop_marks (delete h o us) o us) []
object_delete c o us by h = throws (codes "not deletable") by h

abbrev pub value_delete : Value → List ℕ → ℕ → Objects → Done
value_delete (v.Obj o) us by h = unless (is_frozen h o) (codes "not deletable") by h (object_delete (class_of (object_at h o)) o us by h)
value_delete y us by h = throws (codes "not deletable") by h

abbrev pub delete_answer : Value → ℕ → Objects → List ℕ → Done
delete_answer o by h us = unless (is_bad us) (codes "bad key") by h (value_delete o us by h)
