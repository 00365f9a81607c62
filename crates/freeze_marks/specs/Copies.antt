-- New arrays, and copies of arrays and records: each is frozen or not, and has the next name of the module.
use Rattle.std.specs.Prelude.{ℕ, Bool, List, [], length, nat_lt, codes, if◌then◌else◌}
use Rattle.es3_objects.specs.declared.value.Value.{Value}
use Rattle.es3_objects.specs.declared.value.Value.TheVariants as v
use Rattle.es3_objects.specs.declared.value.Class.{Class}
use Rattle.es3_objects.specs.declared.value.Class.TheVariants as class
use Rattle.es3_heap.specs.Objects.{Object, Objects, object_at, props_of, class_of}
use Rattle.es3_heap.specs.Making.{array_object}
use Rattle.es3_convert.specs.Conversions.{array_items}
use Rattle.es3_language.specs.Natives.{value_reply}
use Rattle.rows.specs.Rows.{most_items}
use Rattle.heap_rows.specs.Doing.{Done, guests, frozen_if, makes, copied, record_object, too_long}
use Rattle.row_outcomes.specs.Comes.{throws}

-- a new object, frozen or not
abbrev pub gives_new : Bool → Object → ℕ → Objects → Done
gives_new closed o by h = makes value_reply by (frozen_if closed o) h []

-- a new array of these items
abbrev pub made_array : Bool → List Value → ℕ → Objects → Done
made_array closed xs by h = if nat_lt (length xs) most_items then gives_new closed (array_object xs) by h else too_long h []

-- a new record with the public keys and values of an object
abbrev pub record_copy : Bool → ℕ → ℕ → Objects → Done
record_copy closed o by h = gives_new closed (record_object (copied (guests (props_of (object_at h o))))) by h

abbrev pub object_copy : Class → Bool → ℕ → ℕ → Objects → Done
object_copy class.Object closed o by h = record_copy closed o by h
object_copy class.Array closed o by h = made_array closed (array_items h o) by h
object_copy c closed o by h = throws (codes "bad argument") by h

-- a copy of a value, which is a record or an array
abbrev pub value_copy : Bool → Value → ℕ → Objects → Done
value_copy closed (v.Obj o) by h = object_copy (class_of (object_at h o)) closed o by h
value_copy closed x by h = throws (codes "bad argument") by h
