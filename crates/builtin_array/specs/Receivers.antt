-- What a method of arrays wants of its receiver: an array, and one that is not frozen where it changes it.
use Rattle.std.specs.Prelude.{ℕ, Bool, true, false, List, Result, Ok, Err, codes}
use Rattle.es3_objects.specs.declared.value.Value.{Value}
use Rattle.es3_objects.specs.declared.value.Value.TheVariants as v
use Rattle.es3_objects.specs.declared.value.Class.{Class}
use Rattle.es3_objects.specs.declared.value.Class.TheVariants as class
use Rattle.es3_heap.specs.Objects.{Objects, object_at, class_of}
use Rattle.heap_rows.specs.Marks.{is_frozen}
use Rattle.heap_rows.specs.Doing.{Done}
use Rattle.row_outcomes.specs.Comes.{throws}
use Rattle.builtin_array.specs.declared.receivers.Unfit.{Unfit}
use Rattle.builtin_array.specs.declared.receivers.Unfit.TheVariants as unfit

abbrev pub message_of : Unfit → List ℕ
message_of unfit.Other = codes "bad receiver"
message_of unfit.Frozen = codes "not writable"

abbrev pub array_of_class : Class → ℕ → Result ℕ Unfit
array_of_class class.Array o = Ok o
array_of_class c o = Err unfit.Other

abbrev pub array_of : Objects → Value → Result ℕ Unfit
array_of h (v.Obj o) = array_of_class (class_of (object_at h o)) o
array_of h x = Err unfit.Other

abbrev pub unless_frozen : Bool → ℕ → Result ℕ Unfit
unless_frozen true o = Err unfit.Frozen
unless_frozen false o = Ok o

abbrev pub opened : Objects → Result ℕ Unfit → Result ℕ Unfit
opened h (Ok o) = unless_frozen (is_frozen h o) o
opened h (Err why) = Err why

abbrev pub open_array_of : Objects → Value → Result ℕ Unfit
open_array_of h x = opened h (array_of h x)

-- what is done with the receiver, or the TypeError that is thrown in its place
abbrev pub on_receiver : Result ℕ Unfit → ℕ → Objects → (ℕ → Done) → Done
on_receiver (Ok o) by h answer = answer o
on_receiver (Err why) by h answer = throws (message_of why) by h
