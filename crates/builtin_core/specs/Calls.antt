-- What the methods of functions come to (ES3 15.3.4).
use Rattle.std.specs.Prelude.{ℕ, Bool, true, List, [], Option, Some, None, codes, if◌then◌else◌}
use Rattle.es3_objects.specs.declared.value.Value.{Value}
use Rattle.es3_objects.specs.declared.value.Value.TheVariants as v
use Rattle.es3_heap.specs.Objects.{Objects, object_at, class_of}
use Rattle.es3_convert.specs.Conversions.{array_items}
use Rattle.es3_language.specs.Natives.{invoke_reply}
use Rattle.heap_rows.specs.Doing.{Done}
use Rattle.row_outcomes.specs.Comes.{throws}
use Rattle.builtin_core.specs.Seeing.{is_class_array}

-- a call in the place of the method's own, which is recorded: the function, the receiver, the arguments
abbrev pub invokes : Value → Value → List Value → Objects → Done
invokes f this args h = record { reply = invoke_reply true f this args; heap = h; items = [] }

-- 15.3.4.3: the arguments that a value stands for: none where it is undefined or null, the items of an array; it is bad where it is anything else
abbrev pub items_if : Bool → List Value → Option (List Value)
items_if b xs = if b then Some xs else None

abbrev pub arguments_in : Objects → Value → Option (List Value)
arguments_in h v.Undefined = Some []
arguments_in h v.Null = Some []
arguments_in h (v.Obj o) = items_if (is_class_array (class_of (object_at h o))) (array_items h o)
arguments_in h x = None

abbrev pub invokes_with : Value → Value → Option (List Value) → ℕ → Objects → Done
invokes_with f this (Some args) by h = invokes f this args h
invokes_with f this None by h = throws (codes "bad argument") by h

-- 15.3.4.3, 15.3.4.4: the receiver is a function
abbrev pub on_function : Bool → Done → ℕ → Objects → Done
on_function b done by h = if b then done else throws (codes "bad receiver") by h
