-- What `Object`, `Function`, `Array` and the methods of the prototype of Object answer (ES3 15.2 to 15.4), by their receiver and their arguments.
use Rattle.std.specs.Prelude.{ℕ, List, [], ◌∷◌, Some, Ok, codes}
use Rattle.es3_objects.specs.declared.value.Value.{Value}
use Rattle.es3_objects.specs.declared.value.Value.TheVariants as v
use Rattle.es3_objects.specs.declared.value.Class.TheVariants as class
use Rattle.es3_objects.specs.declared.value.Proto.TheVariants as proto
use Rattle.es3_heap.specs.Objects.{Objects}
use Rattle.es3_heap.specs.Making.{plain_object, proto_id}
use Rattle.es3_convert.specs.Conversions.{and_then, text_of}
use Rattle.es3_language.specs.Natives.{value_reply}
use Rattle.heap_rows.specs.Doing.{Done, makes, gives}
use Rattle.row_outcomes.specs.Comes.{throws}
use Rattle.row_outcomes.specs.Arguments.{told}
use Rattle.row_outcomes.specs.Arrays.{new_array}

-- 15.2.1.1, 15.2.2.1: `Object(v)`, with and without `new`: a new object for nothing, an object itself; wrappers of other values aren't made
abbrev pub new_object : ℕ → Objects → Done
new_object by h = makes value_reply by (plain_object class.Object (Some (proto_id proto.Object))) h []

abbrev pub object_from : ℕ → Value → Objects → Done
object_from by v.Undefined h = new_object by h
object_from by v.Null h = new_object by h
object_from by (v.Obj o) h = gives (v.Obj o) h []
object_from by x h = throws (codes "not allowed") by h

-- 15.3.1.1, 15.3.2.1: no text is made a function
abbrev pub function_from : ℕ → Objects → Done
function_from by h = throws (codes "not allowed") by h

-- 15.4.1.1, 15.4.2.1: `Array(..)`, with and without `new`: an array of the arguments; one number alone, which would be a length, is refused
abbrev pub array_from : ℕ → List Value → Objects → Done
array_from by (v.Num n ∷ []) h = throws (codes "not allowed") by h
array_from by vs h = new_array by h vs

-- 15.2.4.2: `toString` is the conversion of its receiver
abbrev pub to_text : Value → Objects → Done
to_text this h = told (and_then (text_of h this) (λ us. Ok (v.Text us))) h

-- 15.2.4.4: `valueOf` answers its receiver
abbrev pub to_value : Value → Objects → Done
to_value this h = gives this h []
