-- What the guards that deal with functions come to, by what a function runs that modules may use.
use Rattle.std.specs.Prelude.{ℕ, Bool, true, false, List, [], Option, Some, None, codes}
use Rattle.caja_units.specs.Units.{same_units}
use Rattle.es3_objects.specs.declared.value.Value.{Value}
use Rattle.es3_objects.specs.declared.value.Value.TheVariants as v
use Rattle.es3_objects.specs.declared.value.Class.{Class}
use Rattle.es3_objects.specs.declared.value.Class.TheVariants as class
use Rattle.es3_objects.specs.declared.value.FuncKind.{FuncKind}
use Rattle.es3_objects.specs.declared.value.FuncKind.TheVariants as kind
use Rattle.es3_heap.specs.Objects.{Objects, object_at, class_of}
use Rattle.es3_heap.specs.Properties.{own, value_of}
use Rattle.es3_language.specs.Natives.{invoke_reply}
use Rattle.rows.specs.Rows as r
use Rattle.rows.specs.Guards.{maker_name}
use Rattle.heap_rows.specs.Natives.{maker_at}
use Rattle.heap_rows.specs.Doing.{Done, text_in, gives}
use Rattle.row_outcomes.specs.Comes.{throws}
use Rattle.public_properties.specs.Reading.{public_read}
use Rattle.public_properties.specs.Functions.{function_kind}

-- a call in the place of the guard's own, recorded or not
abbrev pub invokes : Bool → Value → Value → List Value → Objects → Done
invokes recorded f this args h = record { reply = invoke_reply recorded f this args; heap = h; items = [] }

-- callPub: a value's method
abbrev pub method_call : Option FuncKind → Value → Value → List Value → ℕ → Objects → Done
method_call None f o args by h = throws (codes "not a function") by h
method_call (Some k) f o args by h = invokes true f o args h

abbrev pub call_answer : Value → List Value → ℕ → Objects → List ℕ → Done
call_answer o args by h us = method_call (function_kind h (public_read h o us)) (public_read h o us) o args by h

-- asSimpleFunc
abbrev pub simple_answer : Option FuncKind → Value → ℕ → Objects → Done
simple_answer None f by h = throws (codes "not a function") by h
simple_answer (Some (kind.Exophoric n wanted)) f by h = throws (codes "bad receiver") by h
simple_answer (Some k) f by h = gives f h []

-- construct
abbrev pub construct_answer : Option FuncKind → Value → List Value → ℕ → Objects → Done
construct_answer (Some (kind.Constructor n)) f args by h = invokes false f v.Undefined args h
construct_answer k f args by h = throws (codes "not a constructor") by h

-- instanceOf: the errors that a constructor makes, of which each is one of `Error` too
abbrev pub is_error_class : Class → Bool
is_error_class class.Error = true
is_error_class c = false

abbrev pub named_error : Class → List ℕ → Objects → ℕ → Bool
named_error class.Error name h o = same_units (text_in (value_of (own h o (codes "name")))) name
named_error c name h o = false

abbrev pub object_made_by : Option r.Maker → Objects → ℕ → Bool
object_made_by None h o = false
object_made_by (Some r.error) h o = is_error_class (class_of (object_at h o))
object_made_by (Some maker) h o = named_error (class_of (object_at h o)) (maker_name maker) h o

abbrev pub made_by_maker : Option r.Maker → Objects → Value → Bool
made_by_maker maker h (v.Obj o) = object_made_by maker h o
made_by_maker maker h x = false

abbrev pub made_by_kind : FuncKind → Objects → Value → Bool
made_by_kind (kind.Constructor n) h x = made_by_maker (maker_at n) h x
made_by_kind k h x = false

abbrev pub instance_answer : Option FuncKind → Value → ℕ → Objects → Done
instance_answer None x by h = throws (codes "not a function") by h
instance_answer (Some k) x by h = gives (v.Bool (made_by_kind k h x)) h []
