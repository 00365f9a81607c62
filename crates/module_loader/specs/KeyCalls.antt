-- What the call of a key comes to, by the public property of the key.
use Rattle.std.specs.Prelude.{ℕ, Bool, true, false, List, Option, Some, None, codes, if◌then◌else◌}
use Rattle.es3_objects.specs.declared.value.Value.{Value}
use Rattle.es3_objects.specs.declared.value.Value.TheVariants as v
use Rattle.es3_objects.specs.declared.value.FuncKind.{FuncKind}
use Rattle.es3_heap.specs.Objects.{Objects}
use Rattle.es3_language.specs.Natives.{Reply, throw_reply, invoke_reply}
use Rattle.heap_rows.specs.Doing.{Done}
use Rattle.row_outcomes.specs.Comes.{throws}
use Rattle.public_properties.specs.Reading.{public_read}
use Rattle.public_properties.specs.Functions.{function_kind}
use Rattle.public_guards.specs.Calling.{invokes}
use Rattle.module_loader.specs.declared.events.KeyCall.{KeyCall}
use Rattle.module_loader.specs.declared.events.KeyCall.TheVariants.{Call, Throw}

-- of the call itself nothing is recorded
abbrev pub reply_of : KeyCall → Reply
reply_of (Call f this vs) = invoke_reply false f this vs.items
reply_of (Throw x) = throw_reply x

abbrev pub called_by : Option FuncKind → Value → Value → List Value → ℕ → Objects → Done
called_by None f o args by h = throws (codes "not a function") by h
called_by (Some k) f o args by h = invokes false f o args h

abbrev pub called : Value → Value → List Value → ℕ → Objects → Done
called f o args by h = called_by (function_kind h f) f o args by h

-- there is no object to look in
abbrev pub is_nothing : Value → Bool
is_nothing v.Undefined = true
is_nothing v.Null = true
is_nothing x = false

abbrev pub answer : Value → List ℕ → List Value → ℕ → Objects → Done
answer o k args by h = if is_nothing o then throws (codes "no object") by h else called (public_read h o k) o args by h
