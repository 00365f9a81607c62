-- The text of a key, where there is an object that may have it.
use Rattle.std.specs.Prelude.{ℕ, List, Option, Some, None, Result, Ok, codes}
use Rattle.plans.specs.Plans.{Fault}
use Rattle.es3_objects.specs.declared.value.Value.{Value}
use Rattle.es3_objects.specs.declared.value.Value.TheVariants as v
use Rattle.es3_heap.specs.Objects.{Objects}
use Rattle.es3_convert.specs.Conversions.{and_then, text_of}
use Rattle.heap_rows.specs.Doing.{Done}
use Rattle.row_outcomes.specs.Comes.{throws}
use Rattle.row_outcomes.specs.Arguments.{after}

-- none for undefined and null
abbrev pub object_key : Objects → Value → Value → Result (Option (List ℕ)) Fault
object_key h v.Undefined k = Ok None
object_key h v.Null k = Ok None
object_key h o k = and_then (text_of h k) (λ us. Ok (Some us))

-- what is done at the key, or the TypeError that is thrown in its place
abbrev pub on_key : Option (List ℕ) → ℕ → Objects → (List ℕ → Done) → Done
on_key None by h answer = throws (codes "no object") by h
on_key (Some us) by h answer = answer us

abbrev pub at_object : Value → Value → ℕ → Objects → (List ℕ → Done) → Done
at_object o k by h answer = after (object_key h o k) h (λ found. on_key found by h answer)
