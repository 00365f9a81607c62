-- The arguments of a built-in function as values, and the number that one gives where another stands for one that is undefined.
use Rattle.std.specs.Prelude.{ℕ, ℤ, List, [], Result, Ok, Err, unwrap_or, slice_get, codes}
use Rattle.plans.specs.Plans.{Fault}
use Rattle.es3_objects.specs.declared.value.Value.{Value}
use Rattle.es3_objects.specs.declared.value.Value.TheVariants as v
use Rattle.es3_objects.specs.declared.value.Stop.{Stop}
use Rattle.es3_heap.specs.Objects.{Objects}
use Rattle.es3_convert.specs.Conversions.{text_of}
use Rattle.es3_convert.specs.Numbers.{number_of}
use Rattle.es3_language.specs.Natives.{value_reply, stop_reply}
use Rattle.heap_rows.specs.Doing.{Done}
use Rattle.row_outcomes.specs.declared.Outcome.{Outcome}
use Rattle.row_outcomes.specs.declared.Outcome.TheVariants as outcome
use Rattle.row_outcomes.specs.Comes.{throws}

-- an argument, from 0, undefined where it is absent (ES3 10.1.3)
abbrev pub argument : ℕ → List Value → Value
argument i args = unwrap_or (slice_get args i) v.Undefined

abbrev pub number_argument : ℤ → Value → Objects → Result ℤ Fault
number_argument default v.Undefined h = Ok default
number_argument default x h = number_of h x

abbrev pub text_argument : List ℕ → Value → Objects → Result (List ℕ) Fault
text_argument default v.Undefined h = Ok default
text_argument default x h = text_of h x

-- a value is answered, or the run stops, and nothing changes
abbrev pub told : Result Value Fault → Objects → Done
told (Ok x) h = record { reply = value_reply x; heap = h; items = [] }
told (Err f) h = record { reply = stop_reply f; heap = h; items = [] }

-- a conversion, and then the rest
abbrev pub after : {A : Type 0} → Result A Fault → Objects → (A → Done) → Done
after (Ok x) h go = go x
after (Err f) h go = told (Err f) h

-- what a value is to a caller, or the stop in its place
abbrev pub outcome_of : Result Value Stop → Result Outcome Stop
outcome_of (Ok x) = Ok (outcome.Value x)
outcome_of (Err s) = Err s

-- what a method of texts comes to: at another receiver it throws
abbrev pub at_text : Value → ℕ → Objects → (List ℕ → Done) → Done
at_text (v.Text us) by h done = done us
at_text x by h done = throws (codes "bad receiver") by h

-- the answer of a method of texts that changes nothing
abbrev pub text_method : Value → ℕ → Objects → (List ℕ → Result Value Fault) → Done
text_method x by h answer = at_text x by h (λ us. told (answer us) h)
