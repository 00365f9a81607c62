-- The texts of some values, from the left (ES3 9.8).
use Rattle.std.specs.Prelude.{ℕ, List, [], ◌∷◌, Result, Ok}
use Rattle.plans.specs.Plans.{Fault}
use Rattle.es3_objects.specs.declared.value.Value.{Value}
use Rattle.es3_heap.specs.Objects.{Objects}
use Rattle.es3_convert.specs.Conversions.{and_then, text_of}

abbrev pub texts_of : Objects → List Value → Result (List (List ℕ)) Fault
texts_of h [] = Ok []
texts_of h (x ∷ xs) = and_then (text_of h x) (λ us. and_then (texts_of h xs) (λ rest. Ok (us ∷ rest)))
