-- The numbers of some values, from the left (ES3 9.3).
use Rattle.std.specs.Prelude.{ℤ, List, [], ◌∷◌, Result, Ok}
use Rattle.plans.specs.Plans.{Fault}
use Rattle.es3_objects.specs.declared.value.Value.{Value}
use Rattle.es3_heap.specs.Objects.{Objects}
use Rattle.es3_convert.specs.Conversions.{and_then}
use Rattle.es3_convert.specs.Numbers.{number_of}

abbrev pub numbers_of : Objects → List Value → Result (List ℤ) Fault
numbers_of h [] = Ok []
numbers_of h (x ∷ xs) = and_then (number_of h x) (λ n. and_then (numbers_of h xs) (λ ns. Ok (n ∷ ns)))
