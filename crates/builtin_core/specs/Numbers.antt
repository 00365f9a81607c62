-- What the functions of `Math` answer (ES3 15.8.2), and `Number` and `String` called as functions (15.7.1, 15.5.1), by the arguments and the objects.
use Rattle.std.specs.Prelude.{ℤ, pos, Bool, List, [], ◌∷◌, Result, Ok, Err, int_lt, unsigned_abs}
use Rattle.plans.specs.Plans.{Fault, number_fault}
use Rattle.es3_objects.specs.declared.value.Value.{Value}
use Rattle.es3_objects.specs.declared.value.Value.TheVariants as v
use Rattle.es3_heap.specs.Objects.{Objects}
use Rattle.es3_convert.specs.Conversions.{and_then, text_of}
use Rattle.es3_convert.specs.Numbers.{number_of}
use Rattle.rows.specs.Core.{chosen}
use Rattle.row_outcomes.specs.Arguments.{argument}
use Rattle.row_outcomes.specs.Numbers.{numbers_of}
use Rattle.builtin_core.specs.declared.math.Best.{Best}
use Rattle.builtin_core.specs.declared.math.Best.TheVariants.{Greatest, Least}

-- 15.8.2.1: abs(x)
abbrev pub abs : List Value → Objects → Result Value Fault
abs args h = and_then (number_of h (argument 0 args)) (λ n. Ok (v.Num (pos (unsigned_abs n))))

-- 15.8.2.6, 15.8.2.9, 15.8.2.15: ceil(x), floor(x), round(x); every number is whole
abbrev pub its_number : List Value → Objects → Result Value Fault
its_number args h = and_then (number_of h (argument 0 args)) (λ n. Ok (v.Num n))

-- whether a number is better than another one
abbrev pub better : Best → ℤ → ℤ → Bool
better Greatest a b = int_lt b a
better Least a b = int_lt a b

-- 15.8.2.11, 15.8.2.12: the best of some numbers; of none it is an infinity, which is no number here
abbrev pub best : (ℤ → ℤ → Bool) → List ℤ → Result Value Fault
best better [] = Err number_fault
best better (n ∷ ns) = Ok (v.Num (chosen better n ns))

abbrev pub best_from : (ℤ → ℤ → Bool) → ℤ → List Value → Objects → Result Value Fault
best_from better n xs h = and_then (numbers_of h xs) (λ ns. best better (n ∷ ns))

-- max(..), min(..)
abbrev pub best_of : (ℤ → ℤ → Bool) → List Value → Objects → Result Value Fault
best_of better args h = and_then (numbers_of h args) (best better)

-- 15.7.1.1: Number(value)
abbrev pub number_from : List Value → Objects → Result Value Fault
number_from [] h = Ok (v.Num (pos 0))
number_from (x ∷ xs) h = and_then (number_of h x) (λ n. Ok (v.Num n))

-- 15.5.1.1: String(value)
abbrev pub text_from : List Value → Objects → Result Value Fault
text_from [] h = Ok (v.Text [])
text_from (x ∷ xs) h = and_then (text_of h x) (λ us. Ok (v.Text us))
