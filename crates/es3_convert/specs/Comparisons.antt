-- Truth values of values (ES3 9.2), and the comparisons that operators rest on (11.8.5, 11.9.3, 11.9.6).
use Rattle.std.specs.Prelude.{pos, Bool, true, false, ◌&&◌, not, nat_eq, int_lt, Result, Ok, if◌then◌else◌}
use Rattle.std.specs.Ordering.{int_eq}
use Rattle.plans.specs.Plans.{Fault}
use Rattle.caja_num.specs.Numbers.{is_zero}
use Rattle.caja_units.specs.Units.{same_units, comes_before}
use Rattle.es3_tokens.specs.Characters.{is_empty}
use Rattle.es3_objects.specs.declared.value.Value.{Value}
use Rattle.es3_objects.specs.declared.value.Value.TheVariants as v
use Rattle.es3_heap.specs.Objects.{Objects}
use Rattle.es3_convert.specs.Conversions.{and_then, primitive_of}
use Rattle.es3_convert.specs.Numbers.{text_number, found_number, primitive_number}

-- 9.2: ToBoolean
abbrev pub truth_of : Value → Bool
truth_of v.Undefined = false
truth_of v.Null = false
truth_of (v.Bool b) = b
truth_of (v.Num n) = not (is_zero n)
truth_of (v.Text us) = not (is_empty us)
truth_of (v.Obj o) = true

abbrev pub same_truth : Bool → Bool → Bool
same_truth a b = if a then b else not b

-- 11.9.6: x === y
abbrev pub strictly_equal : Value → Value → Bool
strictly_equal v.Undefined v.Undefined = true
strictly_equal v.Null v.Null = true
strictly_equal (v.Bool a) (v.Bool b) = same_truth a b
strictly_equal (v.Num a) (v.Num b) = int_eq a b
strictly_equal (v.Text a) (v.Text b) = same_units a b
strictly_equal (v.Obj a) (v.Obj b) = nat_eq a b
strictly_equal x y = false

-- whether a value is undefined or null
abbrev pub is_nothing : Value → Bool
is_nothing v.Undefined = true
is_nothing v.Null = true
is_nothing x = false

-- 11.9.3, steps 18 and 19: a truth value counts as its number
abbrev pub counted : Value → Value
counted (v.Bool b) = if b then v.Num (pos 1) else v.Num (pos 0)
counted x = x

-- 11.9.3, steps 16 and 17: a number and a text are compared as numbers
abbrev pub equal_primitives : Value → Value → Result Bool Fault
equal_primitives (v.Num a) (v.Text us) = and_then (found_number (text_number us)) (λ b. Ok (int_eq a b))
equal_primitives (v.Text us) (v.Num b) = and_then (found_number (text_number us)) (λ a. Ok (int_eq a b))
equal_primitives x y = Ok (strictly_equal x y)

-- 11.9.3 of two values that are no truth values. Steps 2, 3, 14, 15: undefined and null are equal to each other, and to nothing else.
-- Steps 20, 21: an object is compared with a number or a text as its primitive value
abbrev pub equal_values : Objects → Value → Value → Result Bool Fault
equal_values h (v.Obj a) (v.Obj b) = Ok (nat_eq a b)
equal_values h (v.Obj a) y = if is_nothing y then Ok false else and_then (primitive_of h (v.Obj a)) (λ p. equal_primitives p y)
equal_values h x (v.Obj b) = if is_nothing x then Ok false else and_then (primitive_of h (v.Obj b)) (λ q. equal_primitives x q)
equal_values h x y = if is_nothing x && is_nothing y then Ok true else equal_primitives x y

-- 11.9.3: x == y. Two truth values are equal where their numbers are
abbrev pub loosely_equal : Objects → Value → Value → Result Bool Fault
loosely_equal h x y = equal_values h (counted x) (counted y)

-- 11.8.5 of values that are no objects: two texts by their units, all others by their numbers
abbrev pub less_primitives : Value → Value → Result Bool Fault
less_primitives (v.Text a) (v.Text b) = Ok (comes_before a b)
less_primitives x y = and_then (found_number (primitive_number x)) (λ a. and_then (found_number (primitive_number y)) (λ b. Ok (int_lt a b)))

-- 11.8.5: x < y
abbrev pub less_of : Objects → Value → Value → Result Bool Fault
less_of h x y = and_then (primitive_of h x) (λ p. and_then (primitive_of h y) (λ q. less_primitives p q))
