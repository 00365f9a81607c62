-- Operators on one number and on two.
use Rattle.std.specs.Prelude.{ℤ, Option, Some, Result, Ok}
use Rattle.plans.specs.Plans.{Fault}
use Rattle.caja_num.specs.Numbers as n
use Rattle.es3_objects.specs.declared.value.Value.{Value}
use Rattle.es3_heap.specs.Objects.{Objects}
use Rattle.es3_convert.specs.Conversions.{and_then}
use Rattle.es3_convert.specs.Numbers.{number_of}
use Rattle.es3_operators.specs.declared.arithmetic.Arithmetic.{Arithmetic}
use Rattle.es3_operators.specs.declared.arithmetic.Arithmetic.TheVariants.{Product, Quotient, Remainder, Difference, ShiftLeft, ShiftRight, ShiftRightUnsigned, BitAnd, BitXor, BitOr}
use Rattle.es3_operators.specs.declared.prefixes.Sign.{Sign}
use Rattle.es3_operators.specs.declared.prefixes.Sign.TheVariants.{Plus, Minus, BitNot}

-- 11.5 to 11.7, 11.10
abbrev pub outcome : Arithmetic → ℤ → ℤ → Option ℤ
outcome Product a b = n.product a b
outcome Quotient a b = n.quotient a b
outcome Remainder a b = n.remainder a b
outcome Difference a b = n.difference a b
outcome ShiftLeft a b = Some (n.shift_left a b)
outcome ShiftRight a b = Some (n.shift_right a b)
outcome ShiftRightUnsigned a b = Some (n.shift_right_unsigned a b)
outcome BitAnd a b = Some (n.bit_and_of a b)
outcome BitXor a b = Some (n.bit_xor_of a b)
outcome BitOr a b = Some (n.bit_or_of a b)

-- the numbers of two values, that of the left one first
abbrev pub both_numbers : Objects → Value → Value → Result (ℤ × ℤ) Fault
both_numbers h x y = and_then (number_of h x) (λ a. and_then (number_of h y) (λ b. Ok (a, b)))

-- 11.4.6 to 11.4.8
abbrev pub signed : Sign → ℤ → ℤ
signed Plus a = a
signed Minus a = n.negated a
signed BitNot a = n.bit_not_of a
