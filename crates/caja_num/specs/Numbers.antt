-- The numbers of the language, and its operators as partial functions of integers. Sections are those of ES3, ECMA-262 third edition.
-- An operator has the standard's result where that is an integer in range, and no value where it is a fraction, not a number,
-- an infinity or out of range. Negative zero is 0.
use Rattle.std.specs.Prelude.{ℕ, ◌-◌, ◌%◌, ◌^◌, ℤ, pos, negsuc, ◌+ℤ◌, ◌-ℤ◌, ◌*ℤ◌, neg_ℤ, unsigned_abs, int_lt, int_div, int_rem, ◌==◌, ◌&&◌, not, Bool, Option, Some, None, Result, Ok, Err, if◌then◌else◌, bit_and, bit_or, bit_xor}
use Rattle.std.specs.Int.{w32, bit_not, int_div_euclid, int_rem_euclid}
use Rattle.caja_num.specs.declared.NumberFault.{NumberFault}

-- 8.5: the numbers from -(2^53 - 1) to 2^53 - 1
abbrev pub is_whole : ℤ → Bool
is_whole n = int_lt (negsuc (2 ^ 53 - 1)) n && int_lt n (pos (2 ^ 53))

-- 8.5: an integer as a number, where it is one
abbrev pub whole : ℤ → Option ℤ
whole n = if is_whole n then Some n else None

-- an operator's answer: its value, or a fault where it has none
abbrev pub or_fault : Option ℤ → Result ℤ NumberFault
or_fault None = Err (record {})
or_fault (Some n) = Ok n

-- 11.6.1, 11.6.3: a + b
abbrev pub sum : ℤ → ℤ → Option ℤ
sum a b = whole (a +ℤ b)

-- 11.6.2, 11.6.3: a - b
abbrev pub difference : ℤ → ℤ → Option ℤ
difference a b = whole (a -ℤ b)

-- 11.5.1: a * b
abbrev pub product : ℤ → ℤ → Option ℤ
product a b = whole (a *ℤ b)

-- 11.5: a divisor for which there is no quotient and no remainder
abbrev pub is_zero : ℤ → Bool
is_zero n = unsigned_abs n == 0

-- 11.5.2: d isn't 0, and n / d is no fraction
abbrev pub divides : ℤ → ℤ → Bool
divides d n = not (is_zero d) && (unsigned_abs n % unsigned_abs d == 0)

-- 11.5.2: a / b
abbrev pub quotient : ℤ → ℤ → Option ℤ
quotient a b = if divides b a then whole (int_div a b) else None

-- 11.5.3: a % b, what is left of a once b times the truncated quotient is taken away: it has the sign of a
abbrev pub remainder : ℤ → ℤ → Option ℤ
remainder a b = if is_zero b then None else whole (int_rem a b)

-- 11.4.7: -a
abbrev pub negated : ℤ → ℤ
negated a = neg_ℤ a

-- 9.6: n modulo 2^32, from 0 on
abbrev pub to_uint32 : ℤ → ℤ
to_uint32 n = int_rem_euclid n (pos (2 ^ 32))

-- 9.5: n modulo 2^32, less 2^32 from 2^31 on
abbrev pub to_int32 : ℤ → ℤ
to_int32 n = let k = to_uint32 n in if int_lt k (pos (2 ^ 31)) then k else k -ℤ pos (2 ^ 32)

-- 9.6: the 32 bits of the two's complement of n, as the natural number that they write
abbrev pub bits_of : ℤ → ℕ
bits_of n = unsigned_abs (to_uint32 n)

-- 11.7: how far a shift goes, the last five bits of ToUint32 of its right side
abbrev pub shift_count : ℤ → ℕ
shift_count b = bits_of b % 32

-- 11.7.1: a << b, a product modulo 2^32
abbrev pub shift_left : ℤ → ℤ → ℤ
shift_left a b = to_int32 (to_int32 a *ℤ pos (2 ^ shift_count b))

-- 11.7.2: a >> b, the quotient of ToInt32 of a, rounded down
abbrev pub shift_right : ℤ → ℤ → ℤ
shift_right a b = int_div_euclid (to_int32 a) (pos (2 ^ shift_count b))

-- 11.7.3: a >>> b, the quotient of ToUint32 of a, rounded down
abbrev pub shift_right_unsigned : ℤ → ℤ → ℤ
shift_right_unsigned a b = int_div_euclid (to_uint32 a) (pos (2 ^ shift_count b))

-- 11.4.8: ~a, each of the 32 bits turned
abbrev pub bit_not_of : ℤ → ℤ
bit_not_of a = to_int32 (pos (bit_not w32 (bits_of a)))

-- 11.10: a & b, a | b, a ^ b, bit by bit
abbrev pub bit_and_of : ℤ → ℤ → ℤ
bit_and_of a b = to_int32 (pos (bit_and (bits_of a) (bits_of b)))

abbrev pub bit_or_of : ℤ → ℤ → ℤ
bit_or_of a b = to_int32 (pos (bit_or (bits_of a) (bits_of b)))

abbrev pub bit_xor_of : ℤ → ℤ → ℤ
bit_xor_of a b = to_int32 (pos (bit_xor (bits_of a) (bits_of b)))
