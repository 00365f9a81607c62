-- Operators (ES3 11.4 to 11.10). Their operands are the values 0 and 1.
use Rattle.std.specs.Prelude.{ℤ, pos, Bool, true, false, not, ◌&&◌, ◌||◌, Option, Some, int_lt, if◌then◌else◌}
use Rattle.std.specs.Ordering.{int_eq}
use Rattle.caja_num.specs.Numbers.{sum, difference, product, quotient, remainder, negated, shift_left, shift_right, shift_right_unsigned, bit_not_of, bit_and_of, bit_or_of, bit_xor_of}
use Rattle.caja_units.specs.Units.{comes_before}
use Rattle.es3_tree.specs.declared.UnOp.{UnOp}
use Rattle.es3_tree.specs.declared.UnOp.TheVariants as un
use Rattle.es3_tree.specs.declared.BinOp.{BinOp}
use Rattle.es3_tree.specs.declared.BinOp.TheVariants as bin
use Rattle.rows.specs.Rows.{Handle, undefined, truth, number, text, held, Sight, nothing, a_null, a_truth, a_number, a_text, answers, Row, ends, as_text, as_number, as_same, looks}
use Rattle.rows.specs.Core.{seen_true}
use Rattle.rows.specs.Guards.{plus, instance_of, in_pub, type_of, number_end}

abbrev pub tells : Bool → Row
tells b = ends (answers (truth b))

abbrev pub tells_not : Bool → Row
tells_not b = tells (not b)

-- 11.5 to 11.10: both sides as numbers, the left one first
abbrev pub on_numbers : (ℤ → ℤ → Option ℤ) → Row
on_numbers f = as_number (held 0) (λ a. as_number (held 1) (λ b. ends (number_end (f a b))))

-- 9.1: an object as its text; what is no object is itself
abbrev pub is_object : Sight → Bool
is_object nothing = false
is_object a_null = false
is_object (a_truth b) = false
is_object (a_number n) = false
is_object (a_text us) = false
is_object s = true

abbrev pub primitive_seen : Handle → (Handle → Sight → Row) → Sight → Row
primitive_seen x go s = if is_object s then as_text x (λ us. go (text us) (a_text us)) else go x s

abbrev pub as_primitive : Handle → (Handle → Sight → Row) → Row
as_primitive x go = looks x (primitive_seen x go)

-- 11.8.5: two texts by their units, all others by their numbers
abbrev pub less_primitives : Handle → Sight → Handle → Sight → (Bool → Row) → Row
less_primitives x (a_text us) y (a_text vs) go = go (comes_before us vs)
less_primitives x s y t go = as_number x (λ a. as_number y (λ b. go (int_lt a b)))

-- 11.8.5: x < y
abbrev pub is_less : Handle → Handle → (Bool → Row) → Row
is_less x y go = as_primitive x (λ p s. as_primitive y (λ q t. less_primitives p s q t go))

-- 11.9.3, steps 18 and 19: a truth value counts as its number
abbrev pub counted : Handle → Sight → (Handle → Sight → Row) → Row
counted x (a_truth b) go = if b then go (number (pos 1)) (a_number (pos 1)) else go (number (pos 0)) (a_number (pos 0))
counted x s go = go x s

abbrev pub is_nothing : Sight → Bool
is_nothing nothing = true
is_nothing a_null = true
is_nothing s = false

-- 11.9.3, steps 16 and 17: a number and a text are compared as numbers
abbrev pub equal_primitives : Handle → Sight → Handle → Sight → (Bool → Row) → Row
equal_primitives x (a_number a) y (a_text us) go = as_number y (λ b. go (int_eq a b))
equal_primitives x (a_text us) y (a_number b) go = as_number x (λ a. go (int_eq a b))
equal_primitives x s y t go = as_same x y go

-- 11.9.3 of two values that are no truth values: undefined and null are equal to each other, and to nothing else; an object is compared with a number or a text
-- as its text
abbrev pub equal_seen : Handle → Sight → Handle → Sight → (Bool → Row) → Row
equal_seen x s y t go =
    if is_nothing s || is_nothing t then go (is_nothing s && is_nothing t)
    else if is_object s && is_object t then as_same x y go
    else if is_object s then as_text x (λ us. equal_primitives (text us) (a_text us) y t go)
    else if is_object t then as_text y (λ us. equal_primitives x s (text us) (a_text us) go)
    else equal_primitives x s y t go

-- 11.9.3: x == y
abbrev pub is_equal : Handle → Handle → (Bool → Row) → Row
is_equal x y go = looks x (λ s. counted x s (λ p u. looks y (λ t. counted y t (λ q v. equal_seen p u q v go))))

-- 11.9.6: x === y
abbrev pub same : Row
same = as_same (held 0) (held 1) tells

-- 11.5 to 11.10: what `x op y` gives
abbrev pub binary_row : BinOp → Row
binary_row bin.Mul = on_numbers product
binary_row bin.Div = on_numbers quotient
binary_row bin.Rem = on_numbers remainder
binary_row bin.Add = plus
binary_row bin.Sub = on_numbers difference
binary_row bin.Shl = on_numbers (λ a b. Some (shift_left a b))
binary_row bin.Shr = on_numbers (λ a b. Some (shift_right a b))
binary_row bin.Ushr = on_numbers (λ a b. Some (shift_right_unsigned a b))
binary_row bin.Less = is_less (held 0) (held 1) tells
binary_row bin.Greater = is_less (held 1) (held 0) tells
binary_row bin.LessEq = is_less (held 1) (held 0) tells_not
binary_row bin.GreaterEq = is_less (held 0) (held 1) tells_not
binary_row bin.InstanceOf = instance_of
binary_row bin.InObject = in_pub
binary_row bin.Equal = is_equal (held 0) (held 1) tells
binary_row bin.NotEqual = is_equal (held 0) (held 1) tells_not
binary_row bin.Same = same
binary_row bin.NotSame = as_same (held 0) (held 1) tells_not
binary_row bin.BitAnd = on_numbers (λ a b. Some (bit_and_of a b))
binary_row bin.BitXor = on_numbers (λ a b. Some (bit_xor_of a b))
binary_row bin.BitOr = on_numbers (λ a b. Some (bit_or_of a b))

abbrev pub on_number : (ℤ → ℤ) → Row
on_number f = as_number (held 0) (λ a. ends (answers (number (f a))))

-- 11.4.6: the number of a value
abbrev pub to_number : Row
to_number = on_number (λ a. a)

-- 11.3, 11.4.4, 11.4.5: one more, or one less
abbrev pub next_number : Bool → Row
next_number up = as_number (held 0) (λ a. ends (number_end (if up then sum a (pos 1) else difference a (pos 1))))

-- 11.4: what `op x` gives; a member is deleted by a guard, and of a value `delete` gives true
abbrev pub unary_row : UnOp → Row
unary_row un.Delete = tells true
unary_row un.Void = ends (answers undefined)
unary_row un.Typeof = type_of
unary_row un.Plus = to_number
unary_row un.Minus = on_number negated
unary_row un.BitNot = on_number bit_not_of
unary_row un.Not = looks (held 0) (λ s. tells_not (seen_true s))
