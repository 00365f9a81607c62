-- ToInt32 as what is left of an integer in 32 bits.
use Rattle.std.proofs.Common.{◌≡◌, ℕ, ◌<◌, ◌*◌, ◌%◌, ◌^◌, ℤ, pos, negsuc, ◌*ℤ◌, sym, ap, ◌∙◌, arith, w32}
use Rattle.std.specs.Int.{int_wrap, cast_signed}
use Rattle.std.proofs.lemmas.Int.{ints, int_wrap-mul_right, wrapping_mul-bits}
use Rattle.std.proofs.lemmas.Nat.{pow_below}
use Rattle.std.proofs.Math.Nat.{mod-eq_of_lt, mod-mod}
use Rattle.std.proofs.lemmas.Bool.Decides.{nat_tests}
use Rattle.caja_num.specs.Numbers.{to_int32, bits_of, shift_count, shift_left}

-- ToInt32 reads the 32 bits as a signed word does
pub to_int32_bits : (n : ℤ) → to_int32 n ≡ cast_signed w32 (bits_of n)
to_int32_bits (pos n) = grind (arith, ints, nat_tests)
to_int32_bits (negsuc n) = grind (arith, ints, nat_tests)

to_int32-int_wrap : (n : ℤ) → to_int32 n ≡ int_wrap w32 n
unfolding int_wrap
to_int32-int_wrap n = to_int32_bits n

cast_signed-int_wrap : (n : ℕ) → n < 2 ^ 32 → cast_signed w32 n ≡ int_wrap w32 (pos n)
unfolding int_wrap
cast_signed-int_wrap n h = ap (cast_signed w32) (sym (mod-eq_of_lt h))

-- a product keeps its low 32 bits where each factor keeps its own
pub to_int32-mul : (m n : ℕ) → m < 2 ^ 32 → n < 2 ^ 32 → to_int32 (pos (m * n % 2 ^ 32)) ≡ to_int32 (cast_signed w32 m *ℤ pos n)
to_int32-mul m n p q =
    to_int32_bits (pos (m * n % 2 ^ 32))
    ∙ ap (cast_signed w32) (mod-mod (m * n) (2 ^ 32))
    ∙ wrapping_mul-bits w32 m n p q
    ∙ ap (λ k. int_wrap w32 (cast_signed w32 m *ℤ k)) (cast_signed-int_wrap n q)
    ∙ int_wrap-mul_right w32 (cast_signed w32 m) (pos n)
    ∙ sym (to_int32-int_wrap (cast_signed w32 m *ℤ pos n))

-- the word that a shift leaves
pub shift_left_bits : (a b : ℤ) (m k : ℕ) → m ≡ bits_of a → m < 2 ^ 32 → k ≡ shift_count b → k < 32 → to_int32 (pos (m * 2 ^ k % 2 ^ 32)) ≡ shift_left a b
shift_left_bits a b m k em p ek q =
    to_int32-mul m (2 ^ k) p (pow_below k 32 q)
    ∙ ap (λ n. to_int32 (cast_signed w32 n *ℤ pos (2 ^ k))) em
    ∙ ap (λ z. to_int32 (z *ℤ pos (2 ^ k))) (sym (to_int32_bits a))
    ∙ ap (λ n. to_int32 (to_int32 a *ℤ pos (2 ^ n))) ek
