-- What is left of a division in machine words, against the operators of integers.
use Rattle.std.proofs.Common.{◌≡◌, ◌≢◌, ℕ, zero, suc, ◌<◌, ◌≤◌, ◌%◌, ◌^◌, true, false, ℤ, pos, negsuc, neg_ℤ, unsigned_abs, refl, sym, ap, ◌∙◌, arith, FitsSigned, to_z, of_z, w64}
use Rattle.std.specs.Prelude.{int_div, int_rem, IsTrue}
use Rattle.std.proofs.lemmas.Int.{ints, quot_is, rem_is, fits_signed_from_abs}
use Rattle.std.proofs.lemmas.Bool.Decides.{nat_tests}
use Rattle.std.proofs.Math.Nat.{div-le_self}
use Rattle.caja_num.specs.Numbers.{is_whole, whole, is_zero, divides, quotient, remainder}

-- a number is below 2^53 in absolute value
pub is_whole_bound : (n : ℤ) → IsTrue (is_whole n) → unsigned_abs n < 2 ^ 53
is_whole_bound (pos n) h = grind (arith, ints)
is_whole_bound (negsuc n) h = grind (arith, ints)

abs-neg_pos : (n : ℕ) → unsigned_abs (neg_ℤ (pos n)) ≡ n
abs-neg_pos zero = refl
abs-neg_pos (suc n) = refl

-- a truncated quotient is no larger than its dividend
unsigned_abs-int_div : (a d : ℤ) → unsigned_abs (int_div a d) ≤ unsigned_abs a
unsigned_abs-int_div (pos a) (pos d) = div-le_self a d
unsigned_abs-int_div (pos a) (negsuc d) = rw abs-neg_pos (div-le_self a (suc d))
unsigned_abs-int_div (negsuc a) (pos d) = rw abs-neg_pos (div-le_self (suc a) d)
unsigned_abs-int_div (negsuc a) (negsuc d) = div-le_self (suc a) (suc d)

-- the remainder's absolute value
unsigned_abs-int_rem : (a d : ℤ) → unsigned_abs (int_rem a d) ≡ unsigned_abs a % unsigned_abs d
unsigned_abs-int_rem (pos a) d = refl
unsigned_abs-int_rem (negsuc a) d = abs-neg_pos (suc a % unsigned_abs d)

not_zero : (d : ℤ) → d ≢ pos 0 → is_zero d ≡ false
not_zero (pos zero) z = absurd (z refl)
not_zero (pos (suc d)) z = grind (arith, nat_tests)
not_zero (negsuc d) z = grind (arith, nat_tests)

-- no remainder is left exactly where the divisor divides
divides_exact : (n d : ℤ) → d ≢ pos 0 → int_rem n d ≡ pos 0 → divides d n ≡ true
divides_exact n (pos zero) z e = absurd (z refl)
divides_exact n (pos (suc d)) z e =
    let r : unsigned_abs n % suc d ≡ 0 = sym (unsigned_abs-int_rem n (pos (suc d))) ∙ ap unsigned_abs e in grind (arith, nat_tests)
divides_exact n (negsuc d) z e =
    let r : unsigned_abs n % suc d ≡ 0 = sym (unsigned_abs-int_rem n (negsuc d)) ∙ ap unsigned_abs e in grind (arith, nat_tests)

-- the word's quotient is the operator's where no remainder is left
pub quotient_exact : (a d : ℤ) → IsTrue (is_whole a) → IsTrue (is_whole d) → (of_z w64 d ≡ 0 → ⊥) → of_z w64 (int_rem (to_z w64 (of_z w64 a)) (to_z w64 (of_z w64 d))) ≡ 0 → whole (to_z w64 (of_z w64 (int_div (to_z w64 (of_z w64 a)) (to_z w64 (of_z w64 d))))) ≡ quotient a d
quotient_exact a d ha hd z e =
    let fa : FitsSigned w64 a = fits_signed_from_abs w64 a (omega (arith, is_whole_bound a ha)) in
    let fd : FitsSigned w64 d = fits_signed_from_abs w64 d (omega (arith, is_whole_bound d hd)) in
    let fq : FitsSigned w64 (int_div a d) = fits_signed_from_abs w64 (int_div a d) (omega (arith, is_whole_bound a ha, unsigned_abs-int_div a d)) in
    let r : int_rem a d ≡ pos 0 = sym (rem_is w64 a d fa fd) ∙ ap (to_z w64) e in
    let nz : d ≢ pos 0 = λ x. z (ap (of_z w64) x) in
    let t = divides_exact a d nz r in
    rw (quot_is w64 a d fa fd fq, t) refl

-- the word's remainder is the operator's
pub remainder_exact : (a d : ℤ) → IsTrue (is_whole a) → IsTrue (is_whole d) → (of_z w64 d ≡ 0 → ⊥) → whole (to_z w64 (of_z w64 (int_rem (to_z w64 (of_z w64 a)) (to_z w64 (of_z w64 d))))) ≡ remainder a d
remainder_exact a d ha hd z =
    let fa : FitsSigned w64 a = fits_signed_from_abs w64 a (omega (arith, is_whole_bound a ha)) in
    let fd : FitsSigned w64 d = fits_signed_from_abs w64 d (omega (arith, is_whole_bound d hd)) in
    rw (rem_is w64 a d fa fd, not_zero d (λ x. z (ap (of_z w64) x))) refl
