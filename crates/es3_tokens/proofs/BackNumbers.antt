-- Reading back numbers: decimal digits before no point and no part of a name are the number.
use Rattle.std.proofs.Common.{◌≡◌, ℕ, zero, suc, ◌^◌, ◌<◌, ◌&&◌, ◌||◌, Bool, true, false, List, [], ◌∷◌, ◌++◌, Some, None, refl, sym, ap, ◌∙◌, arith, nat_eq, nat_lt, length, take, drop, get_or, lit<}
use Rattle.std.specs.Prelude.{pos, if◌then◌else◌}
use Rattle.std.specs.List.{list_all}
use Rattle.std.specs.Char.{digit_value}
use Rattle.std.specs.Fmt.{decimal}
use Rattle.std.specs.Str.Parse.{digits_value, AllDigits}
use Rattle.std.proofs.Math.Seq.{take-append_seam}
use Rattle.std.proofs.lemmas.Bool.Decides.{nat_tests}
use Rattle.std.proofs.lemmas.Fmt.{decimal_is_IsNumeral, decimal_digit, first_decimal}
use Rattle.es3_tree.specs.Token.{num}
use Rattle.es3_tokens.specs.Characters.{is_letter, is_digit, begins}
use Rattle.es3_tokens.specs.Numbers.{is_x}
use Rattle.es3_tokens.specs.Refusals.{goes_on, number_form, number_too_large}
use Rattle.es3_tokens.specs.Cut.{accept, point, refusal_step}
use Rattle.es3_tokens.specs.Steps.{number_step}
use Rattle.es3_tokens.proofs.BackNames.{drop_seam, prefix_seam}
use Rattle.es3_tokens.proofs.Numbers.{point_number, longest_decimal, longest_zero}
use Rattle.es3_tokens.proofs.Tests.{lt_test, ne_test}

no_digit_first : (r : List ℕ) → begins goes_on r ≡ false → begins is_digit r ≡ false
no_digit_first [] h = refl
no_digit_first (c ∷ r) h = or_last (nat_eq c 46) (is_letter c) (is_digit c) h
  where
    or_last : (a b d : Bool) → (a || (b || d)) ≡ false → d ≡ false
    or_last true b d h = absurd cc
    or_last false true d h = absurd cc
    or_last false false d h = h

no_x_first : (r : List ℕ) → begins goes_on r ≡ false → begins is_x r ≡ false
no_x_first [] h = refl
no_x_first (c ∷ r) h = grind (arith, nat_tests)

number_of : (s r : List ℕ) (v n : ℕ) → drop n s ≡ r → begins goes_on r ≡ false → v < 2 ^ 53 → number_step (Some (v, n)) s ≡ accept (num (pos v)) n
number_of s r v n d e lt =
    ap (λ b. refusal_step (if b then Some number_form else (if nat_lt v (2 ^ 53) then None else Some number_too_large)) (accept (num (pos v)) n)) (ap (begins goes_on) d ∙ e)
    ∙ ap (λ b. refusal_step (if b then None else Some number_too_large) (accept (num (pos v)) n)) (lt_test v (2 ^ 53) lt)

back_digits : (o : Bool) (c : ℕ) (w r : List ℕ) → is_digit c ≡ true → nat_eq c 48 ≡ false → list_all is_digit w ≡ true → begins goes_on r ≡ false → digits_value 10 (c ∷ w) < 2 ^ 53
    → point o ((c ∷ w) ++ r) ≡ accept (num (pos (digits_value 10 (c ∷ w)))) (length (c ∷ w))
back_digits o c w r h z a e lt =
    let k = prefix_seam is_digit w r a (no_digit_first r e) in
    point_number o c (w ++ r) h
    ∙ ap (λ x. number_step x ((c ∷ w) ++ r))
    (longest_decimal c (w ++ r) h z ∙ ap (λ (n : ℕ). Some (digits_value 10 (c ∷ take n (w ++ r)), suc n)) k ∙ ap (λ (v : List ℕ). Some (digits_value 10 (c ∷ v), suc (length w))) (take-append_seam w r))
    ∙ number_of ((c ∷ w) ++ r) r (digits_value 10 (c ∷ w)) (suc (length w)) (drop_seam w r) e lt

back_zero : (o : Bool) (r : List ℕ) → begins goes_on r ≡ false → point o (48 ∷ r) ≡ accept (num (pos 0)) 1
back_zero o r e = point_number o 48 r refl ∙ ap (λ x. number_step x (48 ∷ r)) (longest_zero r (no_x_first r e)) ∙ number_of (48 ∷ r) r 0 1 refl e (lit< tt)

digit_of : (c : ℕ) → digit_value c < 10 → is_digit c ≡ true
digit_of c h = grind (arith, nat_tests)

digits_of : (s : List ℕ) → AllDigits 10 s → list_all is_digit s ≡ true
digits_of [] h = refl
digits_of (c ∷ s) h = ap (λ b. b && list_all is_digit s) (digit_of c h.0) ∙ digits_of s h.1

by_digits : (o : Bool) (n : ℕ) (s r : List ℕ) → 0 < length s → 48 < get_or s 0 0 → AllDigits 10 s → digits_value 10 s ≡ n → n < 2 ^ 53 → begins goes_on r ≡ false → point o (s ++ r) ≡ accept (num (pos n)) (length s)
by_digits o n [] r some first h v lt e = absurd (omega arith)
by_digits o n (c ∷ s) r some first h v lt e =
    back_digits o c s r (digit_of c h.0) (ne_test c 48 (λ q. omega (arith, q))) (digits_of s h.1) e (omega (arith, v)) ∙ ap (λ (m : ℕ). accept (num (pos m)) (length (c ∷ s))) v

pub back_number : (o : Bool) (n : ℕ) (r : List ℕ) → n < 2 ^ 53 → begins goes_on r ≡ false → point o (decimal n ++ r) ≡ accept (num (pos n)) (length (decimal n))
back_number o zero r lt e = ap (λ (s : List ℕ). point o (s ++ r)) (decimal_digit 0 (lit< tt)) ∙ back_zero o r e ∙ ap (λ (s : List ℕ). accept (num (pos 0)) (length s)) (sym (decimal_digit 0 (lit< tt)))
back_number o (suc n) r lt e =
    let i = decimal_is_IsNumeral (suc n) (omega arith) in
    by_digits o (suc n) (decimal (suc n)) r i.0.0 (first_decimal (suc n) (omega arith) (omega arith)) i.0.1 i.1 lt e
