-- Numbers (ES3 7.8.3): where a digit stands, the longest number is the token, unless a refusal stands there.
use Rattle.std.proofs.Common.{◌≡◌, ℕ, zero, suc, ◌≤◌, ◌<◌, ◌&&◌, not, Bool, true, false, List, [], ◌∷◌, pos, Option, Some, None, refl, sym, ap, ◌∙◌, arith, nat_eq, length, take}
use Rattle.std.specs.Prelude.{if◌then◌else◌}
use Rattle.std.specs.Str.Parse.{digits_value}
use Rattle.std.specs.List.{list_all, prefix_len}
use Rattle.es3_tokens.proofs.Classes.{digit_no_letter, digit_plain, digit_solid, no_place}
use Rattle.es3_tokens.proofs.Gaps.{at_solid}
use Rattle.es3_tokens.proofs.Longest.{longest_is, longest_same, longest_while, or_else_none, passes, prefix_within, stops, taken_some, where_all}
use Rattle.es3_tokens.proofs.Tests.{and_false}
use Rattle.es3_tokens.specs.Characters.{begins, is_digit, is_empty, is_hex}
use Rattle.es3_tokens.specs.Cut.{point, refusal_step, token_step}
use Rattle.es3_tokens.specs.Longest.{longest, or_shorter}
use Rattle.es3_tokens.specs.Numbers.{is_x, number}
use Rattle.es3_tokens.specs.Refusals.{refusal_at}
use Rattle.es3_tokens.specs.Steps.{number_step, with_number}
use Rattle.es3_tokens.specs.Tokens.{made, whole_token}
use Rattle.es3_tree.specs.Token.{Token, num, puncts}

or_made : (a : Option ℕ) (n : ℕ) (r : Option (ℕ × ℕ)) (t : Option (Token × ℕ)) → t ≡ with_number r → or_shorter (made (λ n. num (pos n)) a) n t ≡ with_number (or_shorter a n r)
or_made None n r t e = e
or_made (Some a) n r t e = refl

longest_made : (m : ℕ) (s : List ℕ) → longest (λ w. made (λ n. num (pos n)) (number w)) m s ≡ with_number (longest number m s)
unfolding longest
longest_made zero s = refl
longest_made (suc m) s = or_made (number (take (suc m) s)) (suc m) (longest number m s) (longest (λ w. made (λ n. num (pos n)) (number w)) m s) (longest_made m s)

number_token : (c : ℕ) (w : List ℕ) → is_digit c ≡ true → whole_token (c ∷ w) ≡ made (λ n. num (pos n)) (number (c ∷ w))
number_token c w h =
    let p = digit_plain c h in
    rw (digit_no_letter c h) (rw (p.quote) (rw (no_place is_digit 0 c w puncts h refl) (or_else_none (made (λ n. num (pos n)) (number (c ∷ w))))))

pub point_number : (o : Bool) (c : ℕ) (s : List ℕ) → is_digit c ≡ true → point o (c ∷ s) ≡ number_step (longest number (suc (length s)) (c ∷ s)) (c ∷ s)
point_number o c s h =
    let p = digit_plain c h in
    at_solid o c s (digit_solid c h)
    ∙ ap (refusal_step (refusal_at o (c ∷ s))) (ap token_step (longest_same whole_token (λ w. made (λ n. num (pos n)) (number w)) c s (suc (length s)) (λ w. number_token c w h) ∙ longest_made (suc (length s)) (c ∷ s)))
    ∙ rw (p.backslash, p.quote, p.slash, p.dot) refl

-- decimal numbers
number_while : (c : ℕ) (w : List ℕ) → is_digit c ≡ true → nat_eq c 48 ≡ false → number (c ∷ w) ≡ where_all is_digit (λ w. digits_value 10 (c ∷ w)) w
number_while c w h z = rw (z, h) refl

pub longest_decimal : (c : ℕ) (s : List ℕ) → is_digit c ≡ true → nat_eq c 48 ≡ false → longest number (suc (length s)) (c ∷ s) ≡ Some (digits_value 10 (c ∷ take (prefix_len is_digit s) s), suc (prefix_len is_digit s))
longest_decimal c s h z = longest_while number is_digit (λ w. digits_value 10 (c ∷ w)) c s (λ w. number_while c w h z)

-- a zero, and hexadecimal numbers
zero_alone : (s : List ℕ) (j : ℕ) → begins is_x s ≡ false → 0 < j → j < suc (length s) → number (48 ∷ take j s) ≡ None
zero_alone s zero h lt le = absurd (omega arith)
zero_alone [] (suc j) h lt le = absurd (omega arith)
zero_alone (x ∷ s) (suc j) h lt le = rw h refl

pub longest_zero : (s : List ℕ) → begins is_x s ≡ false → longest number (suc (length s)) (48 ∷ s) ≡ Some (0, 1)
longest_zero s h = longest_is number 48 s 0 (suc (length s)) 0 (omega arith) refl (λ j lt le. zero_alone s j h lt le)

none_if : (b : Bool) (n : ℕ) → b ≡ false → (if b then Some n else None) ≡ None
none_if b n e = ap (λ b. if b then Some n else None) e

some_if : (b : Bool) (n : ℕ) → b ≡ true → (if b then Some n else None) ≡ Some n
some_if b n e = ap (λ b. if b then Some n else None) e

dead : (a : Bool) → (a && false && true) ≡ false
dead true = refl
dead false = refl

no_hex : (x : ℕ) (s : List ℕ) (j : ℕ) → prefix_len is_hex s ≡ 0 → 0 < j → j < suc (suc (length s)) → number (48 ∷ take j (x ∷ s)) ≡ None
no_hex x s zero e lt le = absurd (omega arith)
no_hex x s (suc zero) e lt le = none_if (is_x x && false && true) 0 (dead (is_x x))
no_hex x s (suc (suc j)) e lt le =
    let f = stops is_hex s (suc j) (omega arith) (omega arith) in
    none_if (is_x x && not (is_empty (take (suc j) s)) && list_all is_hex (take (suc j) s)) (digits_value 16 (take (suc j) s)) (and_false (is_x x && not (is_empty (take (suc j) s))) (list_all is_hex (take (suc j) s)) f)

pub longest_no_hex : (x : ℕ) (s : List ℕ) → prefix_len is_hex s ≡ 0 → longest number (suc (suc (length s))) (48 ∷ x ∷ s) ≡ Some (0, 1)
longest_no_hex x s e = longest_is number 48 (x ∷ s) 0 (suc (suc (length s))) 0 (omega arith) refl (λ j lt le. no_hex x s j e lt le)

hex_front : (x : ℕ) (s : List ℕ) (k : ℕ) → is_x x ≡ true → is_empty (take k s) ≡ false → list_all is_hex (take k s) ≡ true → number (48 ∷ x ∷ take k s) ≡ Some (digits_value 16 (take k s))
hex_front x s k h n e = rw (h, n, e) refl

hex_past : (x : ℕ) (s : List ℕ) (j k : ℕ) → prefix_len is_hex s ≡ k → suc k < j → j < suc (suc (length s)) → number (48 ∷ take j (x ∷ s)) ≡ None
hex_past x s zero k e lt le = absurd (omega arith)
hex_past x s (suc j) k e lt le =
    let f = stops is_hex s j (omega arith) (omega arith) in
    none_if (is_x x && not (is_empty (take j s)) && list_all is_hex (take j s)) (digits_value 16 (take j s)) (and_false (is_x x && not (is_empty (take j s))) (list_all is_hex (take j s)) f)

pub longest_hex : (x : ℕ) (s : List ℕ) (k : ℕ) → is_x x ≡ true → prefix_len is_hex s ≡ k → 0 < k → longest number (suc (suc (length s))) (48 ∷ x ∷ s) ≡ Some (digits_value 16 (take k s), suc (suc k))
longest_hex x s k h e some =
    let le : k ≤ length s = omega (arith, prefix_within is_hex s) in
    longest_is number 48 (x ∷ s) (suc k) (suc (suc (length s))) (digits_value 16 (take k s)) (omega arith)
    (hex_front x s k h (taken_some s k some le) (ap (λ n. list_all is_hex (take n s)) (sym e) ∙ passes is_hex s))
    (λ j lt m. hex_past x s j k e lt m)
