-- Gaps (ES3 7.2, 7.3): white space and line terminators, and points where there is no gap.
use Rattle.std.proofs.Common.{◌≡◌, ℕ, Bool, true, false, List, ◌∷◌, Some, None, refl, ap, arith, length, take}
use Rattle.std.specs.Prelude.{if◌then◌else◌}
use Rattle.es3_tokens.proofs.Classes.{Plain, Solid, no_digit_no_zero}
use Rattle.es3_tokens.proofs.Longest.{longest_is, longest_none, taken_some}
use Rattle.es3_tokens.specs.Characters.{is_digit, is_empty, is_line, is_white}
use Rattle.es3_tokens.specs.Cut.{gap_step, point, refusal_step, refuse, skip, token_step}
use Rattle.es3_tokens.specs.Gaps.{gap}
use Rattle.es3_tokens.specs.Longest.{longest}
use Rattle.es3_tokens.specs.Numbers.{number}
use Rattle.es3_tokens.specs.Refusals.{escape_in_name, number_fault, refusal_at}
use Rattle.es3_tokens.specs.Tokens.{whole_token}

gap_none : (c : ℕ) (w : List ℕ) → Solid c → gap (c ∷ w) ≡ None
gap_none c w h = rw (h.white, h.line, h.slash) refl

-- where there is no gap, a point is a refusal or a token
pub at_solid : (o : Bool) (c : ℕ) (s : List ℕ) → Solid c → point o (c ∷ s) ≡ refusal_step (refusal_at o (c ∷ s)) (token_step (longest whole_token (length (c ∷ s)) (c ∷ s)))
unfolding point
at_solid o c s h = ap (λ g. gap_step g (refusal_step (refusal_at o (c ∷ s)) (token_step (longest whole_token (length (c ∷ s)) (c ∷ s))))) (longest_none gap c s (length (c ∷ s)) (λ j lt. gap_none c (take j s) h))

number_none : (c : ℕ) (w : List ℕ) → is_digit c ≡ false → number (c ∷ w) ≡ None
number_none c w h = let z = no_digit_no_zero c h in rw (z, h) refl

-- where no refusal stands
pub no_refusal : (o : Bool) (c : ℕ) (s : List ℕ) → Plain c → is_digit c ≡ false → refusal_at o (c ∷ s) ≡ None
no_refusal o c s h d = rw (h.backslash, h.quote, h.slash, h.dot) (ap (λ r. number_fault r (c ∷ s)) (longest_none number c s (length (c ∷ s)) (λ j lt. number_none c (take j s) d)))

-- white space and line terminators
some_if : (a b : Bool) (x : Bool) → a ≡ b → (if a then Some x else None) ≡ (if b then Some x else None)
some_if a b x e = ap (λ b. if b then Some x else None) e

pub point_white : (o : Bool) (c : ℕ) (s : List ℕ) → is_white c ≡ true → point o (c ∷ s) ≡ skip false 1
unfolding point
point_white o c s h = ap (λ g. gap_step g (refusal_step (refusal_at o (c ∷ s)) (token_step (longest whole_token (length (c ∷ s)) (c ∷ s)))))
    (longest_is gap c s 0 (length (c ∷ s)) false (omega arith) (rw h refl) (λ j lt le. rw h (some_if (is_empty (take j s)) false false (taken_some s j lt (omega arith)))))

pub point_line : (o : Bool) (c : ℕ) (s : List ℕ) → is_white c ≡ false → is_line c ≡ true → point o (c ∷ s) ≡ skip true 1
unfolding point
point_line o c s n h = ap (λ g. gap_step g (refusal_step (refusal_at o (c ∷ s)) (token_step (longest whole_token (length (c ∷ s)) (c ∷ s)))))
    (longest_is gap c s 0 (length (c ∷ s)) true (omega arith) (rw (n, h) refl) (λ j lt le. rw (n, h) (some_if (is_empty (take j s)) false true (taken_some s j lt (omega arith)))))

-- a backslash
pub point_backslash : (o : Bool) (s : List ℕ) → point o (92 ∷ s) ≡ refuse escape_in_name
point_backslash o s = at_solid o 92 s (record { white = refl; line = refl; slash = refl })
