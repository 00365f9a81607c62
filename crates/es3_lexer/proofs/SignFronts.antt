-- The laws of punctuators, of a point and of a slash for characters that are not split.
use Rattle.std.proofs.Common.{◌≡◌, ℕ, zero, suc, ◌-◌, ◌<◌, Bool, true, false, List, [], ◌∷◌, Option, None, refl, sym, ap, ◌∙◌, arith, nat_eq, length, take, drop, get_or}
use Rattle.std.specs.Prelude.{if◌then◌else◌}
use Rattle.es3_tokens.proofs.Classes.{Plain, Sign, Solid}
use Rattle.es3_tokens.proofs.Punctuators.{point_dot, point_sign, point_slash}
use Rattle.es3_tokens.proofs.Tests.{eq_of}
use Rattle.es3_tokens.specs.Characters.{begins, is_digit, is_slash, is_star}
use Rattle.es3_tokens.specs.Cut.{point, refuse}
use Rattle.es3_tokens.specs.Longest.{longest, or_shorter}
use Rattle.es3_tokens.specs.Refusals.{number_form, reg_exp}
use Rattle.es3_tokens.specs.Steps.{sign_step}

pub sign_front : (o : Bool) (s : List ℕ) (d : ℕ) → 0 < length s → Solid (get_or s 0 d) → Plain (get_or s 0 d) → Sign (get_or s 0 d) → point o s ≡ sign_step s
sign_front o [] d lt h p g = absurd (omega arith)
sign_front o (c ∷ s) d lt h p g = point_sign o c s h p g

pub longest_step : {A : Type 0} (f : List ℕ → Option A) (n : ℕ) (s : List ℕ) → 0 < n → longest f n s ≡ or_shorter (f (take n s)) n (longest f (n - 1) s)
unfolding longest
longest_step f zero s lt = absurd (omega arith)
longest_step f (suc n) s lt = let e : n ≡ suc n - 1 = omega arith in ap (λ k. or_shorter (f (take (suc n) s)) (suc n) (longest f k s)) e

pub longest_zero_none : {A : Type 0} (f : List ℕ → Option A) (s : List ℕ) → longest f 0 s ≡ None
unfolding longest
longest_zero_none f s = refl

pub slash_front : (o : Bool) (s w : List ℕ) → begins is_slash s ≡ true → w ≡ drop 1 s → begins is_slash w ≡ false → begins is_star w ≡ false → point o s ≡ (if o then refuse reg_exp else sign_step s)
slash_front o [] w h e f g = absurd cc
slash_front o (c ∷ s) w h e f g = let p : c ≡ 47 = eq_of c 47 h in rw p (point_slash o s (ap (begins is_slash) (sym e) ∙ f) (ap (begins is_star) (sym e) ∙ g))

pub dot_front : (o : Bool) (s w : List ℕ) (b : Bool) → begins (λ c. nat_eq c 46) s ≡ true → w ≡ drop 1 s → b ≡ begins is_digit w → point o s ≡ (if b then refuse number_form else sign_step s)
dot_front o [] w b h e f = absurd cc
dot_front o (c ∷ s) w b h e f = let p : c ≡ 46 = eq_of c 46 h in rw p (point_dot o s ∙ ap (λ b. if b then refuse number_form else sign_step (46 ∷ s)) (sym (f ∙ ap (begins is_digit) e)))
