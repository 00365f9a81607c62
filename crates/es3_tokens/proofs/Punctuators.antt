-- Punctuators (ES3 7.7): where no other token, no gap and no refusal begins, the longest punctuator is the token.
use Rattle.std.proofs.Common.{◌≡◌, ℕ, zero, suc, ◌+◌, ◌≤◌, ◌<◌, ◌&&◌, ◌||◌, not, Bool, true, false, List, [], ◌∷◌, Option, Some, None, refl, sym, ap, subst, inl, inr, ◌∙◌, arith, nat_eq, nat_le, min, length, take}
use Rattle.std.specs.Prelude.{if◌then◌else◌}
use Rattle.std.specs.List.{position_from}
use Rattle.std.proofs.lemmas.Bool.Decides.{nat_tests, eqb_tells}
use Rattle.std.proofs.lemmas.List.{length-take-le}
use Rattle.caja_units.specs.Units.{same_units}
use Rattle.es3_tokens.proofs.Classes.{Plain, Sign, Solid, no_digit_no_zero}
use Rattle.es3_tokens.proofs.Gaps.{at_solid, no_refusal}
use Rattle.es3_tokens.proofs.Longest.{longest_none, longest_same}
use Rattle.es3_tokens.proofs.Tests.{and_false, and_parts, eq_of, le_of}
use Rattle.es3_tokens.specs.Characters.{begins, is_digit, is_slash, is_star}
use Rattle.es3_tokens.specs.Cut.{Step, gap_step, point, refusal_step, refuse, token_step}
use Rattle.es3_tokens.specs.Gaps.{gap}
use Rattle.es3_tokens.specs.Longest.{longest, or_shorter}
use Rattle.es3_tokens.specs.Refusals.{number_form, open_comment, refusal_at, reg_exp}
use Rattle.es3_tokens.specs.Steps.{begins_sign, is_sign, sign, sign_step}
use Rattle.es3_tokens.specs.Tokens.{made, whole_token}
use Rattle.es3_tree.specs.Token.{punct, puncts}

pub sign_token : (c : ℕ) (w : List ℕ) → Sign c → whole_token (c ∷ w) ≡ sign (c ∷ w)
sign_token c w h = rw (h.letter) (rw (no_digit_no_zero c h.digit, h.digit, h.quote) refl)

-- fronts past a length that are nothing need not be tried
pub longest_short : {A : Type 0} (f : List ℕ → Option A) (c : ℕ) (s : List ℕ) (n m : ℕ) → n ≤ m → ((j : ℕ) → n ≤ j → j < m → f (c ∷ take j s) ≡ None) → longest f m (c ∷ s) ≡ longest f n (c ∷ s)
unfolding longest
longest_short f c s n zero le h = let e : n ≡ 0 = omega arith in ap (λ k. longest f k (c ∷ s)) (sym e)
longest_short f c s n (suc m) le h =
    elim (eqb_tells n (suc m)) [
      | inl p ↦ ap (λ k. longest f k (c ∷ s)) (sym p.1)
      | inr p ↦ (let lt : n ≤ m = omega arith in
          ap (λ o. or_shorter o (suc m) (longest f m (c ∷ s))) (h m lt (omega arith)) ∙ longest_short f c s n m lt (λ j a b. h j a (omega arith)))
    ]

-- no entry has more than so many characters
abbrev short : ℕ → List (List ℕ) → Bool
short n [] = true
short n (p ∷ ps) = nat_le (length p) n && short n ps

same_lengths : (s t : List ℕ) → length t < length s → same_units s t ≡ false
same_lengths [] t h = absurd (omega arith)
same_lengths (c ∷ s) [] h = refl
same_lengths (c ∷ s) (d ∷ t) h = and_false (nat_eq c d) (same_units s t) (same_lengths s t (omega arith))

no_long_place : (k n : ℕ) (ps : List (List ℕ)) (w : List ℕ) → short k ps ≡ true → k < length w → position_from (same_units w) n ps ≡ None
no_long_place k n [] w h lt = refl
no_long_place k n (p ∷ ps) w h lt =
    let b = and_parts (nat_le (length p) k) (short k ps) h in
    let l : length p ≤ k = le_of (length p) k b.0 in
    rw (same_lengths w p (omega arith)) (no_long_place k (n + 1) ps w b.1 lt)

no_long_sign : (c : ℕ) (s : List ℕ) (j : ℕ) → 4 ≤ j → j < suc (length s) → sign (c ∷ take j s) ≡ None
no_long_sign c s j le lt = let e : length (take j s) ≡ j = length-take-le j s (omega arith) in ap (made punct) (no_long_place 4 0 puncts (c ∷ take j s) refl (omega arith))

pub longest_sign : (c : ℕ) (s : List ℕ) → longest sign (suc (length s)) (c ∷ s) ≡ longest sign (min 4 (suc (length s))) (c ∷ s)
longest_sign c s = longest_short sign c s (min 4 (suc (length s))) (suc (length s)) (omega arith) (λ j le lt. no_long_sign c s j (omega arith) lt)

pub longest_token : (c : ℕ) (s : List ℕ) → Sign c → longest whole_token (length (c ∷ s)) (c ∷ s) ≡ longest sign (min 4 (suc (length s))) (c ∷ s)
longest_token c s h = longest_same whole_token sign c s (length (c ∷ s)) (λ w. sign_token c w h) ∙ longest_sign c s

pub point_sign : (o : Bool) (c : ℕ) (s : List ℕ) → Solid c → Plain c → Sign c → point o (c ∷ s) ≡ sign_step (c ∷ s)
point_sign o c s h p g =
    at_solid o c s h ∙ ap (λ r. refusal_step r (token_step (longest whole_token (length (c ∷ s)) (c ∷ s)))) (no_refusal o c s p g.digit) ∙ ap token_step (longest_token c s g)

dot_solid : Solid 46
dot_solid = record { white = refl; line = refl; slash = refl }

dot_sign : Sign 46
dot_sign = record { letter = refl; digit = refl; quote = refl }

-- a point
pub point_dot : (o : Bool) (s : List ℕ) → point o (46 ∷ s) ≡ (if begins is_digit s then refuse number_form else sign_step (46 ∷ s))
point_dot o s = at_solid o 46 s dot_solid ∙ by_first s (begins is_digit s) (token_step (longest whole_token (length (46 ∷ s)) (46 ∷ s))) (sign_step (46 ∷ s)) (ap token_step (longest_token 46 s dot_sign))
  where
    by_first : (s : List ℕ) (b : Bool) (x y : Step) → x ≡ y → refusal_step (if b then Some number_form else None) x ≡ (if b then refuse number_form else y)
    by_first s true x y e = refl
    by_first s false x y e = e

-- a `/` that begins no comment: where an operand is wanted it would begin a regular expression (7.8.5)
no_comment : (s : List ℕ) (j : ℕ) → begins is_slash s ≡ false → begins is_star s ≡ false → gap (47 ∷ take j s) ≡ None
no_comment s zero h g = refl
no_comment [] (suc j) h g = refl
no_comment (c ∷ s) (suc j) h g = rw (h, g) refl

slash_sign : Sign 47
slash_sign = record { letter = refl; digit = refl; quote = refl }

pub point_slash : (o : Bool) (s : List ℕ) → begins is_slash s ≡ false → begins is_star s ≡ false → point o (47 ∷ s) ≡ (if o then refuse reg_exp else sign_step (47 ∷ s))
unfolding point
point_slash o s h g =
    ap (λ q. gap_step q (refusal_step (refusal_at o (47 ∷ s)) (token_step (longest whole_token (length (47 ∷ s)) (47 ∷ s)))))
    (longest_none gap 47 s (length (47 ∷ s)) (λ j lt. no_comment s j h g))
    ∙ ap (λ b. refusal_step (if b then Some open_comment else (if o then Some reg_exp else None)) (token_step (longest whole_token (length (47 ∷ s)) (47 ∷ s)))) g
    ∙ by_flag o (token_step (longest whole_token (length (47 ∷ s)) (47 ∷ s))) (sign_step (47 ∷ s)) (ap token_step (longest_token 47 s slash_sign))
  where
    by_flag : (o : Bool) (x y : Step) → x ≡ y → refusal_step (if o then Some reg_exp else None) x ≡ (if o then refuse reg_exp else y)
    by_flag true x y e = refl
    by_flag false x y e = e

-- where no refusal and no comment stands, the longest punctuator is the token
pub point_punctuator : (o : Bool) (c : ℕ) (s : List ℕ) → begins_sign c ≡ true → is_sign o (c ∷ s) ≡ true → point o (c ∷ s) ≡ sign_step (c ∷ s)
point_punctuator o c s h g = by_class o c s (is_slash c) (nat_eq c 46) refl refl h g
  where
    sign_of : (c : ℕ) → begins_sign c ≡ true → Sign c
    sign_of c h = record { letter = grind (arith, nat_tests); digit = grind (arith, nat_tests); quote = grind (arith, nat_tests) }

    solid_of : (c : ℕ) → begins_sign c ≡ true → is_slash c ≡ false → Solid c
    solid_of c h e = record { white = grind (arith, nat_tests); line = grind (arith, nat_tests); slash = e }

    plain_of : (c : ℕ) → begins_sign c ≡ true → is_slash c ≡ false → nat_eq c 46 ≡ false → Plain c
    plain_of c h e f = record { backslash = grind (arith, nat_tests); quote = grind (arith, nat_tests); slash = e; dot = f }

    at_dot : (o b : Bool) (s : List ℕ) → begins is_digit s ≡ b → is_sign o (46 ∷ s) ≡ true → point o (46 ∷ s) ≡ sign_step (46 ∷ s)
    at_dot o true s e g = absurd (let q : false ≡ true = ap (λ b. not b && true) (sym e) ∙ g in cc q)
    at_dot o false s e g = point_dot o s ∙ ap (λ b. if b then refuse number_form else sign_step (46 ∷ s)) e

    at_slash : (o a b : Bool) (s : List ℕ) → begins is_slash s ≡ a → begins is_star s ≡ b → not (o || a || b) ≡ true → point o (47 ∷ s) ≡ sign_step (47 ∷ s)
    at_slash true a b s e f g = absurd cc
    at_slash false true b s e f g = absurd cc
    at_slash false false true s e f g = absurd cc
    at_slash false false false s e f g = point_slash false s e f

    by_class : (o : Bool) (c : ℕ) (s : List ℕ) (a b : Bool) → is_slash c ≡ a → nat_eq c 46 ≡ b → begins_sign c ≡ true → is_sign o (c ∷ s) ≡ true → point o (c ∷ s) ≡ sign_step (c ∷ s)
    by_class o c s false false e f h g = point_sign o c s (solid_of c h e) (plain_of c h e f) (sign_of c h)
    by_class o c s a true e f h g =
        let q = eq_of c 46 f in
        subst (λ (c : ℕ). point o (c ∷ s) ≡ sign_step (c ∷ s)) (sym q) (at_dot o (begins is_digit s) s refl (subst (λ (c : ℕ). is_sign o (c ∷ s) ≡ true) q g))
    by_class o c s true false e f h g =
        let q = eq_of c 47 e in
        subst (λ (c : ℕ). point o (c ∷ s) ≡ sign_step (c ∷ s)) (sym q) (at_slash o (begins is_slash s) (begins is_star s) s refl refl (subst (λ (c : ℕ). is_sign o (c ∷ s) ≡ true) q g))
