-- Reading back punctuators: what no punctuator goes on from, and what begins no number, no comment and no regular expression.
use Rattle.std.proofs.Common.{◌≡◌, ℕ, zero, suc, ◌+◌, ◌<◌, ◌&&◌, not, Bool, true, false, List, [], ◌∷◌, ◌++◌, Some, None, refl, sym, ap, ◌∙◌, arith, nat_eq, length, take}
use Rattle.std.specs.List.{position_from}
use Rattle.std.proofs.Math.Seq.{take-append_seam}
use Rattle.std.proofs.lemmas.List.{length-append}
use Rattle.caja_units.specs.Units.{same_units}
use Rattle.es3_tokens.proofs.Longest.{longest_is}
use Rattle.es3_tokens.proofs.Punctuators.{longest_sign, point_punctuator}
use Rattle.es3_tokens.proofs.Tests.{and_parts, false_of}
use Rattle.es3_tokens.specs.Back.{fronts_none, is_apart, is_front}
use Rattle.es3_tokens.specs.Cut.{accept, point, token_step}
use Rattle.es3_tokens.specs.Steps.{begins_sign, is_sign, sign, sign_step}
use Rattle.es3_tokens.specs.Tokens.{made, place_in}
use Rattle.es3_tree.specs.Token.{punct, puncts}

no_same : (w z p : List ℕ) → is_front w p ≡ false → same_units (w ++ z) p ≡ false
no_same [] z p h = absurd cc
no_same (c ∷ w) z [] h = refl
no_same (c ∷ w) z (d ∷ p) h = step (nat_eq c d) (is_front w p) (same_units (w ++ z) p) h (no_same w z p)
  where
    step : (a b x : Bool) → (a && b) ≡ false → (b ≡ false → x ≡ false) → (a && x) ≡ false
    step true b x h f = f h
    step false b x h f = refl

no_longer : (n : ℕ) (ps : List (List ℕ)) (w z : List ℕ) → fronts_none w ps ≡ true → position_from (same_units (w ++ z)) n ps ≡ None
no_longer n [] w z h = refl
no_longer n (p ∷ ps) w z h =
    let a = and_parts (not (is_front w p)) (fronts_none w ps) h in
    rw (no_same w z p (false_of (is_front w p) a.0)) (no_longer (n + 1) ps w z a.1)

take_past : (w r : List ℕ) (d j : ℕ) → length w < j → (z : List ℕ) × (take j (w ++ d ∷ r) ≡ (w ++ d ∷ []) ++ z)
take_past [] r d zero lt = absurd (omega arith)
take_past [] r d (suc j) lt = (take j r, refl)
take_past (c ∷ w) r d zero lt = absurd (omega arith)
take_past (c ∷ w) r d (suc j) lt = let p = take_past w r d j (omega arith) in (p.0, ap (λ (v : List ℕ). c ∷ v) p.1)

apart_none : (c : ℕ) (w r : List ℕ) (j : ℕ) → is_apart (c ∷ w) r ≡ true → length w < j → j < suc (length (w ++ r)) → sign (c ∷ take j (w ++ r)) ≡ None
apart_none c w [] j a lt le = absurd (omega (arith, length-append w []))
apart_none c w (d ∷ r) j a lt le = let p = take_past (c ∷ w) r d (suc j) (omega arith) in ap sign p.1 ∙ ap (made punct) (no_longer 0 puncts ((c ∷ w) ++ d ∷ []) p.0 a)

-- the longest punctuator is the one that is written
longest_written : (c : ℕ) (w r : List ℕ) (n : ℕ) → place_in puncts (c ∷ w) ≡ Some n → is_apart (c ∷ w) r ≡ true → sign_step ((c ∷ w) ++ r) ≡ accept (punct n) (length (c ∷ w))
longest_written c w r n e a =
    ap token_step (sym (longest_sign c (w ++ r))
    ∙ longest_is sign c (w ++ r) (length w) (suc (length (w ++ r))) (punct n) (omega (arith, length-append w r))
    (ap (λ (v : List ℕ). sign (c ∷ v)) (take-append_seam w r) ∙ ap (made punct) e)
    (λ j lt le. apart_none c w r j a lt le))

pub back_sign : (o : Bool) (c : ℕ) (w r : List ℕ) (n : ℕ) → begins_sign c ≡ true → place_in puncts (c ∷ w) ≡ Some n → is_apart (c ∷ w) r ≡ true → is_sign o ((c ∷ w) ++ r) ≡ true → point o ((c ∷ w) ++ r) ≡ accept (punct n) (length (c ∷ w))
back_sign o c w r n h e a g = point_punctuator o c (w ++ r) h g ∙ longest_written c w r n e a
