-- The units of a short name, one by one.
use Rattle.std.proofs.Common.{◌≡◌, ℕ, ◌+◌, ◌<◌, ◌&&◌, eqb, Bool, true, false, List, [], ◌∷◌, length, drop, Option, Some, refl, sym, ap, ◌∙◌, arith}
use Rattle.std.specs.Prelude.{nat_eq, suc, codes}
use Rattle.std.specs.List.{slice_get, list_all}
use Rattle.std.specs.Option.{option_eq}
use Rattle.std.proofs.lemmas.Bool.Decides.{nat_tests}
use Rattle.std.proofs.lemmas.List.{at_drop_more}
use Rattle.std.proofs.lemmas.Option.{slice_get-get_or}
use Rattle.caja_units.specs.Units.{same_units}
use Rattle.es3_tokens.specs.Characters.{is_digit}
use Rattle.valija_rules.specs.Words.{is_numbered}

-- whether this unit is at the place
abbrev pub has : List ℕ → ℕ → ℕ → Bool
has us i u = option_eq eqb (slice_get us i) (Some u)

-- a conjunction that ends in this one
ends : (b : Bool) → false ≡ (b && false)
ends true = refl
ends false = refl

held : (b : Bool) → b ≡ (b && true)
held true = refl
held false = refl

-- one unit more of a name that ends in digits
pub digit_on : (us : List ℕ) (i u : ℕ) (o : Option ℕ) (r : Bool) → i < length us → o ≡ slice_get us i → o ≡ Some u → r ≡ is_digit u
    → list_all is_digit (drop i us) ≡ (r && list_all is_digit (drop (i + 1) us))
digit_on us i u o r h at is told =
    at_drop_more (list_all is_digit) us i 0 h
    ∙ ap (λ x. is_digit x && list_all is_digit (drop (i + 1) us)) (same _ _ (sym (slice_get-get_or us i 0 h) ∙ sym at ∙ is))
    ∙ ap (λ b. b && list_all is_digit (drop (i + 1) us)) (sym told)
  where
    same : (a b : ℕ) → Some a ≡ Some b → a ≡ b
    same a b e = cc

pub numbered_by : (us : List ℕ) → (has us 0 36 && (has us 1 118 && list_all is_digit (drop 2 us))) ≡ is_numbered us
numbered_by [] = refl
numbered_by (a ∷ []) = sym (ends (nat_eq a 36))
numbered_by (a ∷ b ∷ us) = go (nat_eq a 36) (nat_eq b 118) (list_all is_digit us)
  where
    go : (p q r : Bool) → (p && (q && r)) ≡ ((p && q) && r)
    go true q r = refl
    go false q r = refl

longer : (n : ℕ) → nat_eq (suc (suc (suc (suc (suc n))))) 4 ≡ false
longer n = grind (arith, nat_tests)

front : (b c : Bool) → b ≡ false → (b && c) ≡ false
front b c e = ap (λ z. z && c) e

pub receiver_by : (us : List ℕ) → (nat_eq (length us) 4 && (has us 0 36 && (has us 1 100 && (has us 2 105 && has us 3 115)))) ≡ same_units us (codes "$dis")
receiver_by [] = refl
receiver_by (a ∷ []) = ends (nat_eq a 36)
receiver_by (a ∷ b ∷ []) = ends (nat_eq a 36) ∙ ap (λ z. nat_eq a 36 && z) (ends (nat_eq b 100))
receiver_by (a ∷ b ∷ d ∷ []) =
    ends (nat_eq a 36) ∙ ap (λ z. nat_eq a 36 && z) (ends (nat_eq b 100) ∙ ap (λ z. nat_eq b 100 && z) (ends (nat_eq d 105)))
receiver_by (a ∷ b ∷ d ∷ e ∷ []) = ap (λ z. nat_eq a 36 && (nat_eq b 100 && (nat_eq d 105 && z))) (held (nat_eq e 115))
receiver_by (a ∷ b ∷ d ∷ e ∷ f ∷ us) =
    front _ _ (longer (length us))
    ∙ ends (nat_eq a 36)
    ∙ ap (λ z. nat_eq a 36 && z) (ends (nat_eq b 100) ∙ ap (λ z. nat_eq b 100 && z) (ends (nat_eq d 105) ∙ ap (λ z. nat_eq d 105 && z) (ends (nat_eq e 115))))
