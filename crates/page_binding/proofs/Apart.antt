-- Where no root overlaps one before it, none of them stands inside another.
use Rattle.std.proofs.Common.{◌≡◌, ℕ, Bool, true, false, ◌||◌, List, [], ◌∷◌, ◌++◌, Option, Some, None, refl, sym, ap, ◌∙◌, subst, inl, inr}
use Rattle.std.specs.Prelude.{◌⊎◌, if◌then◌else◌}
use Rattle.std.specs.List.{list_any}
use Rattle.std.specs.Map.{keys_of}
use Rattle.std.proofs.lemmas.Bool.{true≢false, or_parts, or_cases, or_right}
use Rattle.caja_units.specs.Units.{same_units}
use Rattle.caja_units.proofs.Texts.{same_units-equal}
use Rattle.es3_tokens.specs.Tokens.{is_one_of}
use Rattle.page_roots.specs.Roots.{Roots}
use Rattle.page_binding.specs.Bound.{first_overlap}
use Rattle.page_binding.proofs.Names.{either_way, itself, none_at, one_of-push, one_of-left}

module _ (inside : List ℕ → List ℕ → Bool) where
  abbrev Overlaps : List ℕ → List ℕ → Bool
  Overlaps x e = inside x e || inside e x

  record IsFirst (before : List (List ℕ)) (r : List ℕ × ℕ) (rest : Roots) : Type 0 where
    clear : list_any (Overlaps r.0) before ≡ false
    next : first_overlap inside (before ++ r.0 ∷ []) rest ≡ None

  first_is : (before : List (List ℕ)) (r : List ℕ × ℕ) (rest : Roots) → first_overlap inside before (r ∷ rest) ≡ None → IsFirst before r rest
  first_is before r rest h = at (list_any (Overlaps r.0) before) refl h
    where
      at : (b : Bool) → list_any (Overlaps r.0) before ≡ b → (if b then Some r.1 else first_overlap inside (before ++ r.0 ∷ []) rest) ≡ None → IsFirst before r rest
      at true e f = absurd cc
      at false e f = record { clear = e; next = f }

  -- a root and one before it
  before_it : (rs : Roots) (before : List (List ℕ)) → first_overlap inside before rs ≡ None → (x e : List ℕ) → is_one_of x (keys_of rs) ≡ true → is_one_of e before ≡ true → (inside x e ≡ false) × (inside e x ≡ false)
  before_it [] before h x e here there = absurd (true≢false (sym here))
  before_it (r ∷ rs) before h x e here there =
      let f = first_is before r rs h in
      either_way (or_cases (same_units x r.0) (is_one_of x (keys_of rs)) here)
      (λ same. let parts = or_parts (inside r.0 e) (inside e r.0) (none_at (Overlaps r.0) e before f.clear there) in
      let is : r.0 ≡ x = sym (same_units-equal x r.0 same) in
      (ap (λ y. inside y e) (sym is) ∙ parts.0, ap (inside e) (sym is) ∙ parts.1))
      (λ behind. before_it rs (before ++ r.0 ∷ []) f.next x e behind (one_of-left e before (r.0 ∷ []) there))

  -- two roots
  pub apart : (rs : Roots) (before : List (List ℕ)) → first_overlap inside before rs ≡ None → (x y : List ℕ) → is_one_of x (keys_of rs) ≡ true → is_one_of y (keys_of rs) ≡ true → (x ≡ y) ⊎ (inside x y ≡ false)
  apart [] before h x y here there = absurd (true≢false (sym here))
  apart (r ∷ rs) before h x y here there =
      let f = first_is before r rs h in
      let own : is_one_of r.0 (before ++ r.0 ∷ []) ≡ true = one_of-push r.0 r.0 before ∙ or_right (is_one_of r.0 before) (same_units r.0 r.0) (itself r.0) in
      either_way (or_cases (same_units x r.0) (is_one_of x (keys_of rs)) here)
      (λ same.
      let is : x ≡ r.0 = same_units-equal x r.0 same in
      either_way (or_cases (same_units y r.0) (is_one_of y (keys_of rs)) there)
      (λ too. inl (is ∙ sym (same_units-equal y r.0 too)))
      (λ behind. inr (ap (λ z. inside z y) is ∙ (before_it rs (before ++ r.0 ∷ []) f.next y r.0 behind own).1)))
      (λ behind.
      either_way (or_cases (same_units y r.0) (is_one_of y (keys_of rs)) there)
      (λ same. inr (ap (inside x) (same_units-equal y r.0 same) ∙ (before_it rs (before ++ r.0 ∷ []) f.next x r.0 behind own).0))
      (λ too. apart rs (before ++ r.0 ∷ []) f.next x y behind too))
