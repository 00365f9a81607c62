-- A text behind the space that it asks for.
use Rattle.std.proofs.Common.{◌≡◌, ℕ, ◌-◌, List, [], ◌∷◌, ◌++◌, Option, length, refl, sym, ap, ◌∙◌, append_assoc}
use Rattle.std.specs.Prelude.{slice_get}
use native.Mathlib.Numerals.{unary_clauses}
use Rattle.es3_printed.specs.Text.{last_of, gap_between, then_text}

last_of-is : (out : List ℕ) → last_of out ≡ slice_get out (length out - 1)
last_of-is [] = refl
last_of-is (c ∷ []) = refl
last_of-is (c ∷ d ∷ s) = last_of-is (d ∷ s) ∙ simp unary_clauses

pub spaced : (out space text a b : List ℕ) (last next : Option ℕ) → last ≡ slice_get out (length out - 1) → next ≡ slice_get text 0 → space ≡ gap_between last next → a ≡ out ++ space → b ≡ a ++ text → b ≡ then_text out text
spaced out space text a b last next l n s p q =
    q ∙ ap (λ z. z ++ text) (p ∙ ap (λ z. out ++ z) (s ∙ ap (λ o. gap_between o next) (l ∙ sym (last_of-is out)) ∙ ap (gap_between (last_of out)) n))
    ∙ append_assoc out (gap_between (last_of out) (slice_get text 0)) text
