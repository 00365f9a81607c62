-- Lists of what is said of each number of a list.
use Rattle.std.proofs.Common.{◌≡◌, ◌≢◌, ℕ, zero, suc, List, [], ◌∷◌, Option, Some, refl, ap, ◌∙◌, arith}
use Rattle.std.specs.Prelude.{map, slice_get, slice_set}

pub map_same : {B : Type 0} (f g : ℕ → B) (xs : List ℕ) → ((j x : ℕ) → ◌≡◌ {A = Option ℕ} (slice_get xs j) (Some x) → g x ≡ f x) → map g xs ≡ map f xs
map_same f g [] h = refl
map_same f g (x ∷ xs) h = ap (λ y. y ∷ map g xs) (h 0 x refl) ∙ ap (λ ys. f x ∷ ys) (map_same f g xs (λ j y is. h (suc j) y is))

-- two functions that differ at one number at most, which stands at one place
pub map_but : {B : Type 0} (f g : ℕ → B) (xs : List ℕ) (k n : ℕ) → ◌≡◌ {A = Option ℕ} (slice_get xs k) (Some n) → ((j : ℕ) → ◌≡◌ {A = Option ℕ} (slice_get xs j) (Some n) → j ≡ k) → ((m : ℕ) → m ≢ n → g m ≡ f m)
    → map g xs ≡ slice_set (map f xs) k (g n)
map_but f g [] k n at once same = cc
map_but f g (x ∷ xs) zero n at once same =
    let here : x ≡ n = cc in
    ap (λ y. g y ∷ map g xs) here ∙ ap (λ ys. g n ∷ ys) (map_same f g xs (λ j y is. same y (λ e. behind j (once (suc j) (is ∙ ap (λ z. Some z) e)))))
  where
    behind : (j : ℕ) → suc j ≡ 0 → ⊥
    behind j h = omega (arith, h)
map_but f g (x ∷ xs) (suc k) n at once same =
    ap (λ y. y ∷ map g xs) (same x (λ e. before k (once 0 (ap (λ z. Some z) e))))
    ∙ ap (λ ys. f x ∷ ys) (map_but f g xs k n at (λ j is. less j k (once (suc j) is)) same)
  where
    before : (k : ℕ) → 0 ≡ suc k → ⊥
    before k h = omega (arith, h)

    less : (j k : ℕ) → suc j ≡ suc k → j ≡ k
    less j k h = omega (arith, h)
