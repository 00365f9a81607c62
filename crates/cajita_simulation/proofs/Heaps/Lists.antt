-- Elements of a list by their places: what a write leaves, and a new last element.
use Rattle.std.proofs.Common.{◌≡◌, ◌≢◌, ℕ, zero, suc, ◌<◌, List, [], ◌∷◌, ◌++◌, Some, length, refl, ap, ◌⊎◌, inl, inr, arith}
use Rattle.std.specs.Prelude.{slice_get, slice_set}

-- an element that was written is there
pub slice_get-set : {X : Type 0} (xs : List X) (i : ℕ) (x y : X) → slice_get xs i ≡ Some x → slice_get (slice_set xs i y) i ≡ Some y
slice_get-set [] i x y there = cc
slice_get-set (z ∷ zs) zero x y there = refl
slice_get-set (z ∷ zs) (suc i) x y there = slice_get-set zs i x y there

pub slice_get-set-within : {X : Type 0} (xs : List X) (i : ℕ) (y : X) → i < length xs → slice_get (slice_set xs i y) i ≡ Some y
slice_get-set-within [] i y less = absurd (omega arith)
slice_get-set-within (z ∷ zs) zero y less = refl
slice_get-set-within (z ∷ zs) (suc i) y less = slice_get-set-within zs i y (omega arith)

-- at another place stands what stood there
pub slice_get-set-other : {X : Type 0} (xs : List X) (i j : ℕ) (y : X) → j ≢ i → slice_get (slice_set xs i y) j ≡ slice_get xs j
slice_get-set-other [] i j y ne = refl
slice_get-set-other (z ∷ zs) zero zero y ne = absurd (ne refl)
slice_get-set-other (z ∷ zs) (suc i) zero y ne = refl
slice_get-set-other (z ∷ zs) zero (suc j) y ne = refl
slice_get-set-other (z ∷ zs) (suc i) (suc j) y ne = slice_get-set-other zs i j y (λ e. ne (ap suc e))

-- a new last element, and the others
pub slice_get-push : {X : Type 0} (xs : List X) (y : X) → slice_get (xs ++ y ∷ []) (length xs) ≡ Some y
slice_get-push [] y = refl
slice_get-push (z ∷ zs) y = slice_get-push zs y

pub slice_get-push-other : {X : Type 0} (xs : List X) (j : ℕ) (y : X) → j < length xs → slice_get (xs ++ y ∷ []) j ≡ slice_get xs j
slice_get-push-other [] j y less = absurd (omega arith)
slice_get-push-other (z ∷ zs) zero y less = refl
slice_get-push-other (z ∷ zs) (suc j) y less = slice_get-push-other zs j y (omega arith)

pub slice_get-push-cases : {X : Type 0} (xs : List X) (y : X) (j : ℕ) (x : X) → slice_get (xs ++ y ∷ []) j ≡ Some x → (slice_get xs j ≡ Some x) ⊎ ((j ≡ length xs) × (y ≡ x))
slice_get-push-cases [] y zero x there = inr (refl, cc)
slice_get-push-cases [] y (suc j) x there = cc
slice_get-push-cases (z ∷ zs) y zero x there = inl there
slice_get-push-cases (z ∷ zs) y (suc j) x there =
    elim (slice_get-push-cases zs y j x there) [
      | inl before ↦ inl before
      | inr last ↦ inr (ap suc last.0, last.1)
    ]
