-- Spellings, and what stands beside them in a table.
use Rattle.std.proofs.Common.{◌≡◌, ◌≢◌, ℕ, ◌&&◌, Bool, true, false, List, [], ◌∷◌, refl, arith, nat_eq, length}
use Rattle.caja_units.specs.Units.{same_units}

and_false : (a b : Bool) → b ≡ false → (a && b) ≡ false
and_false true b e = e
and_false false b e = refl

pub same_longer : (s t : List ℕ) → length s ≢ length t → same_units s t ≡ false
same_longer [] [] h = absurd (h refl)
same_longer [] (d ∷ t) h = refl
same_longer (c ∷ s) [] h = refl
same_longer (c ∷ s) (d ∷ t) h = and_false (nat_eq c d) (same_units s t) (same_longer s t (λ e. h (omega (arith, e))))
