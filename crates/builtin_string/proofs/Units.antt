-- Units at a place, and between two.
use Rattle.std.proofs.Common.{◌≡◌, ℕ, zero, suc, List, [], ◌∷◌, refl}
use Rattle.std.specs.Prelude.{slice_get, take, drop}
use Rattle.builtin_string.specs.Strings.{listed}

pub one_unit : (us : List ℕ) (i : ℕ) → take 1 (drop i us) ≡ listed (slice_get us i)
one_unit [] zero = refl
one_unit [] (suc i) = refl
one_unit (u ∷ us) zero = refl
one_unit (u ∷ us) (suc i) = one_unit us i
