-- The table by which the number of a root is found.
use Rattle.std.specs.Prelude.{ℕ, suc, List, [], ◌∷◌}
use Rattle.page_roots.specs.Roots.{Roots}

-- each id with its number, the first of which is k
abbrev pub numbered : ℕ → Roots → List (List ℕ × ℕ)
numbered k [] = []
numbered k (r ∷ rs) = (r.0, k) ∷ numbered (suc k) rs
