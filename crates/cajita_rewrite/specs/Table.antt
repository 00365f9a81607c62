-- The names that a table has, in the order in which they were first added.
use Rattle.std.specs.Prelude.{ℕ, List, [], ◌∷◌, ◌++◌, if◌then◌else◌}
use Rattle.std.specs.List.{list_any}
use Rattle.caja_units.specs.Units.{same_units}

-- with one name more, if it is new
abbrev pub with_name : List (List ℕ) → List ℕ → List (List ℕ)
with_name names x = if list_any (same_units x) names then names else names ++ x ∷ []

-- with each name of a list
abbrev pub with_all : List (List ℕ) → List (List ℕ) → List (List ℕ)
with_all names [] = names
with_all names (x ∷ xs) = with_all (with_name names x) xs
