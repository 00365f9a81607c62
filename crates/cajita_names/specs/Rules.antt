-- The names that the rules speak of.
use Rattle.std.specs.Prelude.{ℕ, Bool, List, [], ◌∷◌, codes}
use Rattle.std.specs.List.{list_any}
use Rattle.caja_units.specs.Units.{same_units}

-- the names that every module has without declaring them
abbrev pub fixed_names : List (List ℕ)
fixed_names =
    codes "undefined" ∷ codes "cajita" ∷ codes "Math" ∷ codes "Error" ∷ codes "TypeError" ∷ codes "RangeError" ∷ codes "Number" ∷ codes "String" ∷ codes "Boolean"
    ∷ codes "say" ∷ codes "later" ∷ []

abbrev pub is_among : List (List ℕ) → List ℕ → Bool
is_among names x = list_any (same_units x) names
