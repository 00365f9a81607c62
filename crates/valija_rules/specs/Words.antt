-- The names that lowered programs have of their own.
use Rattle.std.specs.Prelude.{ℕ, ◌&&◌, ◌||◌, Bool, true, false, List, [], ◌∷◌, nat_eq, codes}
use Rattle.std.specs.List.{list_all}
use Rattle.caja_units.specs.Units.{same_units}
use Rattle.es3_tokens.specs.Characters.{is_digit}

-- `$v`, the object of the prelude, and with digits behind it a temporary
abbrev pub is_numbered : List ℕ → Bool
is_numbered (d ∷ v ∷ rest) = (nat_eq d 36 && nat_eq v 118) && list_all is_digit rest
is_numbered x = false

-- and `$dis`, which is `this` in a function
abbrev pub is_taken : List ℕ → Bool
is_taken x = is_numbered x || same_units x (codes "$dis")
