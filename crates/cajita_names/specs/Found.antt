-- The table by which a declared name is found.
use Rattle.std.specs.Prelude.{◌≡◌, ℕ, Bool, false, List, Option, Some, None, is_some}
use Rattle.std.specs.Map.{lookup}
use Rattle.caja_units.specs.Units.{same_units}
use Rattle.cajita_names.specs.declared.tabled.Kinds.{Kinds}
use Rattle.cajita_names.specs.Declarations.{Declaration}
use Rattle.cajita_names.specs.Scope.{declares, declares_function, declares_parameter}

abbrev pub function_in : Option Kinds → Bool
function_in None = false
function_in (Some k) = k.function

abbrev pub parameter_in : Option Kinds → Bool
parameter_in None = false
parameter_in (Some k) = k.parameter

-- the table has the declared names, and tells of each how it is declared
pub record Finds (es : List (List ℕ × Kinds)) (ds : List Declaration) : Type 0 where
  pub named : (x : List ℕ) → is_some (lookup (same_units x) es) ≡ declares ds x
  pub functions : (x : List ℕ) → function_in (lookup (same_units x) es) ≡ declares_function ds x
  pub parameters : (x : List ℕ) → parameter_in (lookup (same_units x) es) ≡ declares_parameter ds x
