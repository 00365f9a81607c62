-- The first of some faults, as it is found part by part.
use Rattle.std.specs.Prelude.{◌≡◌, List, Option, Some, None, option_map, Result, IfOk, if◌then◌else◌}
use Rattle.caja_units.specs.declared.Memory.{Memory}
use Rattle.cajita_rules.specs.declared.found.Found.{Found}
use Rattle.cajita_rules.specs.Faults.{Fault, is_before, ordered, first}

abbrev pub fault_of : Found → Fault
fault_of f = record { rule = f.rule; at = f.at; text = f.text }

-- the first of them in their order
abbrev pub first_in : List Fault → Option Fault
first_in fs = first (ordered fs)

-- of two the one that comes first, the left one where both stand alike
abbrev pub earlier_of : Option Fault → Option Fault → Option Fault
earlier_of None g = g
earlier_of (Some f) None = Some f
earlier_of (Some f) (Some g) = if is_before g f then Some g else Some f

-- the answer is the first of these faults, or memory was wanting
pub record IsFirst (answer : Result (Option Found) Memory) (fs : List Fault) : Type 0 where
  pub told : IfOk answer (λ found. option_map fault_of found ≡ first_in fs)
