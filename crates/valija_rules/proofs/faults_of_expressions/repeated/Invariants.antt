-- The first fault so far, and those of what is left; and a key is found where it stands before.
use Rattle.std.proofs.Common.{◌≡◌, ℕ, List, [], take, drop, option_map, is_some}
use Rattle.std.specs.Map.{lookup}
use Rattle.es3_tree.specs.PlacedView as source
use Rattle.caja_units.specs.Units.{same_units}
use Rattle.cajita_names.specs.Rules.{is_among}
use Rattle.cajita_rules.specs.Faults.{repeated}
use Rattle.cajita_rules.specs.Found.{fault_of, first_in, earlier_of}
use Rattle.cajita_rules.specs.Keys.{keys_of}
use Rattle.valija_rules.proofs.faults_of_expressions.repeated.Given as goal

abbrev pub invariant-loop-i : goal.invariant-loop-i
invariant-loop-i l =
    (earlier_of (option_map fault_of l.found) (first_in (repeated (keys_of (take l.i l.fields)) (source.of_fields (drop l.i l.fields))))
    ≡ first_in (repeated [] (source.of_fields l.fields)))
    × ((k : List ℕ) → is_some (lookup (same_units k) l.before) ≡ is_among (keys_of (take l.i l.fields)) k)
