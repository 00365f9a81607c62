-- The first fault so far, and those of what is left.
use Rattle.std.proofs.Common.{◌≡◌, [], map, drop, option_map}
use Rattle.cajita_rules.specs.Faults.{redeclared}
use Rattle.cajita_rules.specs.Found.{fault_of, first_in, earlier_of}
use Rattle.cajita_names.specs.Views.{declaration_of}
use Rattle.cajita_rules.proofs.faults_of_declarations.redeclared.Given as goal

abbrev pub invariant-loop-declaration : goal.invariant-loop-declaration
invariant-loop-declaration l =
    earlier_of (option_map fault_of l.found) (first_in (redeclared l.before (map declaration_of (drop l.declaration-index l.declaration-items))))
    ≡ first_in (redeclared [] l.declarations)
