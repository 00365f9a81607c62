-- The parameters so far, and those that are left.
use Rattle.std.proofs.Common.{◌≡◌, ◌++◌, map, drop}
use Rattle.es3_tree.specs.PlacedView as source
use Rattle.cajita_names.specs.Declarations.{declared_as, parameter}
use Rattle.cajita_names.proofs.declarations.add_parameters.Given as goal

abbrev pub invariant-loop-name : goal.invariant-loop-name
invariant-loop-name l =
    l.out ++ map (declared_as parameter) (source.words (drop l.name-index l.names))
    ≡ l.initial.out ++ map (declared_as parameter) (source.words l.names)
