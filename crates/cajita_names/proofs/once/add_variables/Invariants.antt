-- What is left to go over goes behind the names so far.
use Rattle.std.proofs.Common.{◌≡◌, map, drop}
use Rattle.std.specs.Map.{keys_of}
use Rattle.cajita_names.specs.Once.{once_after, names_of, is_variable}
use Rattle.cajita_names.specs.Views.{declaration_of}
use Rattle.cajita_names.proofs.once.add_variables.Given as goal

abbrev pub invariant-loop-declaration : goal.invariant-loop-declaration
invariant-loop-declaration l =
    once_after (keys_of l.names) (names_of is_variable (map declaration_of (drop l.declaration-index l.declarations)))
    ≡ once_after (keys_of l.initial.names) (names_of is_variable (map declaration_of l.declarations))
