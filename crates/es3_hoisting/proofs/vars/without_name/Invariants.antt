use Rattle.std.proofs.Common.{◌≡◌, ◌++◌, drop}
use Rattle.es3_language.specs.Hoisting as hoisting
use Rattle.es3_moves.specs.Code.{names_of}
use Rattle.es3_hoisting.proofs.vars.without_name.Given as goal

abbrev pub invariant-loop-name : goal.invariant-loop-name
invariant-loop-name l = names_of l.names.items ++ hoisting.own_vars (names_of (drop l.name-index l.all)) ≡ hoisting.own_vars (names_of l.all)
