use Rattle.std.proofs.Common.{◌≡◌, drop}
use Rattle.es3_language.specs.Arguments.{comes_again}
use Rattle.es3_moves.specs.Code.{names_of}
use Rattle.es3_references.proofs.arguments.comes_again.Given as goal

abbrev pub invariant-loop-other : goal.invariant-loop-other
invariant-loop-other l = comes_again l.name (names_of l.behind) ≡ comes_again l.name (names_of (drop l.other-index l.behind))
