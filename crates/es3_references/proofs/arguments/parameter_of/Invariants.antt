use Rattle.std.proofs.Common.{◌≡◌, drop}
use Rattle.std.specs.Prelude.{map}
use Rattle.es3_language.specs.Arguments.{parameter_of}
use Rattle.es3_moves.specs.Texts.{plain_share}
use Rattle.es3_references.proofs.arguments.parameter_of.Given as goal

abbrev pub invariant-loop-shared : goal.invariant-loop-shared
invariant-loop-shared l = parameter_of (map plain_share l.texts.shared.items) l.object l.key ≡ parameter_of (map plain_share (drop l.shared-index l.texts.shared.items)) l.object l.key
