use Rattle.std.proofs.Common.{◌≡◌, drop}
use Rattle.std.specs.Prelude.{map}
use Rattle.es3_language.specs.Arguments.{parameter_in}
use Rattle.es3_moves.specs.Texts.{plain_item}
use Rattle.es3_references.proofs.arguments.parameter_in.Given as goal

abbrev pub invariant-loop-item : goal.invariant-loop-item
invariant-loop-item l = parameter_in (map plain_item l.items) l.key ≡ parameter_in (map plain_item (drop l.item-index l.items)) l.key
