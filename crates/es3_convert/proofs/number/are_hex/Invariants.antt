use Rattle.std.proofs.Common.{◌≡◌, drop}
use Rattle.std.specs.List.{list_all}
use Rattle.es3_tokens.specs.Characters.{is_hex}
use Rattle.es3_convert.proofs.number.are_hex.Given as goal

abbrev pub invariant-loop-unit : goal.invariant-loop-unit
invariant-loop-unit l = list_all is_hex l.units ≡ list_all is_hex (drop l.unit-index l.units)
