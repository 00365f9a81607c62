use Rattle.std.proofs.Common.{◌≡◌, drop}
use Rattle.std.specs.List.{position_from}
use Rattle.caja_units.specs.Units.{same_units}
use Rattle.es3_tokens.specs.Tokens.{place_in}
use Rattle.page_manifest.proofs.bound.place_of.Given as goal

-- what is left decides
abbrev pub invariant-loop-i : goal.invariant-loop-i
invariant-loop-i l = position_from (same_units l.name) l.i (drop l.i l.names) ≡ place_in l.names l.name
