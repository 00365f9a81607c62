use Rattle.std.proofs.Common.{◌≡◌, drop}
use Rattle.std.specs.Map.{lookup}
use Rattle.caja_units.specs.Units.{same_units}
use Rattle.property_tables.proofs.list.ListProps.get.Given as goal

abbrev pub invariant-loop-entry : goal.invariant-loop-entry
invariant-loop-entry g l = lookup (same_units l.k) l.entry-items ≡ lookup (same_units l.k) (drop l.entry-index l.entry-items)
