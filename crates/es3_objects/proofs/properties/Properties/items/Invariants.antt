use Rattle.std.proofs.Common.{◌≡◌, ◌++◌, ◌-◌}
use Rattle.es3_objects.specs.Items.{values_from}
use Rattle.es3_objects.proofs.properties.Properties.items.Given as goal

abbrev pub invariant-loop-index : goal.invariant-loop-index
invariant-loop-index l = l.items.items ++ values_from (l.count - l.index) l.index l.self ≡ values_from l.count 0 l.self
