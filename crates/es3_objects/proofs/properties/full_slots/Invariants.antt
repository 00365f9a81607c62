use Rattle.std.proofs.Common.{◌≡◌, ◌++◌}
use Rattle.std.specs.Vec.Iter.{into_iter_items}
use Rattle.es3_objects.specs.Held.{filled}
use Rattle.es3_objects.proofs.properties.full_slots.Given as goal

abbrev pub invariant-loop-value : goal.invariant-loop-value
invariant-loop-value l = l.slots.items ++ filled (into_iter_items l.value-iterator) ≡ filled l.fn.items.items
