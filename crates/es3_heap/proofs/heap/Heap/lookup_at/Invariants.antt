use Rattle.std.proofs.Common.{◌≡◌, ◌-◌}
use Rattle.caja_units.specs.Index.{number_units}
use Rattle.es3_heap.specs.Properties.{lookup, lookup_from}
use Rattle.es3_heap.proofs.heap.Heap.lookup_at.Given as goal

abbrev pub invariant-loop-above : goal.invariant-loop-above
invariant-loop-above l = lookup l.self l.fn.o (number_units l.i) ≡ lookup_from (l._above-end - l._above) l.self l.above (number_units l.i)
