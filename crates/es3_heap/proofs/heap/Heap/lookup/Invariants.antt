use Rattle.std.proofs.Common.{◌≡◌, ◌-◌}
use Rattle.es3_heap.specs.Properties.{lookup, lookup_from}
use Rattle.es3_heap.proofs.heap.Heap.lookup.Given as goal

abbrev pub invariant-loop-above : goal.invariant-loop-above
invariant-loop-above l = lookup l.self l.fn.o l.k ≡ lookup_from (l._above-end - l._above) l.self l.next l.k
