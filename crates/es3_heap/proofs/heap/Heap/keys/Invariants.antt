use Rattle.std.proofs.Common.{◌≡◌, ◌++◌, ◌-◌}
use Rattle.es3_heap.specs.Enumerating.{keys, keys_from}
use Rattle.es3_heap.proofs.heap.Heap.keys.Given as goal

abbrev pub invariant-loop-step : goal.invariant-loop-step
invariant-loop-step l = keys l.self l.fn.o ≡ l.keys.items ++ keys_from (l._step-end - l._step) l.self l.below.items l.above
