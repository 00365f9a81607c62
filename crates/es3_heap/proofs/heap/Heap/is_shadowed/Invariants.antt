use Rattle.std.proofs.Common.{◌≡◌, drop}
use Rattle.es3_heap.specs.Enumerating.{shadowed}
use Rattle.es3_heap.proofs.heap.Heap.is_shadowed.Given as goal

abbrev pub invariant-loop-o : goal.invariant-loop-o
invariant-loop-o l = shadowed l.self l.below l.k ≡ shadowed l.self (drop l.o-index l.below) l.k
