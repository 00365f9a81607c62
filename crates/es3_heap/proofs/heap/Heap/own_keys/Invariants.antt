use Rattle.std.proofs.Common.{◌≡◌, ◌++◌, map}
use Rattle.std.specs.Vec.Iter.{into_iter_items}
use Rattle.es3_objects.specs.declared.properties.Name.{Name}
use Rattle.es3_heap.specs.Enumerating.{own_keys}
use Rattle.es3_heap.proofs.heap.Heap.own_keys.Given as goal

abbrev pub invariant-loop-name : goal.invariant-loop-name
invariant-loop-name l = l.all.items ++ map (λ (n : Name). n.key) (into_iter_items l.name-iterator) ≡ own_keys l.self l.fn.o
