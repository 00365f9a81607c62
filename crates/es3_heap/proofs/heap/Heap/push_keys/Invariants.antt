use Rattle.std.proofs.Common.{◌≡◌, ◌++◌, ◌&&◌, not, map, filter}
use Rattle.std.specs.Vec.Iter.{into_iter_items}
use Rattle.es3_objects.specs.declared.properties.Name.{Name}
use Rattle.es3_heap.specs.Enumerating.{shadowed, added_keys}
use Rattle.es3_heap.proofs.heap.Heap.push_keys.Given as goal

abbrev pub invariant-loop-name : goal.invariant-loop-name
invariant-loop-name l = l.keys.items ++ map (λ (n : Name). n.key) (filter (λ (n : Name). not n.attrs.dont_enum && not (shadowed l.self l.below n.key)) (into_iter_items l.name-iterator)) ≡ l.fn.keys.items ++ added_keys l.self l.below l.fn.o
