use Rattle.std.proofs.Common.{◌≡◌, take, map, None}
use Rattle.es3_objects.specs.declared.value.Class.TheVariants.{Object}
use Rattle.es3_heap.specs.Making.{bare}
use Rattle.es3_heap.proofs.heap.first_objects.Given as goal

abbrev pub invariant-loop-proto : goal.invariant-loop-proto
invariant-loop-proto l = l.objects.items ≡ map (λ p. bare Object p None) (take l.proto-index l.proto-items)
