use Rattle.std.proofs.Common.{◌≡◌, length, drop, map}
use Rattle.global_names.specs.Opening.{with_methods}
use Rattle.global_names.proofs.opening.add_methods.Given as goal

abbrev pub invariant-loop-method : goal.invariant-loop-method
invariant-loop-method l = record {
  store : with_methods l.proto (map (λ m. (m.0.now, m.1)) (drop l.method-index l.methods)) l.heap ≡ with_methods l.proto (map (λ m. (m.0.now, m.1)) l.methods) l.initial.heap;
  live : length l.heap.list ≡ length l.initial.heap.list;
}
