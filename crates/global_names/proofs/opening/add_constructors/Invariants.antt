use Rattle.std.proofs.Common.{◌≡◌, length, drop, map}
use Rattle.global_names.specs.Opening.{with_constructors}
use Rattle.global_names.proofs.opening.add_constructors.Given as goal

abbrev pub invariant-loop-constructor : goal.invariant-loop-constructor
invariant-loop-constructor l = record {
  store : with_constructors l.globals (map (λ c. (c.0.now, c.1, c.2)) (drop l.constructor-index l.constructors)) l.heap ≡ with_constructors l.globals (map (λ c. (c.0.now, c.1, c.2)) l.constructors) l.initial.heap;
  live : length l.heap.list ≡ length l.initial.heap.list;
}
