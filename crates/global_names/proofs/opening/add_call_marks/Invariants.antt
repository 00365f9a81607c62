use Rattle.std.proofs.Common.{◌≡◌, length, drop, map}
use Rattle.global_names.specs.Opening.{with_call_marks}
use Rattle.global_names.proofs.opening.add_call_marks.Given as goal

abbrev pub invariant-loop-name : goal.invariant-loop-name
invariant-loop-name l = record {
  store : with_call_marks l.proto (map (λ k. k.now) (drop l.name-index l.names)) l.heap ≡ with_call_marks l.proto (map (λ k. k.now) l.names) l.initial.heap;
  live : length l.heap.list ≡ length l.initial.heap.list;
}
