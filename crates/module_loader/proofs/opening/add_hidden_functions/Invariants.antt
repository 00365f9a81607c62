use Rattle.std.proofs.Common.{◌≡◌, ◌+◌, ◌≤◌, length, drop, map}
use Rattle.heap_rows.specs.Opening.{with_hidden_functions}
use Rattle.module_loader.proofs.opening.add_hidden_functions.Given as goal

abbrev pub invariant-loop-name : goal.invariant-loop-name
invariant-loop-name l = record {
  number : l.number ≡ l.first + l.name-index;
  store : with_hidden_functions (map (λ k. k.now) (drop l.name-index l.names)) l.number l.o l.heap ≡ with_hidden_functions (map (λ k. k.now) l.names) l.first l.o l.initial.heap;
  live : length l.initial.heap.list ≤ length l.heap.list;
}
