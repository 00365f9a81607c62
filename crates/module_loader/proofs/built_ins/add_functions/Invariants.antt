use Rattle.std.proofs.Common.{◌≡◌, ◌≤◌, length, drop}
use Rattle.module_loader.specs.BuiltIns.{with_functions}
use Rattle.module_loader.proofs.built_ins.add_functions.Given as goal

abbrev pub invariant-loop-kind : goal.invariant-loop-kind
invariant-loop-kind l = record {
  store : with_functions (drop l.kind-index l.kinds) l.heap ≡ with_functions l.kinds l.initial.heap;
  live : length l.initial.heap.list ≤ length l.heap.list;
}
