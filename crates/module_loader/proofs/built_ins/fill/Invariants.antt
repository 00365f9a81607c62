use Rattle.std.proofs.Common.{◌≡◌, length, drop, map}
use Rattle.module_loader.specs.BuiltIns.{with_entries}
use Rattle.module_loader.proofs.built_ins.fill.Given as goal

abbrev pub invariant-loop-function : goal.invariant-loop-function
invariant-loop-function l = record {
  store : with_entries (map (λ f. (f.0.now, f.1)) (drop l.function-index l.functions)) l.o l.heap ≡ with_entries (map (λ f. (f.0.now, f.1)) l.functions) l.o l.initial.heap;
  live : length l.heap.list ≡ length l.initial.heap.list;
}
