use Rattle.std.proofs.Common.{◌≡◌, ◌≤◌, length}
use Rattle.heap_rows.specs.Opening.{with_modules}
use Rattle.module_loader.proofs.imports.add_modules.Given as goal

abbrev pub invariant-loop-owner : goal.invariant-loop-owner
invariant-loop-owner l = record {
  store : l.heap ≡ with_modules l.owner l.initial.heap;
  live : length l.initial.heap.list ≤ length l.heap.list;
}
