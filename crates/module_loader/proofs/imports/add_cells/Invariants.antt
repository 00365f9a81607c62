use Rattle.std.proofs.Common.{◌≡◌, ◌≤◌, length}
use Rattle.heap_rows.specs.Opening.{with_cells}
use Rattle.module_loader.proofs.imports.add_cells.Given as goal

abbrev pub invariant-loop-cell : goal.invariant-loop-cell
invariant-loop-cell l = record {
  store : l.heap ≡ with_cells l.cell l.initial.heap;
  live : length l.initial.heap.list ≤ length l.heap.list;
}
