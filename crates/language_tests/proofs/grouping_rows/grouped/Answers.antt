use Rattle.std.proofs.Common.{arith}
use Rattle.es3_tree.specs.Placed as placed
use Rattle.es3_ops.proofs.Adding.{parts_fit}
use Rattle.language_tests.proofs.grouping_rows.grouped.Goals as goal

pub add-requires-clause-fits : goal.add-requires-clause-fits
add-requires-clause-fits c =
    let h = c.loop-op.invariant in
    parts_fit c.loop-op.ops (placed.this h.last.0) _ h.last.1 (omega arith)
