use Rattle.std.proofs.Common.{◌≡◌, ℕ, ◌+◌, ◌*◌, Some, sum_by}
use Rattle.es3_tree.specs.Tree as t
use Rattle.es3_tree.specs.Placed as placed
use Rattle.es3_grammar.specs.Levels.{E, Join}
use Rattle.es3_grammar.specs.Plain.{deep}
use Rattle.es3_ops.specs.Listed.{front_of, last_of}
use Rattle.language_tests.proofs.grouping_rows.grouped.Given as goal

-- each operand is a single node
abbrev pub invariant-loop-op : goal.invariant-loop-op
invariant-loop-op l = record {
  front : sum_by (λ (p : E × Join). deep t.expr p.0 + 1) (front_of l.ops) ≡ 2 * l.op-index;
  last : (n : ℕ) × (last_of l.ops ≡ Some (placed.this n));
}
