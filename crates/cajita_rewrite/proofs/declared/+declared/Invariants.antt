-- The names so far, and those that are left.
use Rattle.std.proofs.Common.{◌≡◌, drop}
use Rattle.cajita_tree.specs.Tree as tree
use Rattle.cajita_tree.specs.View as source
use Rattle.cajita_rewrite.specs.Rewrite.{declared}
use Rattle.cajita_rewrite.specs.Table.{with_all}
use Rattle.cajita_rewrite.proofs.declared.+declared.Given as goal

abbrev pub invariant-add_declared-loop-statement : goal.invariant-add_declared-loop-statement
invariant-add_declared-loop-statement l = with_all l.names (declared tree.stmts (source.of_stmts (drop l.statement-index l.list))) ≡ with_all l.initial.names (declared tree.stmts (source.of_stmts l.list))

abbrev pub invariant-add_cases-loop-case : goal.invariant-add_cases-loop-case
invariant-add_cases-loop-case l = with_all l.names (declared tree.cases (source.of_cases (drop l.case-index l.cases))) ≡ with_all l.initial.names (declared tree.cases (source.of_cases l.cases))
