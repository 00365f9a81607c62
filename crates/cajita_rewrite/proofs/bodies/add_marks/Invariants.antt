-- The marks so far stand before those that are left.
use Rattle.std.proofs.Common.{◌≡◌, drop}
use Rattle.es3_tree.specs.Tree as target
use Rattle.es3_tree.specs.View.{of_stmts}
use Rattle.cajita_tree.specs.View as source
use Rattle.cajita_rewrite.specs.Rewrite.{joined, marks}
use Rattle.cajita_rewrite.proofs.bodies.add_marks.Given as goal

abbrev pub invariant-loop-function : goal.invariant-loop-function
invariant-loop-function l =
    joined (of_stmts l.out.items) (marks (source.of_funcs (drop l.function-index l.functions)) target.no_stmts)
    ≡ joined (of_stmts l.initial.out.items) (marks (source.of_funcs l.functions) target.no_stmts)
