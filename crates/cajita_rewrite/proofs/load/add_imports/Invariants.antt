-- What is done stands before what is left.
use Rattle.std.proofs.Common.{◌≡◌, drop}
use Rattle.es3_tree.specs.Tree as tree
use Rattle.es3_tree.specs.View.{of_stmts}
use Rattle.cajita_rewrite.specs.Rewrite.{import_stmts, joined}
use Rattle.cajita_rewrite.proofs.load.add_imports.Given as goal

abbrev pub invariant-loop-name : goal.invariant-loop-name
invariant-loop-name l = joined (of_stmts l.out.items) (import_stmts (drop l.name-index l.imports) tree.no_stmts) ≡ joined (of_stmts l.initial.out.items) (import_stmts l.imports tree.no_stmts)
