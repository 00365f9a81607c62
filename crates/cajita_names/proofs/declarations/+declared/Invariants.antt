-- What was declared so far, and by what is left.
use Rattle.std.proofs.Common.{◌≡◌, ◌++◌, drop}
use Rattle.es3_tree.specs.Tree as tree
use Rattle.es3_tree.specs.PlacedView as source
use Rattle.cajita_names.specs.Declarations.{declarations}
use Rattle.cajita_names.proofs.declarations.+declared.Given as goal

abbrev pub invariant-add_stmts-loop-statement : goal.invariant-add_stmts-loop-statement
invariant-add_stmts-loop-statement l =
    l.out ++ declarations tree.stmts (source.of_stmts (drop l.statement-index l.list))
    ≡ l.initial.out ++ declarations tree.stmts (source.of_stmts l.list)

abbrev pub invariant-add_cases-loop-case : goal.invariant-add_cases-loop-case
invariant-add_cases-loop-case l =
    l.out ++ declarations tree.cases (source.of_cases (drop l.case-index l.cases))
    ≡ l.initial.out ++ declarations tree.cases (source.of_cases l.cases)
