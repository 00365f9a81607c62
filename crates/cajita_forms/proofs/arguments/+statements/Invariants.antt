-- What is left decides.
use Rattle.std.proofs.Common.{◌≡◌, drop}
use Rattle.es3_tree.specs.Tree as tree
use Rattle.es3_tree.specs.PlacedView as source
use Rattle.cajita_forms.specs.Arguments.{names_arguments}
use Rattle.cajita_forms.proofs.arguments.+statements.Given as goal

abbrev pub invariant-named_in_cases-loop-case : goal.invariant-named_in_cases-loop-case
invariant-named_in_cases-loop-case l = names_arguments tree.cases (source.of_cases (drop l.case-index l.cases)) ≡ names_arguments tree.cases (source.of_cases l.cases)

abbrev pub invariant-are_named-loop-statement : goal.invariant-are_named-loop-statement
invariant-are_named-loop-statement l = names_arguments tree.stmts (source.of_stmts (drop l.statement-index l.list)) ≡ names_arguments tree.stmts (source.of_stmts l.list)
