-- What is left decides.
use Rattle.std.proofs.Common.{◌≡◌, drop}
use Rattle.es3_tree.specs.Tree as tree
use Rattle.es3_tree.specs.PlacedView as source
use Rattle.cajita_forms.specs.Arguments.{names_arguments}
use Rattle.cajita_forms.proofs.arguments.+expressions.Given as goal

abbrev pub invariant-named_in_exprs-loop-expression : goal.invariant-named_in_exprs-loop-expression
invariant-named_in_exprs-loop-expression l = names_arguments tree.exprs (source.of_exprs (drop l.expression-index l.list)) ≡ names_arguments tree.exprs (source.of_exprs l.list)

abbrev pub invariant-named_in_fields-loop-value : goal.invariant-named_in_fields-loop-value
invariant-named_in_fields-loop-value l = names_arguments tree.fields (source.of_fields (drop l.value-index l.fields)) ≡ names_arguments tree.fields (source.of_fields l.fields)
