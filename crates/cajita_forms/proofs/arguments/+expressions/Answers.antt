use Rattle.std.proofs.Common.{ap, sym, ◌∙◌}
use Rattle.es3_tree.specs.Tree as tree
use Rattle.es3_tree.specs.PlacedView as source
use Rattle.cajita_forms.specs.Arguments.{names_arguments}
use Rattle.cajita_forms.proofs.Named.{behind, named_call}
use Rattle.cajita_forms.proofs.arguments.+expressions.Goals as goal

pub named_in_expr-returns-else-named_in_expr-4 : goal.named_in_expr-returns-else-named_in_expr-4
named_in_expr-returns-else-named_in_expr-4 t c =
    behind _ _ _
    (sym c.if-named_in_expr-4.false ∙ c.named_in_expr-in-Call.ensures ∙ ap (λ x. names_arguments tree.expr (source.expr x)) c.deref-in-Call.ensures)
    (c.named_in_exprs-else-named_in_expr-4.ensures ∙ ap (λ l. names_arguments tree.exprs (source.of_exprs l)) c.deref-else-named_in_expr-4.ensures.value)
    ∙ sym (named_call c.in-Call.callee c.in-Call.arguments c.in-Call.is)
