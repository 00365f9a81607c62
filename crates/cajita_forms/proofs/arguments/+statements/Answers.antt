use Rattle.std.proofs.Common.{ap, sym, ◌∙◌}
use Rattle.es3_tree.specs.Tree as tree
use Rattle.es3_tree.specs.PlacedView as source
use Rattle.cajita_forms.specs.Arguments.{names_arguments}
use Rattle.cajita_forms.proofs.Named.{behind, named_switch}
use Rattle.cajita_forms.proofs.arguments.+statements.Goals as goal

pub named_in_stmt-returns-else-named_in_expr-3 : goal.named_in_stmt-returns-else-named_in_expr-3
named_in_stmt-returns-else-named_in_expr-3 t c =
    behind _ _ _
    (sym c.if-named_in_expr-3.false ∙ c.named_in_expr-in-Switch.ensures)
    (c.named_in_cases.ensures ∙ ap (λ l. names_arguments tree.cases (source.of_cases l)) c.deref-else-named_in_expr-3.ensures.value)
    ∙ sym (named_switch c.in-Switch.value c.in-Switch.cases c.in-Switch.is)
