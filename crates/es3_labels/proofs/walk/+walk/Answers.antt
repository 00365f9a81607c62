use Rattle.std.proofs.Common.{refl, sym, ap, ◌∙◌, arith}
use Rattle.es3_tree.specs.Tree as tree
use Rattle.es3_tree.specs.PlacedView as source
use Rattle.es3_labels.specs.Around.{in_switch}
use Rattle.es3_labels.specs.Misplaced.{misplaced, first}
use Rattle.es3_labels.specs.View.{around_of}
use Rattle.es3_labels.proofs.Order.{turn}
use Rattle.es3_labels.proofs.Parts.{misplaced_call, misplaced_switch}
use Rattle.es3_labels.proofs.walk.+walk.Goals as goal

pub in_exprs-loop-expression-preserved : goal.in_exprs-loop-expression-preserved
unfolding misplaced
in_exprs-loop-expression-preserved t c =
    turn (λ l. misplaced (around_of c.args.around) tree.exprs (source.of_exprs l)) _ c.args.list.now c.loop-expression.expression-index c.expression-item.result _ _ _ (omega arith) c.expression-item.is refl
    c.in_expr.ensures c.earlier-found.ensures.is
    ∙ c.loop-expression.invariant

pub in_fields-loop-value-preserved : goal.in_fields-loop-value-preserved
unfolding misplaced
in_fields-loop-value-preserved t c =
    turn (λ l. misplaced (around_of c.args.around) tree.fields (source.of_fields l)) _ c.args.fields.now c.loop-value.value-index c.loop-value-item.result _ _ _ (omega arith) c.loop-value-item.is refl
    c.in_expr.ensures c.earlier-found.ensures.is
    ∙ c.loop-value.invariant

pub in_stmts-loop-statement-preserved : goal.in_stmts-loop-statement-preserved
unfolding misplaced
in_stmts-loop-statement-preserved t c =
    turn (λ l. misplaced (around_of c.args.around) tree.stmts (source.of_stmts l)) _ c.args.list.now c.loop-statement.statement-index c.statement-item.result _ _ _ (omega arith) c.statement-item.is refl
    c.in_stmt.ensures c.earlier-found.ensures.is
    ∙ c.loop-statement.invariant

pub in_items-loop-item-preserved : goal.in_items-loop-item-preserved
unfolding misplaced
in_items-loop-item-preserved t c =
    turn (λ l. misplaced (around_of c.args.around) tree.items (source.of_items l)) _ c.args.items.now c.loop-item.item-index c.item-item.result _ _ _ (omega arith) c.item-item.is refl
    c.in_maybe_expr.ensures c.earlier-found.ensures.is
    ∙ c.loop-item.invariant

pub in_cases-loop-case-preserved : goal.in_cases-loop-case-preserved
unfolding misplaced
in_cases-loop-case-preserved t c =
    turn (λ l. misplaced (around_of c.args.around) tree.cases (source.of_cases l)) _ c.args.cases.now c.loop-case.case-index c.case-item.result _ _ _ (omega arith) c.case-item.is refl
    (c.earlier-here.ensures.of_parts
    (misplaced (around_of c.args.around) tree.maybe_expr (source.of_maybe_expr c.case-item.result.test)) (misplaced (around_of c.args.around) tree.stmts (source.of_stmts c.case-item.result.body.items))
    c.in_maybe_expr.ensures (c.in_stmts.ensures ∙ ap (λ l. first (misplaced (around_of c.args.around) tree.stmts (source.of_stmts l))) c.deref.ensures.value)) c.earlier-found.ensures.is
    ∙ c.loop-case.invariant

pub in_expr-returns-in-Call : goal.in_expr-returns-in-Call
in_expr-returns-in-Call t c =
    c.earlier-in-Call.ensures.of_parts
    (misplaced (around_of c.args.around) tree.expr (source.expr c.in-Call.callee.value)) (misplaced (around_of c.args.around) tree.exprs (source.of_exprs c.in-Call.arguments.items))
    (c.in_expr-in-Call.ensures ∙ ap (λ x. first (misplaced (around_of c.args.around) tree.expr (source.expr x))) c.deref-in-Call.ensures)
    (c.in_exprs-in-Call.ensures ∙ ap (λ l. first (misplaced (around_of c.args.around) tree.exprs (source.of_exprs l))) c.deref-in-Call-2.ensures.value)
    ∙ ap first (sym (misplaced_call (around_of c.args.around) c.in-Call.callee c.in-Call.arguments c.in-Call.is))

pub in_stmt-returns-in-Switch : goal.in_stmt-returns-in-Switch
in_stmt-returns-in-Switch t c =
    c.earlier-in-Switch.ensures.of_parts
    (misplaced (around_of c.args.around) tree.expr (source.expr c.in-Switch.value)) (misplaced (in_switch (around_of c.args.around)) tree.cases (source.of_cases c.in-Switch.cases.items))
    c.in_expr-in-Switch.ensures
    (c.in_cases.ensures ∙ ap (λ l. first (misplaced (in_switch (around_of c.args.around)) tree.cases (source.of_cases l))) c.deref-in-Switch.ensures.value)
    ∙ ap first (sym (misplaced_switch (around_of c.args.around) c.in-Switch.value c.in-Switch.cases c.in-Switch.is))
