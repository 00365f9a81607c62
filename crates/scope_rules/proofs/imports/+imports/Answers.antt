use Rattle.std.proofs.Common.{◌++◌, refl, sym, ap, ◌∙◌, arith}
use Rattle.es3_tree.specs.Tree as tree
use Rattle.es3_tree.specs.PlacedView as source
use Rattle.scope_rules.specs.Free.{free}
use Rattle.cajita_names.specs.Once.{once_after}
use Rattle.cajita_names.specs.Views.{scope_of}
use Rattle.scope_rules.proofs.OnceParts.{once_parts, turn, second, free_of_call, free_of_switch}
use Rattle.scope_rules.proofs.imports.+imports.Goals as goal

pub from_exprs-loop-expression-preserved : goal.from_exprs-loop-expression-preserved
unfolding free
from_exprs-loop-expression-preserved t c =
    turn (λ l. free (scope_of c.args.scope.now) tree.exprs (source.of_exprs l)) _ c.args.list.now c.loop-expression.expression-index c.expression-item.result _ _ (omega arith) c.expression-item.is refl
    c.in_ok-names.ensures
    ∙ c.loop-expression.invariant

pub from_fields-loop-value-preserved : goal.from_fields-loop-value-preserved
unfolding free
from_fields-loop-value-preserved t c =
    turn (λ l. free (scope_of c.args.scope.now) tree.fields (source.of_fields l)) _ c.args.fields.now c.loop-value.value-index c.loop-value-item.result _ _ (omega arith) c.loop-value-item.is refl
    c.in_ok-names.ensures
    ∙ c.loop-value.invariant

pub from_stmts-loop-statement-preserved : goal.from_stmts-loop-statement-preserved
unfolding free
from_stmts-loop-statement-preserved t c =
    turn (λ l. free (scope_of c.args.scope.now) tree.stmts (source.of_stmts l)) _ c.args.list.now c.loop-statement.statement-index c.statement-item.result _ _ (omega arith) c.statement-item.is refl
    c.in_ok-names.ensures
    ∙ c.loop-statement.invariant

pub from_items-loop-item-preserved : goal.from_items-loop-item-preserved
unfolding free
from_items-loop-item-preserved t c =
    turn (λ l. free (scope_of c.args.scope.now) tree.items (source.of_items l)) _ c.args.items.now c.loop-item.item-index c.item-item.result _ _ (omega arith) c.item-item.is refl
    c.in_ok-names.ensures
    ∙ c.loop-item.invariant

pub from_cases-loop-case-preserved : goal.from_cases-loop-case-preserved
unfolding free
from_cases-loop-case-preserved t c =
    let s = scope_of c.args.scope.now in
    let test = free s tree.maybe_expr (source.of_maybe_expr c.case-item.result.test) in
    let body = free s tree.stmts (source.of_stmts c.case-item.result.body.items) in
    turn (λ l. free s tree.cases (source.of_cases l)) (test ++ body) c.args.cases.now c.loop-case.case-index c.case-item.result _ _ (omega arith) c.case-item.is refl
    (c.in_ok-names-2.ensures
    ∙ ap (λ l. once_after c.in_ok-names.names.items (free s tree.stmts (source.of_stmts l))) c.deref.ensures.value
    ∙ ap (λ m. once_after m body) c.in_ok-names.ensures
    ∙ sym (once_parts c.loop-case.names.items test body))
    ∙ c.loop-case.invariant

pub from_expr-returns-in_ok-names-in-Call : goal.from_expr-returns-in_ok-names-in-Call
from_expr-returns-in_ok-names-in-Call t c =
    let s = scope_of c.args.scope.now in
    second c.from_exprs-in-Call.result c.args.names.items c.in_ok-names-in-Call.names.items
    (free s tree.expr (source.expr c.in-Call.callee.value)) (free s tree.exprs (source.of_exprs c.in-Call.arguments.items)) (free s tree.exprs (source.of_exprs c.deref-in-Call-2.result.now)) _
    (c.in_ok-names-in-Call.ensures ∙ ap (λ x. once_after c.args.names.items (free s tree.expr (source.expr x))) c.deref-in-Call.ensures)
    (ap (λ l. free s tree.exprs (source.of_exprs l)) c.deref-in-Call-2.ensures.value)
    (free_of_call s c.in-Call.callee c.in-Call.arguments c.in-Call.is)
    c.from_exprs-in-Call.ensures

pub from_stmt-returns-in_ok-names-in-Switch : goal.from_stmt-returns-in_ok-names-in-Switch
from_stmt-returns-in_ok-names-in-Switch t c =
    let s = scope_of c.args.scope.now in
    second c.from_cases.result c.args.names.items c.in_ok-names-in-Switch.names.items
    (free s tree.expr (source.expr c.in-Switch.value)) (free s tree.cases (source.of_cases c.in-Switch.cases.items)) (free s tree.cases (source.of_cases c.deref-in-Switch.result.now)) _
    c.in_ok-names-in-Switch.ensures
    (ap (λ l. free s tree.cases (source.of_cases l)) c.deref-in-Switch.ensures.value)
    (free_of_switch s c.in-Switch.value c.in-Switch.cases c.in-Switch.is)
    c.from_cases.ensures
