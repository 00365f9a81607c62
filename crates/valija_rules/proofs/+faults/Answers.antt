use Rattle.std.proofs.Common.{◌++◌, refl, sym, ap, subst, ◌∙◌, arith}
use Rattle.es3_tree.specs.Tree as tree
use Rattle.es3_tree.specs.PlacedView as source
use Rattle.cajita_rules.specs.Faults.{form_fault, hidden, reserved}
use Rattle.valija_rules.specs.Faults.{faults_in, declared}
use Rattle.cajita_rules.specs.Found.{IsFirst}
use Rattle.cajita_names.specs.Views.{scope_of}
use Rattle.cajita_rules.proofs.Order.{as_one, turn}
use Rattle.valija_rules.proofs.Parts.{faults_of_call, faults_of_for, faults_of_with, faults_of_switch}
use Rattle.valija_rules.proofs.+faults.Goals as goal

pub faults_of_expressions::in_exprs-loop-expression-preserved : goal.faults_of_expressions::in_exprs-loop-expression-preserved
unfolding faults_in
faults_of_expressions::in_exprs-loop-expression-preserved t c =
    turn (λ l. faults_in (scope_of c.args.scope.now) tree.exprs (source.of_exprs l)) _ c.args.list.now c.loop-expression.expression-index c.expression-item.result _ _ _ (omega arith) c.expression-item.is refl
    c.in_ok-in_expr.ensures.told c.picked-found.ensures
    ∙ c.loop-expression.invariant

pub faults_of_expressions::in_fields-loop-key-preserved : goal.faults_of_expressions::in_fields-loop-key-preserved
unfolding faults_in
faults_of_expressions::in_fields-loop-key-preserved t c =
    let s = scope_of c.args.scope.now in
    let key = source.word c.loop-key-item.result.0 in
    let value = faults_in s tree.expr (source.expr c.loop-key-item.result.1) in
    turn (λ l. faults_in s tree.fields (source.of_fields l)) ((hidden key ++ reserved key) ++ value) c.args.fields.now c.loop-key.key-index c.loop-key-item.result _ _ _ (omega arith) c.loop-key-item.is refl
    (c.in_ok-here.ensures (hidden key ++ reserved key) value c.property_key.ensures c.in_expr.ensures).told
    c.picked-found.ensures
    ∙ c.loop-key.invariant

pub faults_of_statements::in_stmts-loop-statement-preserved : goal.faults_of_statements::in_stmts-loop-statement-preserved
unfolding faults_in
faults_of_statements::in_stmts-loop-statement-preserved t c =
    turn (λ l. faults_in (scope_of c.args.scope.now) tree.stmts (source.of_stmts l)) _ c.args.list.now c.loop-statement.statement-index c.statement-item.result _ _ _ (omega arith) c.statement-item.is refl
    c.in_ok-in_stmt.ensures.told c.picked-found.ensures
    ∙ c.loop-statement.invariant

pub faults_of_statements::in_items-loop-item-preserved : goal.faults_of_statements::in_items-loop-item-preserved
unfolding faults_in
faults_of_statements::in_items-loop-item-preserved t c =
    let s = scope_of c.args.scope.now in
    let name = declared (source.word c.item-item.result.name) in
    let value = faults_in s tree.maybe_expr (source.of_maybe_expr c.item-item.result.value) in
    turn (λ l. faults_in s tree.items (source.of_items l)) (name ++ value) c.args.items.now c.loop-item.item-index c.item-item.result _ _ _ (omega arith) c.item-item.is refl
    (c.in_ok-here.ensures name value c.declared-at_name.ensures c.in_maybe_expr.ensures).told
    c.picked-found.ensures
    ∙ c.loop-item.invariant

pub faults_of_statements::in_cases-loop-case-preserved : goal.faults_of_statements::in_cases-loop-case-preserved
unfolding faults_in
faults_of_statements::in_cases-loop-case-preserved t c =
    let s = scope_of c.args.scope.now in
    let test = faults_in s tree.maybe_expr (source.of_maybe_expr c.case-item.result.test) in
    let body = faults_in s tree.stmts (source.of_stmts c.case-item.result.body.items) in
    turn (λ l. faults_in s tree.cases (source.of_cases l)) (test ++ body) c.args.cases.now c.loop-case.case-index c.case-item.result _ _ _ (omega arith) c.case-item.is refl
    (c.in_ok-here.ensures test body c.in_maybe_expr-at_test.ensures (subst (λ l. IsFirst c.in_stmts.result (faults_in s tree.stmts (source.of_stmts l))) c.deref.ensures.value c.in_stmts.ensures)).told
    c.picked-found.ensures
    ∙ c.loop-case.invariant

pub faults_of_expressions::in_expr-returns-in-Call : goal.faults_of_expressions::in_expr-returns-in-Call
faults_of_expressions::in_expr-returns-in-Call t c =
    let s = scope_of c.args.scope.now in
    as_one (faults_of_call s c.in-Call.callee c.in-Call.arguments c.in-Call.is)
    (c.earlier-in-Call.ensures (faults_in s tree.expr (source.expr c.in-Call.callee.value)) (faults_in s tree.exprs (source.of_exprs c.in-Call.arguments.items))
    (as_one (ap (λ x. faults_in s tree.expr (source.expr x)) (sym c.deref-in-Call.ensures)) c.in_expr-in-Call.ensures)
    (as_one (ap (λ l. faults_in s tree.exprs (source.of_exprs l)) (sym c.deref-in-Call-2.ensures.value)) c.in_exprs-in-Call.ensures))

pub faults_of_statements::in_stmt-returns-in-For : goal.faults_of_statements::in_stmt-returns-in-For
faults_of_statements::in_stmt-returns-in-For t c =
    let s = scope_of c.args.scope.now in
    let start = faults_in s tree.first (source.first c.in-For.start) in
    let test = faults_in s tree.maybe_expr (source.of_maybe_expr c.in-For.test) in
    let update = faults_in s tree.maybe_expr (source.of_maybe_expr c.in-For.update) in
    let body = faults_in s tree.stmt (source.stmt c.in-For.body.value) in
    as_one (faults_of_for s c.in-For.start c.in-For.test c.in-For.update c.in-For.body c.in-For.is)
    (c.earlier-in-For.ensures ((start ++ test) ++ update) body
    (c.earlier-head.ensures (start ++ test) update (c.earlier-front-in-For.ensures start test c.in_first-first.ensures c.in_maybe_expr.ensures) c.in_maybe_expr-in-For.ensures)
    (as_one (ap (λ x. faults_in s tree.stmt (source.stmt x)) (sym c.deref-in-For.ensures)) c.in_stmt-in-For.ensures))

pub faults_of_statements::in_stmt-returns-in-With : goal.faults_of_statements::in_stmt-returns-in-With
faults_of_statements::in_stmt-returns-in-With t c =
    let s = scope_of c.args.scope.now in
    let here = form_fault 2 c.in-With.at in
    let object = faults_in s tree.expr (source.expr c.in-With.object) in
    as_one (faults_of_with s c.in-With.object c.in-With.body c.in-With.at c.in-With.is)
    (c.earlier-in-With.ensures (here ++ object) (faults_in s tree.stmt (source.stmt c.in-With.body.value))
    (c.earlier-head-in-With.ensures here object c.a_with.ensures c.in_expr-in-With.ensures)
    (as_one (ap (λ x. faults_in s tree.stmt (source.stmt x)) (sym c.deref-in-With.ensures)) c.in_stmt-in-With.ensures))

pub faults_of_statements::in_stmt-returns-in-Switch : goal.faults_of_statements::in_stmt-returns-in-Switch
faults_of_statements::in_stmt-returns-in-Switch t c =
    let s = scope_of c.args.scope.now in
    as_one (faults_of_switch s c.in-Switch.value c.in-Switch.cases c.in-Switch.is)
    (c.earlier-in-Switch.ensures (faults_in s tree.expr (source.expr c.in-Switch.value)) (faults_in s tree.cases (source.of_cases c.in-Switch.cases.items)) c.in_expr-in-Switch.ensures
    (as_one (ap (λ l. faults_in s tree.cases (source.of_cases l)) (sym c.deref-in-Switch.ensures.value)) c.in_cases.ensures))
