use Rattle.std.proofs.Common.{◌≡◌, ◌+◌, drop, refl, sym, ap, subst, ◌∙◌, arith}
use Rattle.std.specs.Prelude.{IfOk}
use Rattle.std.proofs.lemmas.Result.{IfOk-weaker}
use Rattle.es3_tree.specs.Tree as tree
use Rattle.es3_tree.specs.Placed as placed
use Rattle.es3_tree.specs.PlacedView as source
use Rattle.cajita_names.specs.Scope.{in_catch}
use Rattle.cajita_names.specs.Views.{scope_of}
use Rattle.valija_forms.specs.Numbered.{one, both}
use Rattle.valija_forms.specs.Forms.{word, declares, named}
use Rattle.valija_parts.specs.Lower.{lowered, lowered_function, functions_before}
use Rattle.valija_parts.specs.Places.{place, target, stepped, steps_taken, assigned, held_by}
use Rattle.valija_lower.proofs.Front as front
use Rattle.valija_lower.proofs.Front.{one_on, passed, all_done}
use Rattle.valija_lower.proofs.Steps.{turn_both, turn_three, stands, left_out}
use Rattle.valija_lower.proofs.Forms.{as_given, of_call, of_new, of_unary, of_step, of_binary, of_assign, of_if, of_for, of_for_in, of_switch, of_try, of_index, of_and, of_or, of_comma, of_choice, of_while, of_do, of_with, of_handler, of_last, without_handler, without_last}
use Rattle.valija_lower.proofs.Functions.{undeclared, declares_one, declares_none, declares_nameless, named_function}
use Rattle.valija_lower.proofs.+lower.Goals as goal

pub expressions::lower_exprs-loop-e-preserved : goal.expressions::lower_exprs-loop-e-preserved
unfolding lowered
expressions::lower_exprs-loop-e-preserved t c =
    let s = scope_of c.args.scope.now in
    let rest = source.of_exprs (drop (c.loop-e.e-index + 1) c.args.list.now) in
    one_on c.args.list.now c.loop-e.e-index c.e-item.result c.into_inner.result _ c.loop-e.invariant (omega arith) c.e-item.is c.in_ok-push.ensures.items
    (turn_both placed.more_exprs (lowered s tree.expr (source.expr c.e-item.result)) (lowered s tree.exprs rest) _ _ _ (ap (λ z. (source.expr z, c.lower_expr.new.temporaries.taken)) c.into_inner.ensures ∙ c.in_ok-e.ensures.told))

pub expressions::lower_exprs-returns : goal.expressions::lower_exprs-returns
unfolding lowered
expressions::lower_exprs-returns t c =
    record {
      told =
          all_done c.args.list.now c.loop-e.e-index placed.no_exprs _ c.loop-e.invariant (omega arith) refl (front.exprs_in_front c.loop-e.done.items);
    }

pub expressions::lower_fields-loop-key-preserved : goal.expressions::lower_fields-loop-key-preserved
unfolding lowered
expressions::lower_fields-loop-key-preserved t c =
    let s = scope_of c.args.scope.now in
    let rest = source.of_fields (drop (c.loop-key.key-index + 1) c.args.fields.now) in
    one_on c.args.fields.now c.loop-key.key-index c.loop-key-item.result (c.in_ok-copied.field-0, c.into_inner.result) _ c.loop-key.invariant (omega arith) c.loop-key-item.is c.in_ok-push.ensures.items
    (ap (λ k. (placed.more_fields k (source.expr c.into_inner.result) (lowered s tree.fields rest c.lower_expr.new.temporaries.taken).0, (lowered s tree.fields rest c.lower_expr.new.temporaries.taken).1)) c.in_ok-copied.ensures
    ∙ turn_both (placed.more_fields (word c.loop-key-item.result.0.text)) (lowered s tree.expr (source.expr c.loop-key-item.result.1)) (lowered s tree.fields rest) _ _ _ (ap (λ z. (source.expr z, c.lower_expr.new.temporaries.taken)) c.into_inner.ensures ∙ c.in_ok-value.ensures.told))

pub expressions::lower_fields-returns : goal.expressions::lower_fields-returns
unfolding lowered
expressions::lower_fields-returns t c =
    record {
      told =
          all_done c.args.fields.now c.loop-key.key-index placed.no_fields _ c.loop-key.invariant (omega arith) refl (front.fields_in_front c.loop-key.done.items);
    }

pub statements::lower_stmts-loop-statement-preserved : goal.statements::lower_stmts-loop-statement-preserved
unfolding lowered
statements::lower_stmts-loop-statement-preserved t c =
    let s = scope_of c.args.scope.now in
    let rest = source.of_stmts (drop (c.loop-statement.statement-index + 1) c.args.list.now) in
    one_on c.args.list.now c.loop-statement.statement-index c.statement-item.result c.into_inner.result _ c.loop-statement.invariant (omega arith) c.statement-item.is c.in_ok-push.ensures.items
    (turn_both placed.more_stmts (lowered s tree.stmt (source.stmt c.statement-item.result)) (lowered s tree.stmts rest) _ _ _ (ap (λ z. (source.stmt z, c.lower_stmt.new.temporaries.taken)) c.into_inner.ensures ∙ c.in_ok-statement.ensures.told)
    ∙ stands s (source.stmt c.statement-item.result) rest _ (sym c.if-is_declaration.false ∙ c.is_declaration.ensures))

pub statements::lower_stmts-loop-statement-preserved-then-is_declaration : goal.statements::lower_stmts-loop-statement-preserved-then-is_declaration
unfolding lowered
statements::lower_stmts-loop-statement-preserved-then-is_declaration t c =
    passed c.args.list.now c.loop-statement.statement-index c.statement-item.result c.loop-statement.invariant (omega arith) c.statement-item.is
    (left_out (scope_of c.args.scope.now) (source.stmt c.statement-item.result) _ _ (sym c.if-is_declaration.true ∙ c.is_declaration.ensures))

pub statements::lower_stmts-returns : goal.statements::lower_stmts-returns
unfolding lowered
statements::lower_stmts-returns t c =
    record {
      told =
          all_done c.args.list.now c.loop-statement.statement-index placed.no_stmts _ c.loop-statement.invariant (omega arith) refl (front.stmts_in_front c.loop-statement.done.items);
    }

pub statements::lower_items-loop-item-preserved : goal.statements::lower_items-loop-item-preserved
unfolding lowered
statements::lower_items-loop-item-preserved t c =
    let s = scope_of c.args.scope.now in
    let rest = source.of_items (drop (c.loop-item.item-index + 1) c.args.items.now) in
    let m = c.lower_maybe.new.temporaries.taken in
    one_on c.args.items.now c.loop-item.item-index c.item-item.result (record { name = c.in_ok-name.name; value = c.in_ok-value.value }) _ c.loop-item.invariant (omega arith) c.item-item.is c.in_ok-push.ensures.items
    (ap (λ k. (placed.more_items k (source.of_maybe_expr c.in_ok-value.value) (lowered s tree.items rest m).0, (lowered s tree.items rest m).1)) c.in_ok-name.ensures
    ∙ turn_both (placed.more_items (word c.item-item.result.name.text)) (lowered s tree.maybe_expr (source.of_maybe_expr c.item-item.result.value)) (lowered s tree.items rest) _ _ _ c.in_ok-value.ensures.told)

pub statements::lower_items-returns : goal.statements::lower_items-returns
unfolding lowered
statements::lower_items-returns t c =
    record {
      told =
          all_done c.args.items.now c.loop-item.item-index placed.no_items _ c.loop-item.invariant (omega arith) refl (front.items_in_front c.loop-item.done.items);
    }

pub statements::lower_cases-loop-case-preserved : goal.statements::lower_cases-loop-case-preserved
unfolding lowered
statements::lower_cases-loop-case-preserved t c =
    let s = scope_of c.args.scope.now in
    let rest = source.of_cases (drop (c.loop-case.case-index + 1) c.args.cases.now) in
    one_on c.args.cases.now c.loop-case.case-index c.case-item.result (record { test = c.in_ok-test.test; body = c.in_ok-body.body }) _ c.loop-case.invariant (omega arith) c.case-item.is c.in_ok-push.ensures.items
    (turn_three placed.more_cases (lowered s tree.maybe_expr (source.of_maybe_expr c.case-item.result.test)) (lowered s tree.stmts (source.of_stmts c.case-item.result.body.items)) (lowered s tree.cases rest) _ _ _ _ _
    c.in_ok-test.ensures.told (c.in_ok-body.ensures.told ∙ ap (λ l. lowered s tree.stmts (source.of_stmts l) c.lower_maybe.new.temporaries.taken) c.deref.ensures.value))

pub statements::lower_cases-returns : goal.statements::lower_cases-returns
unfolding lowered
statements::lower_cases-returns t c =
    record {
      told =
          all_done c.args.cases.now c.loop-case.case-index placed.no_cases _ c.loop-case.invariant (omega arith) refl (front.cases_in_front c.loop-case.done.items);
    }

pub expressions::lower_expr-returns-in-Call : goal.expressions::lower_expr-returns-in-Call
expressions::lower_expr-returns-in-Call t c =
    let s = scope_of c.args.scope.now in
    as_given (of_call s _ c.in-Call.callee c.in-Call.arguments c.in-Call.is)
    (c.call.ensures (place s (source.expr c.in-Call.callee.value)) (lowered s tree.exprs (source.of_exprs c.in-Call.arguments.items)) _ _ _
    (as_given (ap (λ x. place s (source.expr x) c.args.temporaries.now.taken) (sym c.deref-in-Call.ensures)) c.lower_place-callee.ensures)
    (as_given (ap (λ l. lowered s tree.exprs (source.of_exprs l) c.lower_place-callee.new.temporaries.taken) (sym c.deref-in-Call-2.ensures.value)) c.lower_exprs-arguments.ensures))

pub expressions::lower_expr-returns-in-New : goal.expressions::lower_expr-returns-in-New
expressions::lower_expr-returns-in-New t c =
    let s = scope_of c.args.scope.now in
    as_given (of_new s _ c.in-New.constructor c.in-New.arguments c.in-New.is)
    (c.new.ensures (lowered s tree.expr (source.expr c.in-New.constructor.value)) (lowered s tree.exprs (source.of_exprs c.in-New.arguments.items)) _ _ _
    (as_given (ap (λ x. lowered s tree.expr (source.expr x) c.args.temporaries.now.taken) (sym c.deref-in-New.ensures)) c.lower_expr-constructor.ensures)
    (as_given (ap (λ l. lowered s tree.exprs (source.of_exprs l) c.lower_expr-constructor.new.temporaries.taken) (sym c.deref-in-New-2.ensures.value)) c.lower_exprs-arguments-in-New.ensures))

pub expressions::lower_expr-returns-in-Unary : goal.expressions::lower_expr-returns-in-Unary
expressions::lower_expr-returns-in-Unary t c =
    let s = scope_of c.args.scope.now in
    as_given (of_unary s _ c.in-Unary.op c.in-Unary.operand _ c.in-Unary.is)
    (c.unary.ensures (place s (source.expr c.in-Unary.operand.value)) _ _
    (as_given (ap (λ x. place s (source.expr x) c.args.temporaries.now.taken) (sym c.deref-in-Unary.ensures)) c.lower_place-operand.ensures))

pub expressions::lower_expr-returns-in-Step : goal.expressions::lower_expr-returns-in-Step
expressions::lower_expr-returns-in-Step t c =
    let s = scope_of c.args.scope.now in
    let n = c.args.temporaries.now.taken in
    let up = c.in-Step.up in
    let before = c.in-Step.before in
    let operand = c.in-Step.operand in
    let count = c.steps_taken.ensures ∙ ap (λ x. steps_taken s before (source.expr x)) c.deref-in-Step.ensures in
    as_given (of_step s n up before operand c.in-Step.is ∙ ap (λ i. one (stepped s up before n) (place s (source.expr operand.value)) (n + i)) (sym count))
    (c.step.ensures (place s (source.expr operand.value)) n c.steps_taken.result c.take-first.new.self.taken _ c.take-first.ensures
    (as_given (ap (λ x. place s (source.expr x) c.take-first.new.self.taken) (sym c.deref-in-Step-2.ensures)) c.lower_place-operand-in-Step.ensures))

pub expressions::lower_expr-returns-in-Binary : goal.expressions::lower_expr-returns-in-Binary
expressions::lower_expr-returns-in-Binary t c =
    let s = scope_of c.args.scope.now in
    as_given (of_binary s _ c.in-Binary.op c.in-Binary.left c.in-Binary.right c.in-Binary.is)
    (c.binary.ensures (lowered s tree.expr (source.expr c.in-Binary.left.value)) (lowered s tree.expr (source.expr c.in-Binary.right.value)) _ _ _
    (as_given (ap (λ x. lowered s tree.expr (source.expr x) c.args.temporaries.now.taken) (sym c.deref-in-Binary.ensures)) c.lower_expr-left.ensures)
    (as_given (ap (λ x. lowered s tree.expr (source.expr x) c.lower_expr-left.new.temporaries.taken) (sym c.deref-in-Binary-2.ensures)) c.lower_expr-right.ensures))

pub expressions::lower_expr-returns-in-Assign : goal.expressions::lower_expr-returns-in-Assign
expressions::lower_expr-returns-in-Assign t c =
    let s = scope_of c.args.scope.now in
    let n = c.args.temporaries.now.taken in
    let op = c.in-Assign.op in
    let target = c.in-Assign.target in
    let value = c.in-Assign.value in
    let count = c.held_by.ensures ∙ ap (λ x. held_by op (source.expr x)) c.deref-in-Assign.ensures in
    as_given (of_assign s n op target value c.in-Assign.is ∙ ap (λ i. both (assigned s op n) (place s (source.expr target.value)) (lowered s tree.expr (source.expr value.value)) (n + i)) (sym count))
    (c.assign.ensures (place s (source.expr target.value)) (lowered s tree.expr (source.expr value.value)) n c.held_by.result c.take-first-in-Assign.new.self.taken _ _ c.take-first-in-Assign.ensures
    (as_given (ap (λ x. place s (source.expr x) c.take-first-in-Assign.new.self.taken) (sym c.deref-in-Assign-2.ensures)) c.lower_place-target.ensures)
    (as_given (ap (λ x. lowered s tree.expr (source.expr x) c.lower_place-target.new.temporaries.taken) (sym c.deref-in-Assign-3.ensures)) c.lower_expr-value.ensures))

pub statements::lower_stmt-returns-in-If : goal.statements::lower_stmt-returns-in-If
statements::lower_stmt-returns-in-If t c =
    let s = scope_of c.args.scope.now in
    as_given (of_if s _ c.in-If.test c.in-If.then c.in-If.otherwise c.in-If.is)
    (c.branch-alloc.ensures (lowered s tree.expr (source.expr c.in-If.test)) (lowered s tree.stmt (source.stmt c.in-If.then.value)) (lowered s tree.maybe_stmt (source.of_maybe_stmt c.in-If.otherwise)) _ _ _ _
    c.lower_expr-test.ensures
    (as_given (ap (λ x. lowered s tree.stmt (source.stmt x) c.lower_expr-test.new.temporaries.taken) (sym c.deref-in-If.ensures)) c.lower_stmt-then.ensures) c.lower_otherwise-otherwise.ensures)

pub statements::lower_stmt-returns-in-For : goal.statements::lower_stmt-returns-in-For
statements::lower_stmt-returns-in-For t c =
    let s = scope_of c.args.scope.now in
    as_given (of_for s _ c.in-For.start c.in-For.test c.in-For.update c.in-For.body c.in-For.is)
    (c.for_loop.ensures (lowered s tree.first (source.first c.in-For.start)) (lowered s tree.maybe_expr (source.of_maybe_expr c.in-For.test))
    (lowered s tree.maybe_expr (source.of_maybe_expr c.in-For.update)) (lowered s tree.stmt (source.stmt c.in-For.body.value)) _ _ _ _ _
    c.lower_first-start.ensures c.lower_maybe-test.ensures c.lower_maybe-update.ensures
    (as_given (ap (λ x. lowered s tree.stmt (source.stmt x) c.lower_maybe-update.new.temporaries.taken) (sym c.deref-in-For.ensures)) c.lower_stmt-body-in-For.ensures))

pub statements::lower_stmt-returns-in-ForIn : goal.statements::lower_stmt-returns-in-ForIn
statements::lower_stmt-returns-in-ForIn t c =
    let s = scope_of c.args.scope.now in
    let n = c.args.temporaries.now.taken in
    as_given (of_for_in s n c.in-ForIn.target c.in-ForIn.object c.in-ForIn.body c.in-ForIn.is)
    (c.for_in.ensures (target s (source.loop_target c.in-ForIn.target)) (lowered s tree.expr (source.expr c.in-ForIn.object)) (lowered s tree.stmt (source.stmt c.in-ForIn.body.value)) n 3 c.take-first.new.self.taken _ _ _
    c.take-first.ensures c.lower_target-target.ensures c.lower_expr-object.ensures
    (as_given (ap (λ x. lowered s tree.stmt (source.stmt x) c.lower_expr-object.new.temporaries.taken) (sym c.deref-in-ForIn.ensures)) c.lower_stmt-body-in-ForIn.ensures))

pub statements::lower_stmt-returns-in-Switch : goal.statements::lower_stmt-returns-in-Switch
statements::lower_stmt-returns-in-Switch t c =
    let s = scope_of c.args.scope.now in
    as_given (of_switch s _ c.in-Switch.value c.in-Switch.cases c.in-Switch.is)
    (c.switch.ensures (lowered s tree.expr (source.expr c.in-Switch.value)) (lowered s tree.cases (source.of_cases c.in-Switch.cases.items)) _ _ _ c.lower_expr-value.ensures
    (as_given (ap (λ l. lowered s tree.cases (source.of_cases l) c.lower_expr-value.new.temporaries.taken) (sym c.deref-in-Switch.ensures.value)) c.lower_cases.ensures))

pub bodies::lower_functions-loop-statement-preserved : goal.bodies::lower_functions-loop-statement-preserved
bodies::lower_functions-loop-statement-preserved t c =
    let s = scope_of c.args.scope.now in
    let function = c.in-Func.function in
    let name = c.in-Some.name in
    let rest = source.of_stmts (drop (c.loop-statement.statement-index + 1) c.args.list.now) in
    one_on c.args.list.now c.loop-statement.statement-index c.statement-item.result c.in_ok-declares.field-0 0 c.loop-statement.invariant (omega arith) c.statement-item.is c.in_ok-push.ensures.items
    (ap (λ x. (placed.more_stmts x (functions_before s rest), 0)) (c.in_ok-declares.ensures ∙ ap (declares (source.word name)) (c.in_ok-value.ensures function.at))
    ∙ ap (λ x. (x, 0)) (sym (declares_one s function name rest c.in-Func.is c.in-Some.is)))

pub bodies::lower_functions-loop-statement-preserved-in_default : goal.bodies::lower_functions-loop-statement-preserved-in_default
bodies::lower_functions-loop-statement-preserved-in_default t c =
    passed c.args.list.now c.loop-statement.statement-index c.statement-item.result c.loop-statement.invariant (omega arith) c.statement-item.is
    (ap (λ x. (x, 0)) (declares_none (scope_of c.args.scope.now) (source.stmt c.statement-item.result) _ (undeclared c.statement-item.result c.in_default.not-Func)))

pub bodies::lower_functions-loop-statement-preserved-in_default-name : goal.bodies::lower_functions-loop-statement-preserved-in_default-name
bodies::lower_functions-loop-statement-preserved-in_default-name t c =
    passed c.args.list.now c.loop-statement.statement-index c.statement-item.result c.loop-statement.invariant (omega arith) c.statement-item.is
    (ap (λ x. (x, 0)) (declares_nameless (scope_of c.args.scope.now) c.in-Func.function _ c.in-Func.is c.in_default-name.is))

pub bodies::lower_functions-returns : goal.bodies::lower_functions-returns
unfolding functions_before
bodies::lower_functions-returns t c =
    ap (λ q. q.0) (all_done c.args.list.now c.loop-statement.statement-index placed.no_stmts _ c.loop-statement.invariant (omega arith) refl (front.stmts_in_front c.loop-statement.done.items))

pub expressions::lower_expr-returns-in-Index : goal.expressions::lower_expr-returns-in-Index
expressions::lower_expr-returns-in-Index t c =
    let s = scope_of c.args.scope.now in
    as_given (of_index s _ c.in-Index.object c.in-Index.key c.in-Index.is)
    (c.index.ensures (lowered s tree.expr (source.expr c.in-Index.object.value)) (lowered s tree.expr (source.expr c.in-Index.key.value)) _ _ _
    (as_given (ap (λ x. lowered s tree.expr (source.expr x) c.args.temporaries.now.taken) (sym c.deref-in-Index.ensures)) c.lower_expr-object.ensures)
    (as_given (ap (λ x. lowered s tree.expr (source.expr x) c.lower_expr-object.new.temporaries.taken) (sym c.deref-in-Index-2.ensures)) c.lower_expr-in-Index.ensures))

pub expressions::lower_expr-returns-in-And : goal.expressions::lower_expr-returns-in-And
expressions::lower_expr-returns-in-And t c =
    let s = scope_of c.args.scope.now in
    as_given (of_and s _ c.in-And.left c.in-And.right c.in-And.is)
    (c.and.ensures (lowered s tree.expr (source.expr c.in-And.left.value)) (lowered s tree.expr (source.expr c.in-And.right.value)) _ _ _
    (as_given (ap (λ x. lowered s tree.expr (source.expr x) c.args.temporaries.now.taken) (sym c.deref-in-And.ensures)) c.lower_expr-left-in-And.ensures)
    (as_given (ap (λ x. lowered s tree.expr (source.expr x) c.lower_expr-left-in-And.new.temporaries.taken) (sym c.deref-in-And-2.ensures)) c.lower_expr-in-And.ensures))

pub expressions::lower_expr-returns-in-Or : goal.expressions::lower_expr-returns-in-Or
expressions::lower_expr-returns-in-Or t c =
    let s = scope_of c.args.scope.now in
    as_given (of_or s _ c.in-Or.left c.in-Or.right c.in-Or.is)
    (c.or.ensures (lowered s tree.expr (source.expr c.in-Or.left.value)) (lowered s tree.expr (source.expr c.in-Or.right.value)) _ _ _
    (as_given (ap (λ x. lowered s tree.expr (source.expr x) c.args.temporaries.now.taken) (sym c.deref-in-Or.ensures)) c.lower_expr-left-in-Or.ensures)
    (as_given (ap (λ x. lowered s tree.expr (source.expr x) c.lower_expr-left-in-Or.new.temporaries.taken) (sym c.deref-in-Or-2.ensures)) c.lower_expr-in-Or.ensures))

pub expressions::lower_expr-returns-in-Comma : goal.expressions::lower_expr-returns-in-Comma
expressions::lower_expr-returns-in-Comma t c =
    let s = scope_of c.args.scope.now in
    as_given (of_comma s _ c.in-Comma.left c.in-Comma.right c.in-Comma.is)
    (c.comma.ensures (lowered s tree.expr (source.expr c.in-Comma.left.value)) (lowered s tree.expr (source.expr c.in-Comma.right.value)) _ _ _
    (as_given (ap (λ x. lowered s tree.expr (source.expr x) c.args.temporaries.now.taken) (sym c.deref-in-Comma.ensures)) c.lower_expr-left-in-Comma.ensures)
    (as_given (ap (λ x. lowered s tree.expr (source.expr x) c.lower_expr-left-in-Comma.new.temporaries.taken) (sym c.deref-in-Comma-2.ensures)) c.lower_expr-in-Comma.ensures))

pub expressions::lower_expr-returns-in-Cond : goal.expressions::lower_expr-returns-in-Cond
expressions::lower_expr-returns-in-Cond t c =
    let s = scope_of c.args.scope.now in
    as_given (of_choice s _ c.in-Cond.test c.in-Cond.yes c.in-Cond.no c.in-Cond.is)
    (c.choice.ensures (lowered s tree.expr (source.expr c.in-Cond.test.value)) (lowered s tree.expr (source.expr c.in-Cond.yes.value)) (lowered s tree.expr (source.expr c.in-Cond.no.value)) _ _ _ _
    (as_given (ap (λ x. lowered s tree.expr (source.expr x) c.args.temporaries.now.taken) (sym c.deref-in-Cond.ensures)) c.lower_expr-test.ensures)
    (as_given (ap (λ x. lowered s tree.expr (source.expr x) c.lower_expr-test.new.temporaries.taken) (sym c.deref-in-Cond-2.ensures)) c.lower_expr-yes.ensures)
    (as_given (ap (λ x. lowered s tree.expr (source.expr x) c.lower_expr-yes.new.temporaries.taken) (sym c.deref-in-Cond-3.ensures)) c.lower_expr-in-Cond.ensures))

pub statements::lower_stmt-returns-in-While : goal.statements::lower_stmt-returns-in-While
statements::lower_stmt-returns-in-While t c =
    let s = scope_of c.args.scope.now in
    as_given (of_while s _ c.in-While.test c.in-While.body c.in-While.is)
    (c.while_loop.ensures (lowered s tree.expr (source.expr c.in-While.test)) (lowered s tree.stmt (source.stmt c.in-While.body.value)) _ _ _ c.lower_expr-test-in-While.ensures
    (as_given (ap (λ x. lowered s tree.stmt (source.stmt x) c.lower_expr-test-in-While.new.temporaries.taken) (sym c.deref-in-While.ensures)) c.lower_stmt.ensures))

pub statements::lower_stmt-returns-in-Do : goal.statements::lower_stmt-returns-in-Do
statements::lower_stmt-returns-in-Do t c =
    let s = scope_of c.args.scope.now in
    as_given (of_do s _ c.in-Do.body c.in-Do.test c.in-Do.is)
    (c.do_loop.ensures (lowered s tree.stmt (source.stmt c.in-Do.body.value)) (lowered s tree.expr (source.expr c.in-Do.test)) _ _ _
    (as_given (ap (λ x. lowered s tree.stmt (source.stmt x) c.args.temporaries.now.taken) (sym c.deref-in-Do.ensures)) c.lower_stmt-body.ensures) c.lower_expr-in-Do.ensures)

pub statements::lower_stmt-returns-in-With : goal.statements::lower_stmt-returns-in-With
statements::lower_stmt-returns-in-With t c =
    let s = scope_of c.args.scope.now in
    as_given (of_with s _ c.in-With.object c.in-With.body _ c.in-With.is)
    (c.with_object.ensures (lowered s tree.expr (source.expr c.in-With.object)) (lowered s tree.stmt (source.stmt c.in-With.body.value)) _ _ _ c.lower_expr-object-in-With.ensures
    (as_given (ap (λ x. lowered s tree.stmt (source.stmt x) c.lower_expr-object-in-With.new.temporaries.taken) (sym c.deref-in-With.ensures)) c.lower_stmt-in-With.ensures))

pub bodies::lower_function-returns-in-None : goal.bodies::lower_function-returns-in-None
bodies::lower_function-returns-in-None t c =
    let s = scope_of c.args.scope.now in
    let f = c.args.function.now in
    subst (λ m. IfOk c.lower_taking.result (λ x. source.expr x.value ≡ lowered_function s (placed.fun (source.word_of m) (source.words f.params.items) (source.of_stmts f.body.items) f.at))) (sym c.in-None.is) (c.lower_taking.ensures f.at)

pub bodies::lower_function-returns-in_ok-value-in-Some : goal.bodies::lower_function-returns-in_ok-value-in-Some
bodies::lower_function-returns-in_ok-value-in-Some t c =
    IfOk-weaker c.named.result _ _ (λ x h. h ∙ ap (named (source.word c.in-Some.name)) (c.in_ok-value-in-Some.ensures 0) ∙ sym (named_function (scope_of c.args.scope.now) c.args.function.now c.in-Some.name 0 c.in-Some.is)) c.named.ensures

pub statements::lower_stmt-returns-in-Some-last : goal.statements::lower_stmt-returns-in-Some-last
statements::lower_stmt-returns-in-Some-last t c =
    let s = scope_of c.args.scope.now in
    let inner = in_catch c.in-Some.name.text s in
    let m = c.lower_stmts-body.new.temporaries.taken in
    let k = c.lower_stmts-caught.new.temporaries.taken in
    as_given (of_try s _ c.in-Try.body c.in-Try.handler c.in-Try.last c.in-Try.is)
    (c.try_catch.ensures (lowered s tree.stmts (source.of_stmts c.in-Try.body.items)) (lowered s tree.handler (source.of_handler c.in-Try.handler)) (lowered s tree.maybe_block (source.of_maybe_block c.in-Try.last)) _ _ _ _
    (as_given (ap (λ l. lowered s tree.stmts (source.of_stmts l) c.args.temporaries.now.taken) (sym c.deref-in-Try.ensures.value)) c.lower_stmts-body.ensures)
    (as_given (of_handler s m c.in-Some.name c.in-Some.caught c.in-Some.is)
    (c.handler-handler.ensures (lowered inner tree.stmts (source.of_stmts c.in-Some.caught.items)) _ _
    (as_given (ap (λ l. lowered inner tree.stmts (source.of_stmts l) m) (sym c.deref-in-Some.ensures.value)) c.lower_stmts-caught.ensures)))
    (as_given (of_last s k c.in-Some-last.last c.in-Some-last.is)
    (c.last.ensures (lowered s tree.stmts (source.of_stmts c.in-Some-last.last.items)) _ _
    (as_given (ap (λ l. lowered s tree.stmts (source.of_stmts l) k) (sym c.deref-in-Some-last.ensures.value)) c.lower_stmts-last.ensures))))

pub statements::lower_stmt-returns-in-None-last : goal.statements::lower_stmt-returns-in-None-last
statements::lower_stmt-returns-in-None-last t c =
    let s = scope_of c.args.scope.now in
    let inner = in_catch c.in-Some.name.text s in
    let m = c.lower_stmts-body.new.temporaries.taken in
    let k = c.lower_stmts-caught.new.temporaries.taken in
    as_given (of_try s _ c.in-Try.body c.in-Try.handler c.in-Try.last c.in-Try.is)
    (c.try_catch-in-None-last.ensures (lowered s tree.stmts (source.of_stmts c.in-Try.body.items)) (lowered s tree.handler (source.of_handler c.in-Try.handler)) (lowered s tree.maybe_block (source.of_maybe_block c.in-Try.last)) _ _ _ _
    (as_given (ap (λ l. lowered s tree.stmts (source.of_stmts l) c.args.temporaries.now.taken) (sym c.deref-in-Try.ensures.value)) c.lower_stmts-body.ensures)
    (as_given (of_handler s m c.in-Some.name c.in-Some.caught c.in-Some.is)
    (c.handler-handler.ensures (lowered inner tree.stmts (source.of_stmts c.in-Some.caught.items)) _ _
    (as_given (ap (λ l. lowered inner tree.stmts (source.of_stmts l) m) (sym c.deref-in-Some.ensures.value)) c.lower_stmts-caught.ensures)))
    (without_last s k c.in-None-last.is))

pub statements::lower_stmt-returns-in-Some-last-2 : goal.statements::lower_stmt-returns-in-Some-last-2
statements::lower_stmt-returns-in-Some-last-2 t c =
    let s = scope_of c.args.scope.now in
    let m = c.lower_stmts-body.new.temporaries.taken in
    as_given (of_try s _ c.in-Try.body c.in-Try.handler c.in-Try.last c.in-Try.is)
    (c.try_catch-in-Some-last-2.ensures (lowered s tree.stmts (source.of_stmts c.in-Try.body.items)) (lowered s tree.handler (source.of_handler c.in-Try.handler)) (lowered s tree.maybe_block (source.of_maybe_block c.in-Try.last)) _ _ _ _
    (as_given (ap (λ l. lowered s tree.stmts (source.of_stmts l) c.args.temporaries.now.taken) (sym c.deref-in-Try.ensures.value)) c.lower_stmts-body.ensures)
    (without_handler s m c.in-None.is)
    (as_given (of_last s m c.in-Some-last-2.last c.in-Some-last-2.is)
    (c.last-in-Some-last-2.ensures (lowered s tree.stmts (source.of_stmts c.in-Some-last-2.last.items)) _ _
    (as_given (ap (λ l. lowered s tree.stmts (source.of_stmts l) m) (sym c.deref-in-Some-last-2.ensures.value)) c.lower_stmts-last-in-Some-last-2.ensures))))

pub statements::lower_stmt-returns-in-None-last-2 : goal.statements::lower_stmt-returns-in-None-last-2
statements::lower_stmt-returns-in-None-last-2 t c =
    let s = scope_of c.args.scope.now in
    let m = c.lower_stmts-body.new.temporaries.taken in
    as_given (of_try s _ c.in-Try.body c.in-Try.handler c.in-Try.last c.in-Try.is)
    (c.try_catch-in-None-last-2.ensures (lowered s tree.stmts (source.of_stmts c.in-Try.body.items)) (lowered s tree.handler (source.of_handler c.in-Try.handler)) (lowered s tree.maybe_block (source.of_maybe_block c.in-Try.last)) _ _ _ _
    (as_given (ap (λ l. lowered s tree.stmts (source.of_stmts l) c.args.temporaries.now.taken) (sym c.deref-in-Try.ensures.value)) c.lower_stmts-body.ensures)
    (without_handler s m c.in-None.is)
    (without_last s m c.in-None-last-2.is))
