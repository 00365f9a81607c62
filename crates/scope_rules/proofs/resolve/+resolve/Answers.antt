use Rattle.std.proofs.Common.{◌+◌, ◌∷◌, [], ◌++◌, drop, Some, option_map, refl, sym, ap, ◌∙◌, arith}
use Rattle.es3_tree.specs.Tree as tree
use Rattle.es3_tree.specs.PlacedView as source
use Rattle.cajita_tree.specs.Tree as made
use Rattle.cajita_tree.specs.Parts.{target_of}
use Rattle.cajita_tree.specs.View as view
use Rattle.cajita_forms.specs.Options.{from}
use Rattle.scope_rules.specs.Resolve.{resolved, declared_functions}
use Rattle.cajita_forms.specs.Boxed as held
use Rattle.scope_rules.proofs.Front as front
use Rattle.scope_rules.proofs.Front.{turn, ended, missing, passed, two_left}
use Rattle.scope_rules.proofs.Declaring.{undeclared, stands, left_out, declares_one, declares_none}
use Rattle.scope_rules.proofs.Resolved.{resolved_call, resolved_new, resolved_binary, resolved_assign, resolved_if, resolved_for, resolved_switch, resolved_try, caught_given, uncaught_given, last_given, no_last_given}
use Rattle.cajita_forms.proofs.Formed.{as_given}
use Rattle.scope_rules.proofs.resolve.+resolve.Goals as goal
use Rattle.scope_rules.proofs.resolve.+resolve.Goals.{resolve_funcs-in-Func+in_ok-function+in-Some+in_ok-push, resolve_funcs-in_default, resolve_stmt-in-Some, resolve_stmt-in-None, resolve_stmt-in-Some-last, resolve_stmt-in-None-last}

pub resolve_exprs-loop-expression-preserved : goal.resolve_exprs-loop-expression-preserved
unfolding resolved
resolve_exprs-loop-expression-preserved t c =
    turn (λ l. resolved tree.exprs (source.of_exprs l)) front.expression made.more_exprs c.args.list.now c.loop-expression.expression-index c.expression-item.result c.loop-expression.done.items _ c.into_inner.result
    (held.expr c.in-Some.expression) (resolved tree.expr (source.expr c.expression-item.result)) (omega arith) c.expression-item.is refl
    (ap (λ x. made.more_exprs (view.expr x)) (sym c.into_inner.ensures))
    (ap (option_map held.expr) (sym c.in-Some.is) ∙ c.in_ok-expression.ensures.told) c.in_ok-push.ensures.items
    ∙ c.loop-expression.invariant

pub resolve_exprs-returns : goal.resolve_exprs-returns
unfolding resolved
resolve_exprs-returns t c =
    record {
      told =
          ended (λ l. resolved tree.exprs (source.of_exprs l)) front.expression view.of_exprs made.no_exprs c.args.list.now c.loop-expression.expression-index c.loop-expression.done.items (omega arith) refl (front.exprs_in_front _)
          ∙ c.loop-expression.invariant;
    }

pub resolve_fields-loop-key-preserved : goal.resolve_fields-loop-key-preserved
unfolding resolved
resolve_fields-loop-key-preserved t c =
    turn (λ l. resolved tree.fields (source.of_fields l)) front.field (made.more_fields c.loop-key-item.result.0.text) c.args.fields.now c.loop-key.key-index c.loop-key-item.result c.loop-key.done.items _ (c.loop-key-item.result.0.text, c.into_inner.result)
    (held.expr c.in-Some.value) (resolved tree.expr (source.expr c.loop-key-item.result.1)) (omega arith) c.loop-key-item.is refl
    (ap (λ x. made.more_fields c.loop-key-item.result.0.text (view.expr x)) (sym c.into_inner.ensures))
    (ap (option_map held.expr) (sym c.in-Some.is) ∙ c.in_ok-value.ensures.told) (c.in_ok-push.ensures.items ∙ ap (λ k. c.loop-key.done.items ++ (k, c.into_inner.result) ∷ []) c.in_ok-copy.ensures)
    ∙ c.loop-key.invariant

pub resolve_fields-returns : goal.resolve_fields-returns
unfolding resolved
resolve_fields-returns t c =
    record {
      told =
          ended (λ l. resolved tree.fields (source.of_fields l)) front.field view.of_fields made.no_fields c.args.fields.now c.loop-key.key-index c.loop-key.done.items (omega arith) refl (front.fields_in_front _)
          ∙ c.loop-key.invariant;
    }

pub resolve_items-returns : goal.resolve_items-returns
unfolding resolved
resolve_items-returns t c =
    record {
      told =
          ended (λ l. resolved tree.items (source.of_items l)) front.item view.of_items made.no_items c.args.items.now c.loop-item.item-index c.loop-item.done.items (omega arith) refl (front.items_in_front _)
          ∙ c.loop-item.invariant;
    }

pub resolve_cases-returns : goal.resolve_cases-returns
unfolding resolved
resolve_cases-returns t c =
    record {
      told =
          ended (λ l. resolved tree.cases (source.of_cases l)) front.clause view.of_cases made.no_cases c.args.cases.now c.loop-case.case-index c.loop-case.done.items (omega arith) refl (front.cases_in_front _)
          ∙ c.loop-case.invariant;
    }

pub resolve_stmts-returns : goal.resolve_stmts-returns
unfolding resolved
resolve_stmts-returns t c =
    record {
      told =
          ended (λ l. resolved tree.stmts (source.of_stmts l)) front.statement view.of_stmts made.no_stmts c.args.list.now c.loop-statement.statement-index c.loop-statement.done.items (omega arith) refl (front.stmts_in_front _)
          ∙ c.loop-statement.invariant;
    }

pub resolve_funcs-returns : goal.resolve_funcs-returns
unfolding declared_functions
resolve_funcs-returns t c =
    record {
      told =
          ended (λ l. declared_functions (source.of_stmts l)) front.function view.of_funcs made.no_funcs c.args.list.now c.loop-statement.statement-index c.loop-statement.done.items (omega arith) refl (front.funcs_in_front _)
          ∙ c.loop-statement.invariant;
    }

pub resolve_items-loop-item-preserved : goal.resolve_items-loop-item-preserved
unfolding resolved
resolve_items-loop-item-preserved t c =
    turn (λ l. resolved tree.items (source.of_items l)) front.item (made.more_items c.item-item.result.name.text) c.args.items.now c.loop-item.item-index c.item-item.result c.loop-item.done.items _
    (record { name = c.in_ok-copy.field-0; value = c.unboxed.result }) (held.maybe_expr c.in-Some.value) (resolved tree.maybe_expr (source.of_maybe_expr c.item-item.result.value)) (omega arith) c.item-item.is refl
    (ap (made.more_items c.item-item.result.name.text) (sym c.unboxed.ensures) ∙ ap (λ n. made.more_items n (view.of_maybe_expr c.unboxed.result)) (sym c.in_ok-copy.ensures))
    (ap (option_map held.maybe_expr) (sym c.in-Some.is) ∙ c.in_ok-value.ensures.told) c.in_ok-push.ensures.items
    ∙ c.loop-item.invariant

pub resolve_cases-loop-case-preserved : goal.resolve_cases-loop-case-preserved
unfolding resolved
resolve_cases-loop-case-preserved t c =
    let test = ap Some c.unboxed.ensures ∙ ap (option_map held.maybe_expr) (sym c.in-Some.is) ∙ c.in_ok-test.ensures.told in
    turn (λ l. resolved tree.cases (source.of_cases l)) front.clause (made.more_cases (view.of_maybe_expr c.unboxed.result)) c.args.cases.now c.loop-case.case-index c.case-item.result c.loop-case.done.items _
    (record { test = c.unboxed.result; body = c.in-Some-2.body }) (view.of_stmts c.in-Some-2.body.items) (resolved tree.stmts (source.of_stmts c.case-item.result.body.items)) (omega arith) c.case-item.is
    (two_left made.more_cases (view.of_maybe_expr c.unboxed.result) _ _ test) refl
    (ap (option_map (λ v. view.of_stmts v.items)) (sym c.in-Some-2.is) ∙ c.in_ok-body.ensures.told ∙ ap (λ l. resolved tree.stmts (source.of_stmts l)) c.deref.ensures.value) c.in_ok-push.ensures.items
    ∙ c.loop-case.invariant

pub resolve_stmts-loop-statement-preserved : goal.resolve_stmts-loop-statement-preserved
unfolding resolved
resolve_stmts-loop-statement-preserved t c =
    turn (λ l. resolved tree.stmts (source.of_stmts l)) front.statement made.more_stmts c.args.list.now c.loop-statement.statement-index c.statement-item.result c.loop-statement.done.items _ c.into_inner.result
    (held.stmt c.in-Some.statement) (resolved tree.stmt (source.stmt c.statement-item.result)) (omega arith) c.statement-item.is
    (stands (source.stmt c.statement-item.result) _ _ (sym c.if-is_declaration.false ∙ c.is_declaration.ensures))
    (ap (λ x. made.more_stmts (view.stmt x)) (sym c.into_inner.ensures))
    (ap (option_map held.stmt) (sym c.in-Some.is) ∙ c.in_ok-statement.ensures.told) c.in_ok-push.ensures.items
    ∙ c.loop-statement.invariant

pub resolve_stmts-loop-statement-preserved-then-is_declaration : goal.resolve_stmts-loop-statement-preserved-then-is_declaration
unfolding resolved
resolve_stmts-loop-statement-preserved-then-is_declaration t c =
    passed (λ l. resolved tree.stmts (source.of_stmts l)) (option_map (front.in_front front.statement c.loop-statement.done.items)) c.args.list.now c.loop-statement.statement-index c.statement-item.result (omega arith) c.statement-item.is
    (left_out (source.stmt c.statement-item.result) _ _ (sym c.if-is_declaration.true ∙ c.is_declaration.ensures))
    ∙ c.loop-statement.invariant

pub resolve_stmts-returns-in_default : goal.resolve_stmts-returns-in_default
unfolding resolved
resolve_stmts-returns-in_default t c =
    record {
      told =
          missing (λ l. resolved tree.stmts (source.of_stmts l)) front.statement made.more_stmts c.args.list.now c.loop-statement.statement-index c.statement-item.result c.loop-statement.done.items
          (resolved tree.stmt (source.stmt c.statement-item.result)) (omega arith) c.statement-item.is
          (stands (source.stmt c.statement-item.result) _ _ (sym c.if-is_declaration.false ∙ c.is_declaration.ensures))
          (ap (option_map held.stmt) (sym c.in_default.is) ∙ c.in_ok-statement.ensures.told)
          ∙ c.loop-statement.invariant;
    }

pub resolve_funcs-loop-statement-preserved : goal.resolve_funcs-loop-statement-preserved
unfolding declared_functions
resolve_funcs-loop-statement-preserved t c =
    elim c.match-statement.branch [
      | resolve_funcs-in-Func+in_ok-function+in-Some+in_ok-push w ↦
          turn (λ l. declared_functions (source.of_stmts l)) front.function made.more_funcs c.args.list.now c.loop-statement.statement-index c.statement-item.result c.loop-statement.done.items _ w.in-Some.function
          (view.func w.in-Some.function) (resolved tree.func (source.func w.in-Func.function)) (omega arith) c.statement-item.is (declares_one w.in-Func.function _ w.in-Func.is) refl
          (ap (option_map view.func) (sym w.in-Some.is) ∙ w.in_ok-function.ensures.told) (ap (λ v. v.items) w.done-is ∙ w.in_ok-push.ensures.items)
          ∙ c.loop-statement.invariant
      | resolve_funcs-in_default w ↦
          ap (λ v. option_map (front.in_front front.function v.items) (declared_functions (source.of_stmts (drop (c.loop-statement.statement-index + 1) c.args.list.now)))) w.done-is
          ∙ passed (λ l. declared_functions (source.of_stmts l)) (option_map (front.in_front front.function c.loop-statement.done.items)) c.args.list.now c.loop-statement.statement-index c.statement-item.result (omega arith) c.statement-item.is
          (declares_none (source.stmt c.statement-item.result) _ (undeclared c.statement-item.result w.in_default.not-Func))
          ∙ c.loop-statement.invariant
    ]

pub resolve_funcs-returns-in_default-2 : goal.resolve_funcs-returns-in_default-2
unfolding declared_functions
resolve_funcs-returns-in_default-2 t c =
    record {
      told =
          missing (λ l. declared_functions (source.of_stmts l)) front.function made.more_funcs c.args.list.now c.loop-statement.statement-index c.statement-item.result c.loop-statement.done.items
          (resolved tree.func (source.func c.in-Func.function)) (omega arith) c.statement-item.is (declares_one c.in-Func.function _ c.in-Func.is)
          (ap (option_map view.func) (sym c.in_default-2.is) ∙ c.in_ok-function.ensures.told)
          ∙ c.loop-statement.invariant;
    }

pub resolve_expr-returns-in-Call : goal.resolve_expr-returns-in-Call
resolve_expr-returns-in-Call t c =
    as_given (resolved_call c.in-Call.callee c.in-Call.arguments c.in-Call.is)
    (c.call.ensures (resolved tree.expr (source.expr c.in-Call.callee.value)) (resolved tree.exprs (source.of_exprs c.in-Call.arguments.items))
    (as_given (ap (λ x. resolved tree.expr (source.expr x)) (sym c.deref-in-Call.ensures)) c.resolve_expr-callee.ensures)
    (as_given (ap (λ l. resolved tree.exprs (source.of_exprs l)) (sym c.deref-in-Call-2.ensures.value)) c.resolve_exprs-in-Call.ensures))

pub resolve_expr-returns-in-New : goal.resolve_expr-returns-in-New
resolve_expr-returns-in-New t c =
    as_given (resolved_new c.in-New.constructor c.in-New.arguments c.in-New.is)
    (c.new.ensures (resolved tree.expr (source.expr c.in-New.constructor.value)) (resolved tree.exprs (source.of_exprs c.in-New.arguments.items))
    (as_given (ap (λ x. resolved tree.expr (source.expr x)) (sym c.deref-in-New.ensures)) c.resolve_expr-constructor.ensures)
    (as_given (ap (λ l. resolved tree.exprs (source.of_exprs l)) (sym c.deref-in-New-2.ensures.value)) c.resolve_exprs-in-New.ensures))

pub resolve_expr-returns-in-Binary : goal.resolve_expr-returns-in-Binary
resolve_expr-returns-in-Binary t c =
    as_given (resolved_binary c.in-Binary.op c.in-Binary.left c.in-Binary.right c.in-Binary.is)
    (c.binary.ensures (resolved tree.expr (source.expr c.in-Binary.left.value)) (resolved tree.expr (source.expr c.in-Binary.right.value))
    (as_given (ap (λ x. resolved tree.expr (source.expr x)) (sym c.deref-in-Binary.ensures)) c.resolve_expr-left.ensures)
    (as_given (ap (λ x. resolved tree.expr (source.expr x)) (sym c.deref-in-Binary-2.ensures)) c.resolve_expr-in-Binary.ensures))

pub resolve_expr-returns-in-Assign : goal.resolve_expr-returns-in-Assign
resolve_expr-returns-in-Assign t c =
    let written = resolved tree.expr (source.expr c.in-Assign.written.value) in
    as_given (resolved_assign c.in-Assign.op c.in-Assign.written c.in-Assign.value c.in-Assign.is)
    (c.assign.ensures (from target_of written) (resolved tree.expr (source.expr c.in-Assign.value.value))
    (c.target-written.ensures written (as_given (ap (λ x. resolved tree.expr (source.expr x)) (sym c.deref-in-Assign.ensures)) c.resolve_expr-in-Assign.ensures))
    (as_given (ap (λ x. resolved tree.expr (source.expr x)) (sym c.deref-in-Assign-2.ensures)) c.resolve_expr-in-Assign-2.ensures))

pub resolve_stmt-returns-in-If : goal.resolve_stmt-returns-in-If
resolve_stmt-returns-in-If t c =
    as_given (resolved_if c.in-If.test c.in-If.then c.in-If.otherwise c.in-If.is)
    (c.branch-alloc.ensures (resolved tree.expr (source.expr c.in-If.test)) (resolved tree.stmt (source.stmt c.in-If.then.value)) (resolved tree.maybe_stmt (source.of_maybe_stmt c.in-If.otherwise))
    c.resolve_expr-test.ensures (as_given (ap (λ x. resolved tree.stmt (source.stmt x)) (sym c.deref-in-If.ensures)) c.resolve_stmt-then.ensures) c.resolve_maybe_stmt.ensures)

pub resolve_stmt-returns-in-For : goal.resolve_stmt-returns-in-For
resolve_stmt-returns-in-For t c =
    as_given (resolved_for c.in-For.start c.in-For.test c.in-For.update c.in-For.body c.in-For.is)
    (c.for_loop.ensures (resolved tree.first (source.first c.in-For.start)) (resolved tree.maybe_expr (source.of_maybe_expr c.in-For.test))
    (resolved tree.maybe_expr (source.of_maybe_expr c.in-For.update)) (resolved tree.stmt (source.stmt c.in-For.body.value))
    c.resolve_first-start.ensures c.resolve_maybe_expr-test.ensures c.resolve_maybe_expr-update.ensures
    (as_given (ap (λ x. resolved tree.stmt (source.stmt x)) (sym c.deref-in-For.ensures)) c.resolve_stmt-in-For.ensures))

pub resolve_stmt-returns-in-Switch : goal.resolve_stmt-returns-in-Switch
resolve_stmt-returns-in-Switch t c =
    as_given (resolved_switch c.in-Switch.value c.in-Switch.cases c.in-Switch.is)
    (c.switch.ensures (resolved tree.expr (source.expr c.in-Switch.value)) (resolved tree.cases (source.of_cases c.in-Switch.cases.items)) c.resolve_expr-value.ensures
    (as_given (ap (λ l. resolved tree.cases (source.of_cases l)) (sym c.deref-in-Switch.ensures.value)) c.resolve_cases.ensures))

pub resolve_stmt-returns-after-last : goal.resolve_stmt-returns-after-last
resolve_stmt-returns-after-last t c =
    as_given (resolved_try c.in-Try.body c.in-Try.handler c.in-Try.last c.in-Try.is)
    (c.try_catch.ensures (resolved tree.stmts (source.of_stmts c.in-Try.body.items)) (resolved tree.handler (source.of_handler c.in-Try.handler)) (resolved tree.maybe_block (source.of_maybe_block c.in-Try.last))
    (as_given (ap (λ l. resolved tree.stmts (source.of_stmts l)) (sym c.deref-in-Try.ensures.value)) c.resolve_stmts-in-Try.ensures)
    (elim c.match-handler.branch [
      | resolve_stmt-in-Some w ↦ caught_given w.in-Some.name w.in-Some.caught w.deref-in-Some.result.now w.in-Some.is w.deref-in-Some.ensures.value w.handler-is w.handler-handler.ensures w.resolve_stmts-in-Some.ensures
      | resolve_stmt-in-None w ↦ uncaught_given w.in-None.is w.handler-is
    ])
    (elim c.match-last.branch [
      | resolve_stmt-in-Some-last w ↦ last_given w.in-Some-last.last w.deref-in-Some-last.result.now w.in-Some-last.is w.deref-in-Some-last.ensures.value w.last-is w.last-last.ensures w.resolve_stmts-in-Some-last.ensures
      | resolve_stmt-in-None-last w ↦ no_last_given w.in-None-last.is w.last-is
    ]))
