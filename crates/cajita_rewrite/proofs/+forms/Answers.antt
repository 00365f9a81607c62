use Rattle.std.proofs.Common.{◌≡◌, ◌+◌, refl, sym, ap, ◌∙◌, codes, true, false, arith}
use Rattle.std.proofs.lemmas.Result.{IfOk-weaker}
use Rattle.es3_tree.specs.Tree as t
use Rattle.es3_tree.specs.View as made
use Rattle.cajita_tree.specs.declared.CExpr.TheViews.{out-CFunc, out-CBody}
use Rattle.cajita_tree.specs.Tree as tree
use Rattle.cajita_tree.specs.View as source
use Rattle.cajita_rewrite.specs.Rewrite.{rewritten, temps, declared, runtime_call, pair, triple, joined, items_joined, name_items, args_items, var_stmts, others, head_items, marks, keys_loop}
use Rattle.cajita_rewrite.specs.Members.{place_of}
use Rattle.cajita_rewrite.proofs.Heads.{head_form, body_form, function_form, args-joined, stmts-appended}
use Rattle.cajita_rewrite.proofs.Front.{one_on, two_on, all_done, exprs_in_front, items_in_front, cases_in_front, stmts_in_front}
use Rattle.cajita_rewrite.proofs.Steps.{gone_on, two_gone_on, exprs_step, fields_step, items_step, cases_step, stmts_step, funcs_step}
use Rattle.cajita_rewrite.proofs.Forms.{call_form, call_count, method_form, method_count, new_form, new_count, step_form, plain_assign_form, compound_assign_form, keys_form, switch_form, switch_count, try_form, try_count, caught_form, caught_count, uncaught_form, uncaught_count, last_form, last_count, no_last_form, no_last_count}
use Rattle.cajita_rewrite.proofs.+forms.Goals as goal
use Rattle.cajita_rewrite.proofs.+forms.Goals.{functions::rewrite_function-then-function+in_ok-add_arguments, functions::rewrite_function-else-function, statements::rewrite_stmt-in-Some+in_ok-caught-in-Some+in_ok-copied_name-in-Some, statements::rewrite_stmt-in-None, statements::rewrite_stmt-in-Some-last+in_ok-rewrite_stmts-in-Some-last, statements::rewrite_stmt-in-None-last}

pub expressions::rewrite_expr-returns-in_ok-boxed-in-Call-clause-form : goal.expressions::rewrite_expr-returns-in_ok-boxed-in-Call-clause-form
expressions::rewrite_expr-returns-in_ok-boxed-in-Call-clause-form m c =
    c.make_call.ensures.plain
    ∙ ap (λ x. t.call x (made.of_exprs c.in_ok-arguments-in-Call.arguments.items)) (ap made.expr c.in_ok-boxed-in-Call.ensures ∙ c.in_ok-callee-in-Call-2.ensures)
    ∙ call_form c.args.temporaries.now.taken c.in-Call.callee c.in-Call.arguments c.in-Call.is
    (c.in_ok-callee-in-Call.ensures.form ∙ ap (λ x. rewritten false tree.expr c.args.temporaries.now.taken (source.expr x)) c.deref-in-Call.ensures)
    (c.in_ok-callee-in-Call.ensures.count ∙ ap (λ x. c.args.temporaries.now.taken + temps tree.expr (source.expr x)) c.deref-in-Call.ensures)
    (c.in_ok-arguments-in-Call.ensures.form ∙ ap (λ l. rewritten false tree.exprs c.rewrite_expr-in-Call.new.temporaries.taken (source.of_exprs l)) c.deref-in-Call-2.ensures.value)

pub expressions::rewrite_expr-returns-in_ok-boxed-in-Call-clause-count : goal.expressions::rewrite_expr-returns-in_ok-boxed-in-Call-clause-count
expressions::rewrite_expr-returns-in_ok-boxed-in-Call-clause-count m c =
    call_count c.args.temporaries.now.taken c.in-Call.callee c.in-Call.arguments c.in-Call.is
    (c.in_ok-callee-in-Call.ensures.count ∙ ap (λ x. c.args.temporaries.now.taken + temps tree.expr (source.expr x)) c.deref-in-Call.ensures)
    (c.in_ok-arguments-in-Call.ensures.count ∙ ap (λ l. c.rewrite_expr-in-Call.new.temporaries.taken + temps tree.exprs (source.of_exprs l)) c.deref-in-Call-2.ensures.value)

pub expressions::rewrite_expr-returns-in_ok-arguments-in-Method-clause-form : goal.expressions::rewrite_expr-returns-in_ok-arguments-in-Method-clause-form
expressions::rewrite_expr-returns-in_ok-arguments-in-Method-clause-form m c =
    IfOk-weaker c.runtime_call-in-Method.result _ _ (λ x h.
    h
    ∙ ap (λ a. runtime_call (codes "callPub") (triple (made.expr c.in_ok-object-in-Method.object) (made.expr c.in_ok-key-in-Method.key) a)) c.make_array-in-Method.ensures.plain
    ∙ method_form c.args.temporaries.now.taken c.in-Method.object c.in-Method.key c.in-Method.arguments c.in-Method.is
    (c.in_ok-object-in-Method.ensures.form ∙ ap (λ x. rewritten false tree.expr c.args.temporaries.now.taken (source.expr x)) c.deref-in-Method.ensures)
    (c.in_ok-object-in-Method.ensures.count ∙ ap (λ x. c.args.temporaries.now.taken + temps tree.expr (source.expr x)) c.deref-in-Method.ensures)
    c.in_ok-key-in-Method.ensures.form c.in_ok-key-in-Method.ensures.count
    (c.in_ok-arguments-in-Method.ensures.form ∙ ap (λ l. rewritten false tree.exprs c.rewrite_key-in-Method.new.temporaries.taken (source.of_exprs l)) c.deref-in-Method-2.ensures.value)) c.runtime_call-in-Method.ensures

pub expressions::rewrite_expr-returns-in_ok-arguments-in-Method-clause-count : goal.expressions::rewrite_expr-returns-in_ok-arguments-in-Method-clause-count
expressions::rewrite_expr-returns-in_ok-arguments-in-Method-clause-count m c =
    IfOk-weaker c.runtime_call-in-Method.result _ _ (λ x h.
    method_count c.args.temporaries.now.taken c.in-Method.object c.in-Method.key c.in-Method.arguments c.in-Method.is
    (c.in_ok-object-in-Method.ensures.count ∙ ap (λ x. c.args.temporaries.now.taken + temps tree.expr (source.expr x)) c.deref-in-Method.ensures)
    c.in_ok-key-in-Method.ensures.count
    (c.in_ok-arguments-in-Method.ensures.count ∙ ap (λ l. c.rewrite_key-in-Method.new.temporaries.taken + temps tree.exprs (source.of_exprs l)) c.deref-in-Method-2.ensures.value)) c.runtime_call-in-Method.ensures

pub expressions::rewrite_expr-returns-in_ok-arguments-in-New-clause-form : goal.expressions::rewrite_expr-returns-in_ok-arguments-in-New-clause-form
expressions::rewrite_expr-returns-in_ok-arguments-in-New-clause-form m c =
    IfOk-weaker c.runtime_call-in-New.result _ _ (λ x h.
    h
    ∙ ap (λ a. runtime_call (codes "construct") (pair (made.expr c.in_ok-constructor-in-New.constructor) a)) c.make_array-in-New.ensures.plain
    ∙ new_form c.args.temporaries.now.taken c.in-New.constructor c.in-New.arguments c.in-New.is
    (c.in_ok-constructor-in-New.ensures.form ∙ ap (λ x. rewritten false tree.expr c.args.temporaries.now.taken (source.expr x)) c.deref-in-New.ensures)
    (c.in_ok-constructor-in-New.ensures.count ∙ ap (λ x. c.args.temporaries.now.taken + temps tree.expr (source.expr x)) c.deref-in-New.ensures)
    (c.in_ok-arguments-in-New.ensures.form ∙ ap (λ l. rewritten false tree.exprs c.rewrite_expr-in-New.new.temporaries.taken (source.of_exprs l)) c.deref-in-New-2.ensures.value)) c.runtime_call-in-New.ensures

pub expressions::rewrite_expr-returns-in_ok-arguments-in-New-clause-count : goal.expressions::rewrite_expr-returns-in_ok-arguments-in-New-clause-count
expressions::rewrite_expr-returns-in_ok-arguments-in-New-clause-count m c =
    IfOk-weaker c.runtime_call-in-New.result _ _ (λ x h.
    new_count c.args.temporaries.now.taken c.in-New.constructor c.in-New.arguments c.in-New.is
    (c.in_ok-constructor-in-New.ensures.count ∙ ap (λ x. c.args.temporaries.now.taken + temps tree.expr (source.expr x)) c.deref-in-New.ensures)
    (c.in_ok-arguments-in-New.ensures.count ∙ ap (λ l. c.rewrite_expr-in-New.new.temporaries.taken + temps tree.exprs (source.of_exprs l)) c.deref-in-New-2.ensures.value)) c.runtime_call-in-New.ensures

pub expressions::rewrite_change-returns-in_ok-place-in-Step-clause-form : goal.expressions::rewrite_change-returns-in_ok-place-in-Step-clause-form
expressions::rewrite_change-returns-in_ok-place-in-Step-clause-form m c =
    IfOk-weaker c.step.result _ _ (λ x h. h ∙ step_form c.args.temporaries.now.taken c.in-Step.target c.in-Step.is c.old_values.ensures c.in_ok-place-in-Step.ensures.form) c.step.ensures

pub expressions::rewrite_change-returns-in_ok-value-in-None-clause-form : goal.expressions::rewrite_change-returns-in_ok-value-in-None-clause-form
expressions::rewrite_change-returns-in_ok-value-in-None-clause-form m c =
    IfOk-weaker c.assign.result _ _ (λ x h.
    h
    ∙ plain_assign_form c.args.temporaries.now.taken c.in-Assign.target c.in-Assign.value c.in-Assign.is c.in-None.is c.in_ok-place-in-None.ensures.form c.in_ok-place-in-None.ensures.count
    (c.in_ok-value-in-None.ensures.form ∙ ap (λ x. rewritten false tree.expr c.rewrite_target.new.temporaries.taken (source.expr x)) c.deref.ensures)) c.assign.ensures

pub expressions::rewrite_change-returns-in_ok-operand-in-Some-clause-form : goal.expressions::rewrite_change-returns-in_ok-operand-in-Some-clause-form
expressions::rewrite_change-returns-in_ok-operand-in-Some-clause-form m c =
    IfOk-weaker c.compound.result _ _ (λ x h.
    h
    ∙ compound_assign_form c.args.temporaries.now.taken c.in-Assign.target c.in-Assign.value c.in-Assign.is c.in-Some.is c.in_ok-place-in-Some.ensures.form c.in_ok-place-in-Some.ensures.count
    (c.in_ok-operand-in-Some.ensures.form ∙ ap (λ x. rewritten false tree.expr c.hold_target-in-Some.new.temporaries.taken (source.expr x)) c.deref-in-Some.ensures)) c.compound.ensures

pub expressions::rewrite_exprs-loop-e-preserved : goal.expressions::rewrite_exprs-loop-e-preserved
expressions::rewrite_exprs-loop-e-preserved m c =
    one_on c.args.list.now c.loop-e.e-index c.e-item.result c.loop-e.invariant (omega arith) c.e-item.is c.in_ok-push.ensures.items
    (exprs_step c.loop-e.temporaries.taken (source.expr c.e-item.result) _ c.in_ok-rewrite_expr.ensures.form c.in_ok-rewrite_expr.ensures.count) (gone_on _ _ _ c.in_ok-rewrite_expr.ensures.count)

pub expressions::rewrite_exprs-returns-clause-form : goal.expressions::rewrite_exprs-returns-clause-form
unfolding rewritten
expressions::rewrite_exprs-returns-clause-form m c = all_done c.args.list.now c.loop-e.e-index c.loop-e.invariant (omega arith) (exprs_in_front c.loop-e.done.items)

pub expressions::rewrite_fields-loop-key-preserved : goal.expressions::rewrite_fields-loop-key-preserved
expressions::rewrite_fields-loop-key-preserved m c =
    two_on c.args.fields.now c.loop-key.key-index c.loop-key-item.result c.loop-key.invariant (omega arith) c.loop-key-item.is c.in_ok-push.ensures.items c.in_ok-push-2.ensures.items
    (fields_step c.loop-key.temporaries.taken c.loop-key-item.result.0 (source.expr c.loop-key-item.result.1) _ c.in_ok-copy.ensures c.in_ok-rewrite_expr.ensures.form c.in_ok-rewrite_expr.ensures.count) (gone_on _ _ _ c.in_ok-rewrite_expr.ensures.count)

pub expressions::rewrite_fields-returns-clause-form : goal.expressions::rewrite_fields-returns-clause-form
unfolding rewritten
expressions::rewrite_fields-returns-clause-form m c = all_done c.args.fields.now c.loop-key.key-index c.loop-key.invariant (omega arith) (exprs_in_front c.loop-key.pairs.items)

pub functions::rewrite_function-returns : goal.functions::rewrite_function-returns
functions::rewrite_function-returns m c =
    let f = c.args.function.now in
    let b = out-CBody (out-CFunc f).body in
    let list = source.of_stmts b.list.items in
    let args = (out-CFunc f).args in
    let started : made.of_items c.if-function.variables.items ≡ args_items args t.no_items =
    elim c.if-function.branch [
      | functions::rewrite_function-then-function+in_ok-add_arguments w ↦
          ap (λ v. made.of_items v.items) w.variables-is
          ∙ w.in_ok-add_arguments.ensures
          ∙ ap (λ l. items_joined (made.of_items l) (args_items true t.no_items)) c.new-variables.ensures.items
          ∙ ap (λ a. args_items a t.no_items) (sym w.if-function.true)
      | functions::rewrite_function-else-function w ↦
          ap (λ v. made.of_items v.items) w.variables-is ∙ ap made.of_items c.new-variables.ensures.items ∙ ap (λ a. args_items a t.no_items) (sym w.if-function.false)
    ] in
    let counted : c.rewrite_stmts.new.temporaries.taken ≡ 0 + temps tree.stmts list =
    c.in_ok-list.ensures.count
    ∙ ap (λ k. k + temps tree.stmts (source.of_stmts c.deref.result.now)) c.none-temporaries.ensures
    ∙ ap (λ l. 0 + temps tree.stmts (source.of_stmts l)) c.deref.ensures.value in
    let listed : made.of_stmts c.in_ok-list.list.items ≡ rewritten false tree.stmts 0 list =
    c.in_ok-list.ensures.form
    ∙ ap (λ k. rewritten false tree.stmts k (source.of_stmts c.deref.result.now)) c.none-temporaries.ensures
    ∙ ap (λ l. rewritten false tree.stmts 0 (source.of_stmts l)) c.deref.ensures.value in
    let named : made.of_items c.add_names.new.items.items ≡ items_joined (made.of_items c.add_temporaries.new.items.items) (name_items (others b.vars.items (declared tree.stmts list)) t.no_items) =
    c.in_ok-add_names.ensures
    ∙ ap (λ l. items_joined (made.of_items c.add_temporaries.new.items.items) (name_items (others l (declared tree.stmts (source.of_stmts c.deref-3.result.now))) t.no_items)) c.deref-2.ensures.value
    ∙ ap (λ l. items_joined (made.of_items c.add_temporaries.new.items.items) (name_items (others b.vars.items (declared tree.stmts (source.of_stmts l))) t.no_items)) c.deref-3.ensures.value in
    function_form f c.in_ok-maybe_name.ensures (c.in_ok-copied_names.ensures ∙ c.deref-6.ensures.value)
    (head_form (args_items args t.no_items) (source.of_funcs b.funcs.items) b.vars.items list started c.in_ok-add_temporaries.ensures counted named ∙ args-joined args (head_items (tree.a_body (source.of_funcs b.funcs.items) b.vars.items list)))
    (body_form false (var_stmts (made.of_items c.add_names.new.items.items) t.no_stmts) (source.of_funcs b.funcs.items) b.vars.items list
    (c.in_ok-add_var.ensures ∙ ap (λ l. joined (made.of_stmts l) (var_stmts (made.of_items c.add_names.new.items.items) t.no_stmts)) c.new-body.ensures.items)
    (c.in_ok-rewrite_functions.ensures ∙ ap (λ l. rewritten false tree.funcs 0 (source.of_funcs l)) c.deref-4.ensures.value)
    (ap made.of_stmts c.in_ok-append.ensures.items ∙ stmts-appended c.add_var.new.out.items c.in_ok-rewrite_functions.field-0.items)
    (c.in_ok-add_marks.ensures ∙ ap (λ l. joined (made.of_stmts c.append.new.self.items) (marks (source.of_funcs l) t.no_stmts)) c.deref-5.ensures.value)
    listed
    (ap made.of_stmts c.in_ok-append-2.ensures.items ∙ stmts-appended c.add_marks.new.out.items c.in_ok-list.list.items))

pub functions::rewrite_functions-loop-function-preserved : goal.functions::rewrite_functions-loop-function-preserved
functions::rewrite_functions-loop-function-preserved m c =
    one_on c.args.functions.now c.loop-function.function-index c.function-item.result c.loop-function.invariant (omega arith) c.function-item.is c.in_ok-push.ensures.items
    (funcs_step (source.func c.function-item.result) _ c.make_declaration.ensures.plain c.in_ok-rewrite_function.ensures) refl

pub functions::rewrite_functions-returns : goal.functions::rewrite_functions-returns
unfolding rewritten
functions::rewrite_functions-returns m c = all_done c.args.functions.now c.loop-function.function-index c.loop-function.invariant (omega arith) (stmts_in_front c.loop-function.done.items)

pub statements::rewrite_cases-loop-case-preserved : goal.statements::rewrite_cases-loop-case-preserved
statements::rewrite_cases-loop-case-preserved m c =
    let body = c.in_ok-body.ensures.form ∙ ap (λ l. rewritten false tree.stmts c.rewrite_maybe.new.temporaries.taken (source.of_stmts l)) c.deref.ensures.value in
    let more = c.in_ok-body.ensures.count ∙ ap (λ l. c.rewrite_maybe.new.temporaries.taken + temps tree.stmts (source.of_stmts l)) c.deref.ensures.value in
    one_on c.args.cases.now c.loop-case.case-index c.case-item.result c.loop-case.invariant (omega arith) c.case-item.is c.in_ok-push.ensures.items
    (cases_step c.loop-case.temporaries.taken (source.of_maybe_expr c.case-item.result.test) (source.of_stmts c.case-item.result.body.items) _ c.in_ok-test.ensures.form c.in_ok-test.ensures.count body more) (two_gone_on _ _ _ _ c.in_ok-test.ensures.count more)

pub statements::rewrite_cases-returns-clause-form : goal.statements::rewrite_cases-returns-clause-form
unfolding rewritten
statements::rewrite_cases-returns-clause-form m c = all_done c.args.cases.now c.loop-case.case-index c.loop-case.invariant (omega arith) (cases_in_front c.loop-case.done.items)

pub statements::rewrite_items-loop-item-preserved : goal.statements::rewrite_items-loop-item-preserved
statements::rewrite_items-loop-item-preserved m c =
    one_on c.args.items.now c.loop-item.item-index c.item-item.result c.loop-item.invariant (omega arith) c.item-item.is c.in_ok-push.ensures.items
    (items_step c.loop-item.temporaries.taken c.item-item.result.name (source.of_maybe_expr c.item-item.result.value) _ c.in_ok-name.ensures c.in_ok-value.ensures.form c.in_ok-value.ensures.count) (gone_on _ _ _ c.in_ok-value.ensures.count)

pub statements::rewrite_items-returns-clause-form : goal.statements::rewrite_items-returns-clause-form
unfolding rewritten
statements::rewrite_items-returns-clause-form m c = all_done c.args.items.now c.loop-item.item-index c.loop-item.invariant (omega arith) (items_in_front c.loop-item.done.items)

pub statements::rewrite_stmt-returns-in_ok-assign-in-ForIn-clause-form : goal.statements::rewrite_stmt-returns-in_ok-assign-in-ForIn-clause-form
statements::rewrite_stmt-returns-in_ok-assign-in-ForIn-clause-form m c =
    let w = c.in-ForIn in
    let taken = c.in_ok-first-in-ForIn.ensures.taken in
    IfOk-weaker c.loop_over_keys.result _ _ (λ x h.
    h
    ∙ ap (λ s. keys_loop c.in_ok-first-in-ForIn.first (made.expr c.in_ok-object-in-ForIn.object) (t.expression s) (made.stmt c.in_ok-body-in-ForIn.body)) c.in_ok-assign-in-ForIn.ensures
    ∙ keys_form c.args.temporaries.now.taken w.target w.object w.body w.is c.in_ok-first-in-ForIn.ensures.first
    (c.in_ok-place-in-ForIn.ensures.form ∙ ap (λ i. place_of i (source.target w.target)) taken)
    (c.in_ok-place-in-ForIn.ensures.count ∙ ap (λ i. i + temps tree.target (source.target w.target)) taken)
    c.in_ok-object-in-ForIn.ensures.form c.in_ok-object-in-ForIn.ensures.count
    (c.in_ok-body-in-ForIn.ensures.form ∙ ap (λ z. rewritten false tree.stmt c.rewrite_expr-in-ForIn.new.temporaries.taken (source.stmt z)) c.deref-in-ForIn.ensures)
    c.in_ok-current_key-in-ForIn.ensures) c.loop_over_keys.ensures

pub statements::rewrite_stmt-returns-in_ok-cases-in-Switch-clause-form : goal.statements::rewrite_stmt-returns-in_ok-cases-in-Switch-clause-form
statements::rewrite_stmt-returns-in_ok-cases-in-Switch-clause-form m c =
    c.make_switch.ensures.plain
    ∙ switch_form c.args.temporaries.now.taken c.in-Switch.value c.in-Switch.cases c.in-Switch.is c.in_ok-value-in-Switch.ensures.form c.in_ok-value-in-Switch.ensures.count
    (c.in_ok-cases-in-Switch.ensures.form ∙ ap (λ l. rewritten false tree.cases c.rewrite_expr-in-Switch.new.temporaries.taken (source.of_cases l)) c.deref-in-Switch.ensures.value)

pub statements::rewrite_stmt-returns-in_ok-cases-in-Switch-clause-count : goal.statements::rewrite_stmt-returns-in_ok-cases-in-Switch-clause-count
statements::rewrite_stmt-returns-in_ok-cases-in-Switch-clause-count m c =
    switch_count c.args.temporaries.now.taken c.in-Switch.value c.in-Switch.cases c.in-Switch.is c.in_ok-value-in-Switch.ensures.count
    (c.in_ok-cases-in-Switch.ensures.count ∙ ap (λ l. c.rewrite_expr-in-Switch.new.temporaries.taken + temps tree.cases (source.of_cases l)) c.deref-in-Switch.ensures.value)

pub statements::rewrite_stmt-returns-after-last-clause-form : goal.statements::rewrite_stmt-returns-after-last-clause-form
statements::rewrite_stmt-returns-after-last-clause-form m c =
    let body = c.rewrite_stmts-in-Try.new.temporaries.taken in
    let caught = c.match-handler.temporaries.taken in
    let handled : made.of_handler c.match-handler.handler ≡ rewritten false tree.handler body (source.of_handler c.in-Try.handler) =
    elim c.match-handler.branch [
      | statements::rewrite_stmt-in-Some+in_ok-caught-in-Some+in_ok-copied_name-in-Some w ↦
          caught_form body w.in-Some.name w.in-Some.caught w.in-Some.is w.handler-is w.in_ok-copied_name-in-Some.ensures
          (w.in_ok-caught-in-Some.ensures.form ∙ ap (λ l. rewritten false tree.stmts body (source.of_stmts l)) w.deref-in-Some.ensures.value)
      | statements::rewrite_stmt-in-None w ↦ uncaught_form body w.in-None.is w.handler-is
    ] in
    let counted : caught ≡ body + temps tree.handler (source.of_handler c.in-Try.handler) =
    elim c.match-handler.branch [
      | statements::rewrite_stmt-in-Some+in_ok-caught-in-Some+in_ok-copied_name-in-Some w ↦
          caught_count body w.in-Some.name w.in-Some.caught w.in-Some.is
          (ap (λ r. r.taken) w.temporaries-is ∙ w.in_ok-caught-in-Some.ensures.count ∙ ap (λ l. body + temps tree.stmts (source.of_stmts l)) w.deref-in-Some.ensures.value)
      | statements::rewrite_stmt-in-None w ↦ uncaught_count body w.in-None.is (ap (λ r. r.taken) w.temporaries-is)
    ] in
    let ended : made.of_maybe_block c.match-last.last ≡ rewritten false tree.maybe_block caught (source.of_maybe_block c.in-Try.last) =
    elim c.match-last.branch [
      | statements::rewrite_stmt-in-Some-last+in_ok-rewrite_stmts-in-Some-last w ↦
          last_form caught w.in-Some-last.last w.in-Some-last.is w.last-is (w.in_ok-rewrite_stmts-in-Some-last.ensures.form ∙ ap (λ l. rewritten false tree.stmts caught (source.of_stmts l)) w.deref-in-Some-last.ensures.value)
      | statements::rewrite_stmt-in-None-last w ↦ no_last_form caught w.in-None-last.is w.last-is
    ] in
    c.make_try.ensures.plain
    ∙ try_form c.args.temporaries.now.taken c.in-Try.body c.in-Try.handler c.in-Try.last c.in-Try.is
    (c.in_ok-body-in-Try.ensures.form ∙ ap (λ l. rewritten false tree.stmts c.args.temporaries.now.taken (source.of_stmts l)) c.deref-in-Try.ensures.value)
    (c.in_ok-body-in-Try.ensures.count ∙ ap (λ l. c.args.temporaries.now.taken + temps tree.stmts (source.of_stmts l)) c.deref-in-Try.ensures.value) handled counted ended

pub statements::rewrite_stmt-returns-after-last-clause-count : goal.statements::rewrite_stmt-returns-after-last-clause-count
statements::rewrite_stmt-returns-after-last-clause-count m c =
    let body = c.rewrite_stmts-in-Try.new.temporaries.taken in
    let caught = c.match-handler.temporaries.taken in
    let counted : caught ≡ body + temps tree.handler (source.of_handler c.in-Try.handler) =
    elim c.match-handler.branch [
      | statements::rewrite_stmt-in-Some+in_ok-caught-in-Some+in_ok-copied_name-in-Some w ↦
          caught_count body w.in-Some.name w.in-Some.caught w.in-Some.is
          (ap (λ r. r.taken) w.temporaries-is ∙ w.in_ok-caught-in-Some.ensures.count ∙ ap (λ l. body + temps tree.stmts (source.of_stmts l)) w.deref-in-Some.ensures.value)
      | statements::rewrite_stmt-in-None w ↦ uncaught_count body w.in-None.is (ap (λ r. r.taken) w.temporaries-is)
    ] in
    let ended : c.match-last.temporaries.taken ≡ caught + temps tree.maybe_block (source.of_maybe_block c.in-Try.last) =
    elim c.match-last.branch [
      | statements::rewrite_stmt-in-Some-last+in_ok-rewrite_stmts-in-Some-last w ↦
          last_count caught w.in-Some-last.last w.in-Some-last.is
          (ap (λ r. r.taken) w.temporaries-is ∙ w.in_ok-rewrite_stmts-in-Some-last.ensures.count ∙ ap (λ l. caught + temps tree.stmts (source.of_stmts l)) w.deref-in-Some-last.ensures.value)
      | statements::rewrite_stmt-in-None-last w ↦ no_last_count caught w.in-None-last.is (ap (λ r. r.taken) w.temporaries-is)
    ] in
    try_count c.args.temporaries.now.taken c.in-Try.body c.in-Try.handler c.in-Try.last c.in-Try.is
    (c.in_ok-body-in-Try.ensures.count ∙ ap (λ l. c.args.temporaries.now.taken + temps tree.stmts (source.of_stmts l)) c.deref-in-Try.ensures.value) counted ended

pub statements::rewrite_stmts-loop-statement-preserved : goal.statements::rewrite_stmts-loop-statement-preserved
statements::rewrite_stmts-loop-statement-preserved m c =
    one_on c.args.list.now c.loop-statement.statement-index c.statement-item.result c.loop-statement.invariant (omega arith) c.statement-item.is c.in_ok-push.ensures.items
    (stmts_step false c.loop-statement.temporaries.taken (source.stmt c.statement-item.result) _ c.in_ok-rewrite_stmt.ensures.form c.in_ok-rewrite_stmt.ensures.count) (gone_on _ _ _ c.in_ok-rewrite_stmt.ensures.count)

pub statements::rewrite_stmts-returns-clause-form : goal.statements::rewrite_stmts-returns-clause-form
unfolding rewritten
statements::rewrite_stmts-returns-clause-form m c = all_done c.args.list.now c.loop-statement.statement-index c.loop-statement.invariant (omega arith) (stmts_in_front c.loop-statement.done.items)
