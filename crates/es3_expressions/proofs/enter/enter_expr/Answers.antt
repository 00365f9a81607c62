use Rattle.std.proofs.Common.{Some, None, sym, ap, ◌∙◌}
use Rattle.std.proofs.lemmas.Result.{IfOk-weaker}
use Rattle.es3_tree.specs.Tree as t
use Rattle.es3_language.specs.Expressions as e
use Rattle.es3_moves.specs.Code.{plain_expr, plain_exprs, plain_func}
use Rattle.es3_moves.specs.Where.{plain_env}
use Rattle.es3_moves.specs.Texts.{store_of}
use Rattle.es3_moves.proofs.Rows.{view_array, view_object, view_function, view_call, view_new}
use Rattle.es3_expressions.proofs.Entered.{entered}
use Rattle.es3_expressions.proofs.enter.enter_expr.Goals as goal

pub returns-in-Array-clause-plan : goal.returns-in-Array-clause-plan
returns-in-Array-clause-plan c =
    entered c.enter_array.result c.args.code.now (t.array (plain_exprs c.in-Array.es.value.items)) (plain_env c.args.env) (store_of c.args.h.now c.args.texts.now) (ap plain_expr c.in-Array.is ∙ view_array c.in-Array.es) c.enter_array.ensures

pub returns-in-Dot-clause-plan : goal.returns-in-Dot-clause-plan
returns-in-Dot-clause-plan c =
    entered c.enter_dot.result c.args.code.now (t.dot (plain_expr c.in-Dot.base.value) c.in-Dot.key.value) (plain_env c.args.env) (store_of c.args.h.now c.args.texts.now) (ap plain_expr c.in-Dot.is) c.enter_dot.ensures

pub returns-in-Index-clause-plan : goal.returns-in-Index-clause-plan
returns-in-Index-clause-plan c =
    entered c.enter_index.result c.args.code.now (t.index (plain_expr c.in-Index.base.value) (plain_expr c.in-Index.key.value)) (plain_env c.args.env) (store_of c.args.h.now c.args.texts.now) (ap plain_expr c.in-Index.is) c.enter_index.ensures

pub returns-in-Call-clause-plan : goal.returns-in-Call-clause-plan
returns-in-Call-clause-plan c =
    entered c.enter_call.result c.args.code.now (t.call (plain_expr c.in-Call.callee.value) (plain_exprs c.in-Call.args.value.items)) (plain_env c.args.env) (store_of c.args.h.now c.args.texts.now) (ap plain_expr c.in-Call.is ∙ view_call c.in-Call.callee c.in-Call.args) c.enter_call.ensures

pub returns-in-New-clause-plan : goal.returns-in-New-clause-plan
returns-in-New-clause-plan c =
    entered c.enter_new.result c.args.code.now (t.new (plain_expr c.in-New.callee.value) (plain_exprs c.in-New.args.value.items)) (plain_env c.args.env) (store_of c.args.h.now c.args.texts.now) (ap plain_expr c.in-New.is ∙ view_new c.in-New.callee c.in-New.args) c.enter_new.ensures

pub returns-in-Step-clause-plan : goal.returns-in-Step-clause-plan
returns-in-Step-clause-plan c =
    entered c.enter_step.result c.args.code.now (t.step c.in-Step.up c.in-Step.before (plain_expr c.in-Step.operand.value)) (plain_env c.args.env) (store_of c.args.h.now c.args.texts.now) (ap plain_expr c.in-Step.is) c.enter_step.ensures

pub returns-in-Binary-clause-plan : goal.returns-in-Binary-clause-plan
returns-in-Binary-clause-plan c =
    entered c.enter_binary.result c.args.code.now (t.binary c.in-Binary.op (plain_expr c.in-Binary.left.value) (plain_expr c.in-Binary.right.value)) (plain_env c.args.env) (store_of c.args.h.now c.args.texts.now) (ap plain_expr c.in-Binary.is) c.enter_binary.ensures

pub returns-in-And-clause-plan : goal.returns-in-And-clause-plan
returns-in-And-clause-plan c =
    entered c.enter_and.result c.args.code.now (t.and (plain_expr c.in-And.left.value) (plain_expr c.in-And.right.value)) (plain_env c.args.env) (store_of c.args.h.now c.args.texts.now) (ap plain_expr c.in-And.is) c.enter_and.ensures

pub returns-in-Or-clause-plan : goal.returns-in-Or-clause-plan
returns-in-Or-clause-plan c =
    entered c.enter_or.result c.args.code.now (t.or (plain_expr c.in-Or.left.value) (plain_expr c.in-Or.right.value)) (plain_env c.args.env) (store_of c.args.h.now c.args.texts.now) (ap plain_expr c.in-Or.is) c.enter_or.ensures

pub returns-in-Cond-clause-plan : goal.returns-in-Cond-clause-plan
returns-in-Cond-clause-plan c =
    entered c.enter_choice.result c.args.code.now (t.choice (plain_expr c.in-Cond.test.value) (plain_expr c.in-Cond.yes.value) (plain_expr c.in-Cond.no.value)) (plain_env c.args.env) (store_of c.args.h.now c.args.texts.now) (ap plain_expr c.in-Cond.is) c.enter_choice.ensures

pub returns-in-Assign-clause-plan : goal.returns-in-Assign-clause-plan
returns-in-Assign-clause-plan c =
    entered c.enter_assign.result c.args.code.now (t.assign None (plain_expr c.in-Assign.target.value) (plain_expr c.in-Assign.value.value)) (plain_env c.args.env) (store_of c.args.h.now c.args.texts.now) (ap plain_expr c.in-Assign.is) c.enter_assign.ensures

pub returns-in-Compound-clause-plan : goal.returns-in-Compound-clause-plan
returns-in-Compound-clause-plan c =
    entered c.enter_compound.result c.args.code.now (t.assign (Some c.in-Compound.op) (plain_expr c.in-Compound.target.value) (plain_expr c.in-Compound.value.value)) (plain_env c.args.env) (store_of c.args.h.now c.args.texts.now) (ap plain_expr c.in-Compound.is) c.enter_compound.ensures

pub returns-in-Comma-clause-plan : goal.returns-in-Comma-clause-plan
returns-in-Comma-clause-plan c =
    entered c.enter_comma.result c.args.code.now (t.comma (plain_expr c.in-Comma.left.value) (plain_expr c.in-Comma.right.value)) (plain_env c.args.env) (store_of c.args.h.now c.args.texts.now) (ap plain_expr c.in-Comma.is) c.enter_comma.ensures

pub returns-in-Object-clause-plan : goal.returns-in-Object-clause-plan
returns-in-Object-clause-plan c =
    IfOk-weaker c.enter_object.result _ _ (λ x is. is ∙ ap (λ k. e.expr_plan k (plain_env c.args.env) (store_of c.args.h.now c.args.texts.now)) (sym (ap plain_expr c.in-Object.is ∙ view_object c.in-Object.fields))) c.enter_object.ensures.plan

pub returns-in-Function-clause-plan : goal.returns-in-Function-clause-plan
returns-in-Function-clause-plan c =
    IfOk-weaker c.enter_function.result _ _ (λ x is. is ∙ ap (λ k. e.function_plan (plain_func k) (plain_env c.args.env) (store_of c.args.h.now c.args.texts.now)) c.deref.ensures ∙ ap (λ k. e.expr_plan k (plain_env c.args.env) (store_of c.args.h.now c.args.texts.now)) (sym (ap plain_expr c.in-Function.is ∙ view_function c.in-Function.function))) c.enter_function.ensures.plan
