use Rattle.std.proofs.Common.{◌≡◌, ◌∙◌, Some, None, ap, arith, rules}
use Rattle.std.proofs.lemmas.Grind.{common_steps}
use Rattle.es3_tree.specs.declared.Stmt.TheVariants.{Try}
use Rattle.es3_tree.specs.View as v
use Rattle.es3_tree.proofs.Rows as trees
use Rattle.es3_moves.proofs.Rows as code
use Rattle.es3_loading.proofs.Loading.{exprs_all, fields_all, stmts_all, items_all, cases_all}
use Rattle.es3_loading.proofs.Tries.{try_tree}
use Rattle.es3_loading.proofs.load.+load.Goals as goal

pub load_expr-returns-in_ok-items-in-Array : goal.load_expr-returns-in_ok-items-in-Array
load_expr-returns-in_ok-items-in-Array t c = first_of (search (rules, code.view_array, trees.view_array), grind (arith, common_steps, code.view_array, trees.view_array))

pub load_expr-returns-in_ok-fields-in-Object : goal.load_expr-returns-in_ok-fields-in-Object
load_expr-returns-in_ok-fields-in-Object t c = first_of (search (rules, code.view_object, trees.view_object), grind (arith, common_steps, code.view_object, trees.view_object))

pub load_expr-returns-in_ok-function-in-Func : goal.load_expr-returns-in_ok-function-in-Func
load_expr-returns-in_ok-function-in-Func t c = first_of (search (rules, code.view_function, trees.view_function), grind (arith, common_steps, code.view_function, trees.view_function))

pub load_expr-returns-in_ok-arguments-in-Call : goal.load_expr-returns-in_ok-arguments-in-Call
load_expr-returns-in_ok-arguments-in-Call t c =
    let tree = ap v.expr c.in-Call.is ∙ trees.view_call c.in-Call.f c.in-Call.es in
    let made = code.view_call c.in_ok-callee-in-Call.callee c.in_ok-arguments-in-Call.arguments in
    first_of (search rules, grind (arith, common_steps))

pub load_expr-returns-in_ok-arguments-in-New : goal.load_expr-returns-in_ok-arguments-in-New
load_expr-returns-in_ok-arguments-in-New t c =
    let tree = ap v.expr c.in-New.is ∙ trees.view_new c.in-New.f c.in-New.es in
    let made = code.view_new c.in_ok-constructor-in-New.constructor c.in_ok-arguments-in-New.arguments in
    first_of (search rules, grind (arith, common_steps))

pub load_stmt-returns-in_ok-body-in-Block : goal.load_stmt-returns-in_ok-body-in-Block
load_stmt-returns-in_ok-body-in-Block t c = first_of (search (rules, code.view_block, trees.view_block), grind (arith, common_steps, code.view_block, trees.view_block))

pub load_stmt-returns-in_ok-vars-in-Var : goal.load_stmt-returns-in_ok-vars-in-Var
load_stmt-returns-in_ok-vars-in-Var t c = first_of (search (rules, code.view_var, trees.view_var), grind (arith, common_steps, code.view_var, trees.view_var))

pub load_stmt-returns-in_ok-cases-in-Switch : goal.load_stmt-returns-in_ok-cases-in-Switch
load_stmt-returns-in_ok-cases-in-Switch t c =
    let tree = ap v.stmt c.in-Switch.is ∙ trees.view_switch c.in-Switch.e c.in-Switch.clauses in
    let made = code.view_switch c.in_ok-value-in-Switch.value c.in_ok-cases-in-Switch.cases in
    first_of (search rules, grind (arith, common_steps))

pub load_stmt-returns-in_ok-function-in-Func : goal.load_stmt-returns-in_ok-function-in-Func
load_stmt-returns-in_ok-function-in-Func t c = first_of (search (rules, code.view_declare, trees.view_declared), grind (arith, common_steps, code.view_declare, trees.view_declared))

pub load_first-returns-in_ok-vars-in-Var : goal.load_first-returns-in_ok-vars-in-Var
load_first-returns-in_ok-vars-in-Var t c = first_of (search (rules, code.view_first_var, trees.view_first_var), grind (arith, common_steps, code.view_first_var, trees.view_first_var))

pub load_exprs-returns : goal.load_exprs-returns
load_exprs-returns t c = grind (arith, common_steps, exprs_all)

pub load_fields-returns : goal.load_fields-returns
load_fields-returns t c = grind (arith, common_steps, fields_all)

pub load_body-returns : goal.load_body-returns
load_body-returns t c = grind (arith, common_steps, stmts_all)

pub load_vars-returns : goal.load_vars-returns
load_vars-returns t c = grind (arith, common_steps, items_all)

pub load_cases-returns : goal.load_cases-returns
load_cases-returns t c = grind (arith, common_steps, cases_all)

pub load_try-returns-in-None-last : goal.load_try-returns-in-None-last
load_try-returns-in-None-last t c =
    let this : c.args.s.now ≡ Try c.in-Try.ss c.in-Try.handler c.in-Try.last = cc in
    let handler : c.in-Try.handler ≡ None = cc in
    let last : c.in-Try.last ≡ None = cc in
    let tree = try_tree c.args.s.now c.in-Try.ss c.in-Try.handler None c.in-Try.last None this handler last in
    grind (arith, common_steps)

pub load_try-returns-in_ok-last-in-Some-last : goal.load_try-returns-in_ok-last-in-Some-last
load_try-returns-in_ok-last-in-Some-last t c =
    let this : c.args.s.now ≡ Try c.in-Try.ss c.in-Try.handler c.in-Try.last = cc in
    let handler : c.in-Try.handler ≡ None = cc in
    let last : c.in-Try.last ≡ Some c.in-Some-last.fs = cc in
    let tree = try_tree c.args.s.now c.in-Try.ss c.in-Try.handler None c.in-Try.last (Some c.in-Some-last.fs) this handler last in
    grind (arith, common_steps)

pub load_try-returns-in-None-last-2 : goal.load_try-returns-in-None-last-2
load_try-returns-in-None-last-2 t c =
    let this : c.args.s.now ≡ Try c.in-Try.ss c.in-Try.handler c.in-Try.last = cc in
    let handler : c.in-Try.handler ≡ Some (c.in-Some.name, c.in-Some.hs) = cc in
    let last : c.in-Try.last ≡ None = cc in
    let tree = try_tree c.args.s.now c.in-Try.ss c.in-Try.handler (Some (c.in-Some.name, c.in-Some.hs)) c.in-Try.last None this handler last in
    grind (arith, common_steps)

pub load_try-returns-in_ok-last-in-Some-last-2 : goal.load_try-returns-in_ok-last-in-Some-last-2
load_try-returns-in_ok-last-in-Some-last-2 t c =
    let this : c.args.s.now ≡ Try c.in-Try.ss c.in-Try.handler c.in-Try.last = cc in
    let handler : c.in-Try.handler ≡ Some (c.in-Some.name, c.in-Some.hs) = cc in
    let last : c.in-Try.last ≡ Some c.in-Some-last-2.fs = cc in
    let tree = try_tree c.args.s.now c.in-Try.ss c.in-Try.handler (Some (c.in-Some.name, c.in-Some.hs)) c.in-Try.last (Some c.in-Some-last-2.fs) this handler last in
    grind (arith, common_steps)
