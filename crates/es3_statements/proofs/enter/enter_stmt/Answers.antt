use Rattle.std.proofs.Common.{◌∙◌}
use Rattle.std.proofs.lemmas.Result.{IfOk-weaker}
use Rattle.es3_moves.specs.Where.{plain_env}
use Rattle.es3_moves.proofs.Rows.{view_block, view_if, view_switch, view_try, view_var}
use Rattle.es3_statements.specs.Places.{maybe_labels}
use Rattle.es3_statements.proofs.Entering.{entered, view_with}
use Rattle.es3_statements.proofs.enter.enter_stmt.Goals as goal

pub returns-in-Block : goal.returns-in-Block
returns-in-Block c =
    let ls = maybe_labels c.args.labels in
    let i = c.in-Block in
    IfOk-weaker c.enter_block.result _ _ (λ m is s. is ls s ∙ entered c.args.code.now _ _ ls (plain_env c.args.env) s i.is (view_block i.xs)) c.enter_block.ensures

pub returns-in-Var : goal.returns-in-Var
returns-in-Var c =
    let ls = maybe_labels c.args.labels in
    let i = c.in-Var in
    IfOk-weaker c.enter_vars.result _ _ (λ m is s. is ls s ∙ entered c.args.code.now _ _ ls (plain_env c.args.env) s i.is (view_var i.items)) c.enter_vars.ensures

pub returns-in-If : goal.returns-in-If
returns-in-If c =
    let ls = maybe_labels c.args.labels in
    let i = c.in-If in
    IfOk-weaker c.enter_if.result _ _ (λ m is s. is ls s ∙ entered c.args.code.now _ _ ls (plain_env c.args.env) s i.is (view_if i.e i.x i.other)) c.enter_if.ensures

pub returns-in-With : goal.returns-in-With
returns-in-With c =
    let ls = maybe_labels c.args.labels in
    let i = c.in-With in
    IfOk-weaker c.enter_with.result _ _ (λ m is s. is ls s ∙ entered c.args.code.now _ _ ls (plain_env c.args.env) s i.is (view_with i.e i.x)) c.enter_with.ensures

pub returns-in-Switch : goal.returns-in-Switch
returns-in-Switch c =
    let ls = maybe_labels c.args.labels in
    let i = c.in-Switch in
    IfOk-weaker c.enter_switch.result _ _ (λ m is s. is s ∙ entered c.args.code.now _ _ ls (plain_env c.args.env) s i.is (view_switch i.e i.cs)) c.enter_switch.ensures

pub returns-in-Try : goal.returns-in-Try
returns-in-Try c =
    let ls = maybe_labels c.args.labels in
    let i = c.in-Try in
    IfOk-weaker c.enter_try.result _ _ (λ m is s. is ls s ∙ entered c.args.code.now _ _ ls (plain_env c.args.env) s i.is (view_try i.xs i.handler i.last)) c.enter_try.ensures
