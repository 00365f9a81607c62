use Rattle.std.proofs.Common.{sym, ap, ◌∙◌}
use Rattle.std.proofs.lemmas.Result.{IfOk-weaker}
use Rattle.es3_language.specs.Expressions as e
use Rattle.es3_moves.specs.Code.{plain_expr}
use Rattle.es3_moves.specs.Where.{plain_env, plain_ref}
use Rattle.es3_moves.specs.Texts.{store_of}
use Rattle.es3_moves.specs.Moves.{target_use}
use Rattle.es3_expressions.proofs.Entered.{at_store}
use Rattle.es3_expressions.proofs.Kept.{compound_read, step_read}
use Rattle.es3_expressions.proofs.targets.use_target.Goals as goal

pub returns-in-AssignTo-clause-plan : goal.returns-in-AssignTo-clause-plan
returns-in-AssignTo-clause-plan c =
    let s = store_of c.args.h.now c.args.texts.now in
    at_store c.assign_to.result (e.assign_to (plain_expr c.in-AssignTo.value.value) (plain_env c.in-AssignTo.env) (plain_ref c.args.reference)) (target_use c.args.then (plain_ref c.args.reference) s) s (ap (λ k. target_use k (plain_ref c.args.reference) s) (sym c.in-AssignTo.is)) c.assign_to.ensures.plan

pub returns-in_ok-copy-in-CompoundTo-clause-plan :
    goal.returns-in_ok-copy-in-CompoundTo-clause-plan
returns-in_ok-copy-in-CompoundTo-clause-plan c =
    let s = store_of c.args.h.now c.args.texts.now in
    IfOk-weaker c.with_read.result _ _ (λ x is. is ∙ compound_read c.in-CompoundTo.op c.in-CompoundTo.value c.in-CompoundTo.env c.in_ok-then_env-in-CompoundTo.then_env c.args.reference c.in_ok-copy-in-CompoundTo.copy s c.in_ok-then_env-in-CompoundTo.ensures c.in_ok-copy-in-CompoundTo.ensures ∙ ap (λ k. target_use k (plain_ref c.args.reference) s) (sym c.in-CompoundTo.is)) c.with_read.ensures.plan

pub returns-in_ok-copy-in-Step-clause-plan : goal.returns-in_ok-copy-in-Step-clause-plan
returns-in_ok-copy-in-Step-clause-plan c =
    let s = store_of c.args.h.now c.args.texts.now in
    IfOk-weaker c.with_read-in-Step.result _ _ (λ x is. is ∙ step_read c.in-Step.up c.in-Step.before c.in-Step.env c.in_ok-then_env-in-Step.then_env c.args.reference c.in_ok-copy-in-Step.copy s c.in_ok-then_env-in-Step.ensures c.in_ok-copy-in-Step.ensures ∙ ap (λ k. target_use k (plain_ref c.args.reference) s) (sym c.in-Step.is)) c.with_read-in-Step.ensures.plan
