use Rattle.std.proofs.Common.{◌+◌, ◌∙◌, arith}
use Rattle.std.proofs.lemmas.Result.{err_from_is_err_and}
use Rattle.property_tables.proofs.Running.{left-more, told-more}
use Rattle.property_tables.proofs.run.props_run.Goals as goal

pub loop-call-preserved : goal.loop-call-preserved
loop-call-preserved g c = (
  told-more c.args.calls.now c.loop-call.call-index c.call-item.result c.call-item.result c.loop-call.told.items _ _ c.in_ok-reply.reply _ _ (omega arith) c.call-item.is c.loop-call.invariant.0 c.in_ok-reply.ensures.told c.in_ok-reply.ensures.after c.in_ok-push.ensures.items,
  left-more c.args.calls.now c.loop-call.call-index c.call-item.result c.call-item.result _ _ _ (omega arith) c.call-item.is c.loop-call.invariant.1 c.in_ok-reply.ensures.after,
)

pub returns-in_err-reply-clause-kept : goal.returns-in_err-reply-clause-kept
returns-in_err-reply-clause-kept g c =
    let p = err_from_is_err_and c.from_residual.result c.from_residual.ensures.1 in
    rw p.1 ((c.loop-call.call-index, c.in_err-reply.ensures.kept ∙ c.loop-call.invariant.1))

pub returns-in_err-push-clause-kept : goal.returns-in_err-push-clause-kept
returns-in_err-push-clause-kept g c =
    let p = err_from_is_err_and c.from_residual-in_err-push.result c.from_residual-in_err-push.ensures.1 in
    rw p.1 ((c.loop-call.call-index + 1, left-more c.args.calls.now c.loop-call.call-index c.call-item.result c.call-item.result _ _ _ (omega arith) c.call-item.is c.loop-call.invariant.1 c.in_ok-reply.ensures.after))
