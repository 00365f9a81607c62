use Rattle.std.proofs.Common.{◌+◌, ◌-◌, ◌∙◌, arith}
use Rattle.es3_operators.proofs.Chains.{is_in_chain-above}
use Rattle.es3_operators.proofs.relations.is_above.Goals as goal

pub loop-step-preserved : goal.loop-step-preserved
loop-step-preserved c =
    let more = c.len-step-end.result - c.loop-step._step in
    let left = c.len-step-end.result - (c.loop-step._step + 1) in
    c.loop-step.invariant ∙ is_in_chain-above more left c.args.h.now c.loop-step.next c.proto_of-next-in-loop-step.result c.in-Some.here c.args.above (omega arith) c.in-Some.is
    (λ same. c.if-number.false (cc)) c.proto_of-next-in-loop-step.ensures
