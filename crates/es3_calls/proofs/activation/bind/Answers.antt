use Rattle.std.proofs.Common.{arith}
use Rattle.es3_calls.proofs.Bound.{params_more}
use Rattle.es3_calls.proofs.activation.bind.Goals as goal

pub loop-i-preserved : goal.loop-i-preserved
loop-i-preserved c =
    params_more c.args.params.now c.args.args.now c.loop-i.i c.index-params-i.result c.in_ok-value.value c.loop-i.names c.put.new.self _ (omega arith) c.index-params-i.is c.in_ok-value.ensures c.in_ok-put.ensures c.loop-i.invariant
