use Rattle.std.proofs.Common.{◌+◌, ◌-◌, arith}
use Rattle.es3_heap.specs.Enumerating.{keys}
use Rattle.es3_heap.proofs.Chains.{keys-above}
use Rattle.es3_heap.proofs.heap.Heap.keys.Goals as goal

pub loop-step-preserved : goal.loop-step-preserved
loop-step-preserved c =
    let more = c.len-step-end.result - c.loop-step._step in
    let left = c.len-step-end.result - (c.loop-step._step + 1) in
    keys-above more left c.args.self.now (keys c.args.self.now c.args.o) c.loop-step.keys.items c.push_keys.new.keys.items c.loop-step.below.items c.push.new.self.items
    c.deref.result.now c.loop-step.above c.proto_of-above.result c.in-Some.here (omega arith) c.loop-step.invariant c.in-Some.is c.deref.ensures.value
    c.in_ok-push_keys.ensures c.in_ok-push.ensures.items c.proto_of-above.ensures
