use Rattle.std.proofs.Common.{◌+◌, ◌-◌, arith}
use Rattle.es3_heap.proofs.Chains.{lookup_from-above}
use Rattle.es3_heap.proofs.heap.Heap.lookup.Goals as goal

pub loop-above-preserved : goal.loop-above-preserved
loop-above-preserved c =
    let more = c.len-above-end.result - c.loop-above._above in
    let left = c.len-above-end.result - (c.loop-above._above + 1) in
    let step = lookup_from-above more left c.args.self.now c.in_ok-here.here c.args.k.now c.find-found.result (omega arith) c.find-found.ensures (cc) in
    cc (step, c.in_ok-here.was)
