use Rattle.std.proofs.Common.{◌+◌, ◌-◌, arith}
use Rattle.caja_units.specs.Index.{number_units}
use Rattle.es3_heap.proofs.Chains.{lookup_from-above}
use Rattle.es3_heap.proofs.heap.Heap.lookup_at.Goals as goal

pub loop-above-preserved : goal.loop-above-preserved
loop-above-preserved c =
    let more = c.len-above-end.result - c.loop-above._above in
    let left = c.len-above-end.result - (c.loop-above._above + 1) in
    let step = lookup_from-above more left c.args.self.now c.in-Some.here (number_units c.args.i) c.in_ok-held.held (omega arith) c.in_ok-held.ensures (cc) in
    cc (step, c.in-Some.is)
