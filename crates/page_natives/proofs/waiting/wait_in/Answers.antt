use Rattle.std.proofs.Common.{◌<◌, length, arith}
use Rattle.page_natives.proofs.Queues.{waits}
use Rattle.page_natives.proofs.waiting.wait_in.Goals as goal

pub returns : goal.returns
returns c =
    let there : c.args.owner < length c.reach.new.queues.items = omega (arith, c.in_ok-reach.ensures.long) in
    waits (λ q. q.items) c.reach.new.queues.items c.args.owner there c.index_mut.result.now c.index_mut.ensures.value c.push_back.new.self c.args.function _ c.in_ok-reach.ensures.items c.in_ok-push_back.ensures.items
