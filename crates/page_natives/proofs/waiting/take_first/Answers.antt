use Rattle.std.proofs.Common.{◌<◌, length, refl, arith}
use Rattle.page_natives.proofs.Queues.{taken}
use Rattle.page_natives.proofs.waiting.take_first.Goals as goal

pub returns-in-Some-clause-left : goal.returns-in-Some-clause-left
returns-in-Some-clause-left c =
    let there : c.args.owner < length c.args.queues.now.items = omega (arith, c.in-Some.ensures.variant.0 refl) in
    taken (λ q. q.items) c.args.queues.now.items c.args.owner there c.in-Some.queue.now c.in-Some.ensures.value c.pop_front.new.self c.pop_front.ensures.rest
