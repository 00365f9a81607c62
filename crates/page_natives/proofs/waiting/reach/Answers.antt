use Rattle.std.proofs.Common.{◌<◌, [], length, map, ap, ◌∙◌, arith}
use Rattle.dom_facets.specs.Places.{padded}
use Rattle.page_natives.proofs.Queues.{one_more}
use Rattle.page_natives.proofs.waiting.reach.Goals as goal

pub reach-preserved : goal.reach-preserved
reach-preserved c =
    let fewer : length c.reach.queues.items < c.args.count = omega arith in
    record { padded = ap (λ l. padded [] c.args.count (map (λ q. q.items) l)) c.in_ok-push.ensures.items ∙ one_more (λ q. q.items) c.reach.queues.items c.args.count _ fewer c.new.ensures.items ∙ c.reach.invariant.padded }
