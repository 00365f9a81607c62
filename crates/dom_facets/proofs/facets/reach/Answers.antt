use Rattle.std.proofs.Common.{◌<◌, ◌≤◌, None, length, sym, ap, ◌∙◌, arith}
use Rattle.dom_facets.specs.Places.{padded}
use Rattle.dom_facets.proofs.Padded.{padded_more, padded_all}
use Rattle.dom_facets.proofs.facets.reach.Goals as goal

pub reach-preserved : goal.reach-preserved
reach-preserved c =
    let fewer : length c.reach.objects.items < c.args.count = omega arith in
    record { padded = ap (padded None c.args.count) c.in_ok-push.ensures.items ∙ padded_more None c.args.count c.reach.objects.items fewer ∙ c.reach.invariant.padded }

pub returns-clause-items : goal.returns-clause-items
returns-clause-items c =
    let many : c.args.count ≤ length c.reach.objects.items = omega arith in
    sym (padded_all None c.args.count c.reach.objects.items many) ∙ c.reach.invariant.padded
