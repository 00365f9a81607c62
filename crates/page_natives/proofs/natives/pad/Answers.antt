use Rattle.std.proofs.Common.{◌<◌, ◌≤◌, length, sym, ap, ◌∙◌, arith}
use Rattle.es3_objects.specs.declared.value.Value.TheVariants.{Undefined}
use Rattle.dom_facets.specs.Places.{padded}
use Rattle.dom_facets.proofs.Padded.{padded_more, padded_all}
use Rattle.page_natives.proofs.natives.pad.Goals as goal

pub loop-cells-preserved : goal.loop-cells-preserved
loop-cells-preserved c =
    let fewer : length c.loop-cells.cells.items < c.args.count = omega arith in
    record { padded = ap (padded Undefined c.args.count) c.in_ok-push.ensures.items ∙ padded_more Undefined c.args.count c.loop-cells.cells.items fewer ∙ c.loop-cells.invariant.padded }

pub returns-clause-items : goal.returns-clause-items
returns-clause-items c =
    let many : c.args.count ≤ length c.loop-cells.cells.items = omega arith in
    sym (padded_all Undefined c.args.count c.loop-cells.cells.items many) ∙ c.loop-cells.invariant.padded
