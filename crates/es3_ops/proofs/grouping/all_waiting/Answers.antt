use Rattle.std.proofs.Common.{sym, ◌∙◌}
use Rattle.std.specs.Vec.Iter.{into_iter_items}
use Rattle.es3_ops.proofs.Finishing.{nothing_left}
use Rattle.es3_ops.proofs.grouping.all_waiting.Goals as goal

pub returns : goal.returns
returns c =
    nothing_left c.args.front.items c.loop-part.waiting.items (into_iter_items c.loop-part.part-iterator)
    (sym c.loop-part.part-iterator.rest.ok.0 ∙ c.in-None.ensures.steps.0) c.loop-part.invariant
