use Rattle.std.proofs.Common.{ap, ◌∙◌}
use Rattle.es3_tree.specs.Placed as placed
use Rattle.es3_tree.specs.PlacedView as source
use Rattle.valija_parts.specs.Held as held
use Rattle.valija_parts.proofs.Made.{made_one}
use Rattle.valija_parts.proofs.expressions.array.Goals as goal

pub returns : goal.returns
returns c x n m g =
    made_one held.exprs held.expr placed.array c.args.elements x n m c.in_ok-elements.elements c.in_ok-boxed.field-0 g c.in_ok-elements.was
    (ap source.expr c.in_ok-boxed.ensures ∙ c.make_array.ensures.with_places)
