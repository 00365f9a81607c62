use Rattle.std.proofs.Common.{ap, ◌∙◌}
use Rattle.es3_tree.specs.Placed as placed
use Rattle.es3_tree.specs.PlacedView as source
use Rattle.valija_parts.specs.Held as held
use Rattle.valija_parts.proofs.Made.{made_one}
use Rattle.valija_parts.proofs.expressions.object.Goals as goal

pub returns : goal.returns
returns c x n m g =
    made_one held.fields held.expr placed.object c.args.fields x n m c.in_ok-fields.fields c.in_ok-boxed.field-0 g c.in_ok-fields.was
    (ap source.expr c.in_ok-boxed.ensures ∙ c.make_object.ensures.with_places)
