use Rattle.es3_tree.specs.Placed as placed
use Rattle.es3_tree.specs.PlacedView as source
use Rattle.valija_parts.specs.Held as held
use Rattle.valija_parts.proofs.Made.{made_one}
use Rattle.valija_lower.proofs.statement_forms.first_var.Goals as goal

pub returns : goal.returns
returns c x n m g =
    made_one held.items source.first placed.first_var c.args.items x n m c.in_ok-items.items _ g c.in_ok-items.was
    (c.make_first_var.ensures.with_places)
