use Rattle.std.proofs.Common.{ap, ◌∙◌}
use Rattle.es3_tree.specs.Placed as placed
use Rattle.es3_tree.specs.PlacedView as source
use Rattle.valija_parts.specs.Held as held
use Rattle.valija_parts.proofs.Made.{made_both}
use Rattle.valija_parts.proofs.expressions.and.Goals as goal

pub returns : goal.returns
returns c x y n m k g i =
    made_both held.expr held.expr held.expr placed.and c.args.left c.args.right x y n m k c.joined.result (c.in_ok-left.left, c.in_ok-left.right) c.in_ok-boxed.field-0 g i c.joined.ensures c.in_ok-left.was
    (ap source.expr c.in_ok-boxed.ensures ∙ c.make_and.ensures.with_places)
