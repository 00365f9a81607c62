use Rattle.std.proofs.Common.{ap, ◌∙◌}
use Rattle.es3_tree.specs.Placed as placed
use Rattle.es3_tree.specs.PlacedView as source
use Rattle.valija_parts.specs.Held as held
use Rattle.valija_parts.proofs.Made.{made_three}
use Rattle.valija_parts.proofs.expressions.choice.Goals as goal

pub returns : goal.returns
returns c x y z n m k l g i j =
    made_three held.expr held.expr held.expr held.expr placed.choice c.args.test c.args.yes c.args.no x y z n m k l c.joined.result c.joined-2.result ((c.in_ok-test.test, c.in_ok-test.yes), c.in_ok-test.no) c.in_ok-boxed.field-0 g i j
    c.joined.ensures c.joined-2.ensures c.in_ok-test.was
    (ap source.expr c.in_ok-boxed.ensures ∙ c.make_cond.ensures.with_places)
