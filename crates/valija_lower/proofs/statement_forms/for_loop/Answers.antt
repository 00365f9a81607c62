use Rattle.std.proofs.Common.{ap, ◌∙◌}
use Rattle.es3_tree.specs.Placed as placed
use Rattle.es3_tree.specs.PlacedView as source
use Rattle.valija_parts.specs.Held as held
use Rattle.valija_parts.proofs.Made.{made_four}
use Rattle.valija_lower.proofs.statement_forms.for_loop.Goals as goal

pub returns : goal.returns
returns c x y z w n m k l d g i j p =
    made_four source.first source.of_maybe_expr source.of_maybe_expr held.stmt held.stmt placed.for_loop c.args.start c.args.test c.args.update c.args.body x y z w n m k l d c.joined.result c.joined-2.result
    c.joined-3.result ((c.in_ok-start.start, c.in_ok-start.test), (c.in_ok-start.update, c.in_ok-start.body)) c.in_ok-boxed.field-0 g i j p c.joined.ensures c.joined-2.ensures c.joined-3.ensures c.in_ok-start.was
    (ap source.stmt c.in_ok-boxed.ensures ∙ c.make_for.ensures.with_places)
