use Rattle.std.proofs.Common.{ap, ◌∙◌}
use Rattle.es3_tree.specs.Placed as placed
use Rattle.es3_tree.specs.PlacedView as source
use Rattle.valija_parts.specs.Held as held
use Rattle.valija_parts.proofs.Made.{made_three}
use Rattle.valija_lower.proofs.statement_forms.try_catch.Goals as goal

pub returns : goal.returns
returns c x y z n m k l g i j =
    made_three held.stmts source.of_handler source.of_maybe_block held.stmt placed.try c.args.body c.args.handler c.args.last x y z n m k l c.joined.result c.joined-2.result ((c.in_ok-body.body, c.in_ok-body.handler), c.in_ok-body.last) c.in_ok-boxed.field-0 g i j
    c.joined.ensures c.joined-2.ensures c.in_ok-body.was
    (ap source.stmt c.in_ok-boxed.ensures ∙ c.make_try.ensures.with_places)
