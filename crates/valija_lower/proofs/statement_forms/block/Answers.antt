use Rattle.std.proofs.Common.{ap, ◌∙◌}
use Rattle.es3_tree.specs.Placed as placed
use Rattle.es3_tree.specs.PlacedView as source
use Rattle.valija_parts.specs.Held as held
use Rattle.valija_parts.proofs.Made.{made_one}
use Rattle.valija_lower.proofs.statement_forms.block.Goals as goal

pub returns : goal.returns
returns c x n m g =
    made_one held.stmts held.stmt placed.block c.args.list x n m c.in_ok-list.list c.in_ok-boxed.field-0 g c.in_ok-list.was
    (ap source.stmt c.in_ok-boxed.ensures ∙ c.make_block.ensures.with_places)
