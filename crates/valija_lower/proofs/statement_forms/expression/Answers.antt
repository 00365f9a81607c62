use Rattle.std.proofs.Common.{ap, ◌∙◌}
use Rattle.es3_tree.specs.Placed as placed
use Rattle.es3_tree.specs.PlacedView as source
use Rattle.valija_parts.specs.Held as held
use Rattle.valija_parts.proofs.Made.{made_one}
use Rattle.valija_lower.proofs.statement_forms.expression.Goals as goal

pub returns : goal.returns
returns c x n m g =
    made_one held.expr held.stmt placed.expression c.args.e x n m c.in_ok-e.e c.in_ok-boxed.field-0 g c.in_ok-e.was
    (ap source.stmt c.in_ok-boxed.ensures ∙ ap (λ z. placed.expression (source.expr z)) c.into_inner.ensures)
