use Rattle.std.proofs.Common.{ap}
use Rattle.es3_tree.specs.Placed as placed
use Rattle.es3_tree.specs.PlacedView as source
use Rattle.valija_parts.specs.Held as held
use Rattle.valija_parts.proofs.Made.{made_one}
use Rattle.valija_lower.proofs.statement_forms.present.Goals as goal

pub returns : goal.returns
returns c x n m g =
    made_one held.expr source.of_maybe_expr placed.some_expr c.args.e x n m c.in_ok-e.e _ g c.in_ok-e.was
    (ap (λ z. placed.some_expr (source.expr z)) c.into_inner.ensures)
