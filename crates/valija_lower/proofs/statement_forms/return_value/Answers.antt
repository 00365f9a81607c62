use Rattle.std.proofs.Common.{ap, ◌∙◌}
use Rattle.es3_tree.specs.Placed as placed
use Rattle.es3_tree.specs.PlacedView as source
use Rattle.valija_parts.specs.Held as held
use Rattle.valija_parts.proofs.Made.{made_one}
use Rattle.valija_lower.proofs.statement_forms.return_value.Goals as goal

pub returns : goal.returns
returns c x n m g =
    made_one source.of_maybe_expr held.stmt (λ v. placed.return v 0) c.args.value x n m c.in_ok-value.value c.in_ok-boxed.field-0 g c.in_ok-value.was
    (ap source.stmt c.in_ok-boxed.ensures ∙ c.make_return.ensures.with_places)
