use Rattle.std.proofs.Common.{ap, ◌∙◌}
use Rattle.es3_tree.specs.Placed as placed
use Rattle.es3_tree.specs.PlacedView as source
use Rattle.valija_parts.specs.Held as held
use Rattle.valija_parts.proofs.Made.{made_both}
use Rattle.valija_lower.proofs.statement_forms.switch.Goals as goal

pub returns : goal.returns
returns c x y n m k g i =
    made_both held.expr held.cases held.stmt placed.switch c.args.value c.args.cases x y n m k c.joined.result (c.in_ok-value.value, c.in_ok-value.cases) c.in_ok-boxed.field-0 g i c.joined.ensures c.in_ok-value.was
    (ap source.stmt c.in_ok-boxed.ensures ∙ c.make_switch.ensures.with_places ∙ ap (λ z. placed.switch (source.expr z) (source.of_cases c.in_ok-value.cases.items)) c.into_inner.ensures)
