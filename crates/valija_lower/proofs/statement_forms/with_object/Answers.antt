use Rattle.std.proofs.Common.{ap, ◌∙◌}
use Rattle.es3_tree.specs.Placed as placed
use Rattle.es3_tree.specs.PlacedView as source
use Rattle.valija_parts.specs.Held as held
use Rattle.valija_parts.proofs.Made.{made_both}
use Rattle.valija_lower.proofs.statement_forms.with_object.Goals as goal

pub returns : goal.returns
returns c x y n m k g i =
    made_both held.expr held.stmt held.stmt (λ o y. placed.with_object o y 0) c.args.object c.args.body x y n m k c.joined.result (c.in_ok-object.object, c.in_ok-object.body) c.in_ok-boxed.field-0 g i c.joined.ensures c.in_ok-object.was
    (ap source.stmt c.in_ok-boxed.ensures ∙ c.make_with.ensures.with_places ∙ ap (λ z. placed.with_object (source.expr z) (source.stmt c.in_ok-object.body.value) 0) c.into_inner.ensures)
