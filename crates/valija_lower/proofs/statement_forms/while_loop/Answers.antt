use Rattle.std.proofs.Common.{ap, ◌∙◌}
use Rattle.es3_tree.specs.Placed as placed
use Rattle.es3_tree.specs.PlacedView as source
use Rattle.valija_parts.specs.Held as held
use Rattle.valija_parts.proofs.Made.{made_both}
use Rattle.valija_lower.proofs.statement_forms.while_loop.Goals as goal

pub returns : goal.returns
returns c x y n m k g i =
    made_both held.expr held.stmt held.stmt placed.while_loop c.args.test c.args.body x y n m k c.joined.result (c.in_ok-test.test, c.in_ok-test.body) c.in_ok-boxed.field-0 g i c.joined.ensures c.in_ok-test.was
    (ap source.stmt c.in_ok-boxed.ensures ∙ c.make_while.ensures.with_places ∙ ap (λ z. placed.while_loop (source.expr z) (source.stmt c.in_ok-test.body.value)) c.into_inner.ensures)
