use Rattle.std.proofs.Common.{ap, ◌∙◌}
use Rattle.es3_tree.specs.Placed as placed
use Rattle.es3_tree.specs.PlacedView as source
use Rattle.valija_parts.specs.Held as held
use Rattle.valija_parts.proofs.Made.{made_both}
use Rattle.valija_lower.proofs.statement_forms.do_loop.Goals as goal

pub returns : goal.returns
returns c x y n m k g i =
    made_both held.stmt held.expr held.stmt placed.do_loop c.args.body c.args.test x y n m k c.joined.result (c.in_ok-body.body, c.in_ok-body.test) c.in_ok-boxed.field-0 g i c.joined.ensures c.in_ok-body.was
    (ap source.stmt c.in_ok-boxed.ensures ∙ c.make_do.ensures.with_places ∙ ap (λ z. placed.do_loop (source.stmt c.in_ok-body.body.value) (source.expr z)) c.into_inner.ensures)
