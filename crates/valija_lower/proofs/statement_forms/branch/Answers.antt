use Rattle.std.proofs.Common.{ap, ◌∙◌}
use Rattle.es3_tree.specs.Placed as placed
use Rattle.es3_tree.specs.PlacedView as source
use Rattle.valija_parts.specs.Held as held
use Rattle.valija_parts.proofs.Made.{made_three}
use Rattle.valija_lower.proofs.statement_forms.branch.Goals as goal

pub returns : goal.returns
returns c x y z n m k l g i j =
    made_three held.expr held.stmt source.of_maybe_stmt held.stmt placed.branch c.args.test c.args.then c.args.otherwise x y z n m k l c.joined.result c.joined-2.result ((c.in_ok-test.test, c.in_ok-test.then), c.in_ok-test.otherwise) c.in_ok-boxed.field-0 g i j
    c.joined.ensures c.joined-2.ensures c.in_ok-test.was
    (ap source.stmt c.in_ok-boxed.ensures ∙ c.make_if.ensures.with_places ∙ ap (λ z. placed.branch (source.expr z) (source.stmt c.in_ok-test.then.value) (source.of_maybe_stmt c.in_ok-test.otherwise)) c.into_inner.ensures)
