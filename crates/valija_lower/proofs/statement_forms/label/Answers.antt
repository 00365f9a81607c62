use Rattle.std.proofs.Common.{ap, ◌∙◌}
use Rattle.es3_tree.specs.Placed as placed
use Rattle.es3_tree.specs.PlacedView as source
use Rattle.valija_forms.specs.Forms as forms
use Rattle.valija_parts.specs.Held as held
use Rattle.valija_parts.proofs.Made.{made_one}
use Rattle.valija_lower.proofs.statement_forms.label.Goals as goal

pub returns : goal.returns
returns c x n m g =
    made_one held.stmt held.stmt (placed.label (forms.word c.args.name.now.text)) c.args.body x n m c.in_ok-body.body c.in_ok-boxed.field-0 g c.in_ok-body.was
    (ap source.stmt c.in_ok-boxed.ensures ∙ c.make_label.ensures.with_places ∙ ap (λ w. placed.label w (source.stmt c.in_ok-body.body.value)) c.in_ok-name.ensures)
