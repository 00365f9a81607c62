use Rattle.std.proofs.Common.{ap, ◌∙◌}
use Rattle.es3_tree.specs.PlacedView as source
use Rattle.valija_forms.specs.Forms as forms
use Rattle.valija_parts.specs.Held as held
use Rattle.valija_parts.proofs.Made.{made_one}
use Rattle.valija_parts.proofs.expressions.dot.Goals as goal

pub returns : goal.returns
returns c x n m g =
    made_one held.expr held.expr (λ o. forms.get o (forms.text_of (source.word c.args.key.now))) c.args.object x n m c.in_ok-object.object c.in_ok-get.field-0 g c.in_ok-object.was
    (c.in_ok-get.ensures ∙ ap (forms.get (source.expr c.in_ok-object.object.value)) c.in_ok-key.ensures)
