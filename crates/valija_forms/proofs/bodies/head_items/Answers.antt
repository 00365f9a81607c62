use Rattle.std.proofs.Common.{ap, ◌∙◌, arith}
use Rattle.es3_tree.specs.PlacedView as source
use Rattle.valija_forms.specs.Forms as forms
use Rattle.valija_forms.proofs.Growing.{temporary_more, name_more}
use Rattle.valija_forms.proofs.bodies.head_items.Goals as goal

pub loop-number-preserved : goal.loop-number-preserved
loop-number-preserved c =
    temporary_more c.loop-number.number c.loop-number.items.items _ c.variable.result c.loop-number.invariant (ap source.word c.variable.ensures.name ∙ c.in_ok-temporary_word.ensures) c.variable.ensures.value
    c.in_ok-push.ensures.items

pub loop-name-preserved : goal.loop-name-preserved
loop-name-preserved c =
    name_more (forms.temporaries_from 0 c.args.taken) c.args.names.now c.loop-name.name-index c.name-item.result c.loop-name.items.items _ c.variable-in-loop-name.result c.loop-name.invariant (omega arith) c.name-item.is
    (ap source.word c.variable-in-loop-name.ensures.name ∙ ap forms.word c.in_ok-copy.ensures) c.variable-in-loop-name.ensures.value c.in_ok-push-2.ensures.items
