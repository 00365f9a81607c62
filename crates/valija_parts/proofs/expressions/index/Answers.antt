use Rattle.valija_forms.specs.Forms as forms
use Rattle.valija_parts.specs.Held as held
use Rattle.valija_parts.proofs.Made.{made_both}
use Rattle.valija_parts.proofs.expressions.index.Goals as goal

pub returns : goal.returns
returns c x y n m k g i =
    made_both held.expr held.expr held.expr forms.get c.args.object c.args.key x y n m k c.joined.result (c.in_ok-object.object, c.in_ok-object.key) c.in_ok-get.field-0 g i c.joined.ensures c.in_ok-object.was
    (c.in_ok-get.ensures)
