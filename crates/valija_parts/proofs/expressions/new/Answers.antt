use Rattle.valija_forms.specs.Forms as forms
use Rattle.valija_parts.specs.Held as held
use Rattle.valija_parts.proofs.Made.{made_both}
use Rattle.valija_parts.proofs.expressions.new.Goals as goal

pub returns : goal.returns
returns c x y n m k g i =
    made_both held.expr held.exprs held.expr forms.construct c.args.constructor c.args.arguments x y n m k c.joined.result (c.in_ok-constructor.constructor, c.in_ok-constructor.arguments) c.in_ok-construct.field-0 g i c.joined.ensures c.in_ok-constructor.was
    (c.in_ok-construct.ensures)
