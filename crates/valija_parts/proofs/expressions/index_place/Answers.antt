use Rattle.std.proofs.Common.{refl}
use Rattle.valija_parts.specs.Held as held
use Rattle.valija_parts.specs.Places as wanted
use Rattle.valija_parts.specs.Views.{place_of}
use Rattle.valija_parts.proofs.Made.{made_both}
use Rattle.valija_parts.proofs.expressions.index_place.Goals as goal

pub returns : goal.returns
returns c x y n m k g i =
    made_both held.expr held.expr place_of wanted.at_index c.args.object c.args.key x y n m k c.joined.result (c.in_ok-object.object, c.in_ok-object.key) _ g i c.joined.ensures c.in_ok-object.was
    (refl)
