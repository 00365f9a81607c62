use Rattle.std.proofs.Common.{refl}
use Rattle.valija_parts.specs.Held as held
use Rattle.valija_parts.specs.Places as wanted
use Rattle.valija_parts.specs.Views.{place_of}
use Rattle.valija_parts.proofs.Made.{made_one}
use Rattle.valija_parts.proofs.expressions.other_place.Goals as goal

pub returns : goal.returns
returns c x n m g =
    made_one held.expr place_of wanted.elsewhere c.args.e x n m c.in_ok-e.e _ g c.in_ok-e.was
    (refl)
