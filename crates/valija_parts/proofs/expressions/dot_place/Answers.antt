use Rattle.std.proofs.Common.{ap}
use Rattle.es3_tree.specs.PlacedView as source
use Rattle.valija_forms.specs.Forms as forms
use Rattle.valija_parts.specs.Held as held
use Rattle.valija_parts.specs.Places as wanted
use Rattle.valija_parts.specs.Views.{place_of}
use Rattle.valija_parts.proofs.Made.{made_one}
use Rattle.valija_parts.proofs.expressions.dot_place.Goals as goal

pub returns : goal.returns
returns c x n m g =
    made_one held.expr place_of (λ o. wanted.at_dot o (forms.word c.args.key.now.text)) c.args.object x n m c.in_ok-object.object _ g c.in_ok-object.was
    (ap (wanted.at_dot (source.expr c.in_ok-object.object.value)) c.in_ok-copied.ensures)
