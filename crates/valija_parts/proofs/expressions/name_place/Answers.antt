use Rattle.std.proofs.Common.{ap}
use Rattle.valija_forms.specs.Forms as forms
use Rattle.valija_parts.specs.Places as wanted
use Rattle.valija_parts.specs.Views.{place_of}
use Rattle.valija_parts.proofs.Made.{made_plain}
use Rattle.valija_parts.proofs.expressions.name_place.Goals as goal

pub returns : goal.returns
returns c n = made_plain place_of (wanted.at_name (forms.word c.args.name.now.text)) n _ (ap wanted.at_name c.in_ok-copied.ensures)
