use Rattle.std.proofs.Common.{◌∙◌, ap, sym}
use Rattle.builtin_string.specs.Strings.{listed}
use Rattle.builtin_string.proofs.Units.{one_unit}
use Rattle.builtin_string.proofs.chars.unit_from.Goals as goal

pub returns : goal.returns
returns c = one_unit c.args.text.now c.args.place ∙ ap listed (sym c.at.ensures.is)
