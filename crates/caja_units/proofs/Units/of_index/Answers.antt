use Rattle.std.proofs.Common.{subst, sym}
use Rattle.caja_units.specs.Units.{IsText}
use Rattle.caja_units.proofs.Indices.{number_is_text}
use Rattle.caja_units.proofs.Units.of_index.Goals as goal

pub new-requires : goal.new-requires
new-requires c = subst IsText (sym c.in_ok-of_index.ensures) (number_is_text c.args.n c.ranges.n.fits)
