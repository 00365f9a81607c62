use Rattle.std.proofs.Common.{refl, sym, arith}
use Rattle.caja_units.specs.Index.{number_units}
use Rattle.caja_units.proofs.Indices.{array_index-number, array_index-large}
use Rattle.caja_units.proofs.below_max.Goals as goal

pub returns-then-index-eq4294967295 : goal.returns-then-index-eq4294967295
returns-then-index-eq4294967295 c = sym (array_index-large (number_units c.args.index) c.args.index refl (omega (arith, c.if-index-eq4294967295)) (omega (arith, c.ranges.index.fits)))

pub returns-else-index-eq4294967295 : goal.returns-else-index-eq4294967295
returns-else-index-eq4294967295 c = sym (array_index-number (number_units c.args.index) c.args.index refl (omega (arith, c.ranges.index.fits, c.if-index-eq4294967295)))
