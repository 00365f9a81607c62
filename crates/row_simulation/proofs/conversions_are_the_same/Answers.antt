use Rattle.row_simulation.proofs.Conversions.{conversions}
use Rattle.row_simulation.proofs.conversions_are_the_same.Goals as goal

pub returns : goal.returns
returns c = conversions
