use Rattle.row_simulation.proofs.Whole.{every_row}
use Rattle.row_simulation.proofs.every_row_has_its_law.Goals as goal

pub returns : goal.returns
returns c = every_row
