use Rattle.row_simulation.proofs.Operators.Functions.{typed}
use Rattle.row_simulation.proofs.each_value_has_its_type.Goals as goal

pub returns : goal.returns
returns c = typed
