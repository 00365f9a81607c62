use Rattle.cajita_simulation.proofs.Happening.{node_alike}
use Rattle.cajita_simulation.proofs.a_function_is_told_alike.Goals as goal

pub returns : goal.returns
returns c = node_alike
