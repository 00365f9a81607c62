use Rattle.cajita_simulation.proofs.Turns.{tick_alike}
use Rattle.cajita_simulation.proofs.a_closure_that_waited_is_called_alike.Goals as goal

pub returns : goal.returns
returns c = tick_alike
