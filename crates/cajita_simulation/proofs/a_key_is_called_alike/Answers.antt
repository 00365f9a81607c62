use Rattle.cajita_simulation.proofs.Turns.{key_alike}
use Rattle.cajita_simulation.proofs.a_key_is_called_alike.Goals as goal

pub returns : goal.returns
returns c = key_alike
