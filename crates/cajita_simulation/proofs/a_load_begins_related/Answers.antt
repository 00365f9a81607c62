use Rattle.cajita_simulation.proofs.Load.Granted.{load_begins}
use Rattle.cajita_simulation.proofs.a_load_begins_related.Goals as goal

pub returns : goal.returns
returns c = load_begins
