use Rattle.cajita_simulation.proofs.Theorem.{loads}
use Rattle.cajita_simulation.proofs.a_module_loads_wherever_both_sides_are_related.Goals as goal

pub returns : goal.returns
returns c = loads
