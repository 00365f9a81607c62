use Rattle.cajita_simulation.proofs.Waiting.{tick_begins, none_waits}
use Rattle.cajita_simulation.proofs.a_tick_begins_related.Goals as goal

pub returns-clause-some : goal.returns-clause-some
returns-clause-some c = tick_begins

pub returns-clause-none : goal.returns-clause-none
returns-clause-none c = none_waits
