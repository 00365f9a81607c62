use Rattle.cajita_simulation.proofs.Load.Places.{places_last, values_last}
use Rattle.cajita_simulation.proofs.a_page_has_its_places.Goals as goal

pub returns-clause-later : goal.returns-clause-later
returns-clause-later c = places_last

pub returns-clause-values : goal.returns-clause-values
returns-clause-values c = values_last
