use Rattle.cajita_simulation.proofs.Load.Begins.{begins, begins_one, imports_begin}
use Rattle.cajita_simulation.proofs.a_page_begins_related.Goals as goal

pub returns-clause-pages : goal.returns-clause-pages
returns-clause-pages c = begins

pub returns-clause-one : goal.returns-clause-one
returns-clause-one c = begins_one

pub returns-clause-imports : goal.returns-clause-imports
returns-clause-imports c = imports_begin
