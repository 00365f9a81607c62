use Rattle.row_simulation.proofs.Begun.{begun_corresponds}
use Rattle.row_simulation.proofs.a_page_begins_so.Goals as goal

pub returns-clause-objects : goal.returns-clause-objects
returns-clause-objects c = begun_corresponds
