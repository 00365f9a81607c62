use Rattle.row_simulation.proofs.Roots.{roots_law}
use Rattle.row_simulation.proofs.a_page_begins_with_its_nodes.Goals as goal

pub returns : goal.returns
returns c = roots_law
