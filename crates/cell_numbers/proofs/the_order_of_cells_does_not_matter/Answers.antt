use Rattle.cell_numbers.proofs.Names.{pages_join}
use Rattle.cell_numbers.proofs.the_order_of_cells_does_not_matter.Goals as goal

pub returns : goal.returns
returns c = pages_join
