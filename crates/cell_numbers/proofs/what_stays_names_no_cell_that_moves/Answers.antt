use Rattle.cell_numbers.proofs.Cells.{stays_unmoved, names_own_cells, names_own_roots}
use Rattle.cell_numbers.proofs.what_stays_names_no_cell_that_moves.Goals as goal

pub returns-clause-unmoved : goal.returns-clause-unmoved
returns-clause-unmoved c = stays_unmoved

pub returns-clause-own : goal.returns-clause-own
returns-clause-own c = names_own_cells

pub returns-clause-roots : goal.returns-clause-roots
returns-clause-roots c = names_own_roots
