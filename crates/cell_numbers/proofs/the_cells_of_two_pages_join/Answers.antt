use Rattle.cell_numbers.proofs.Names.{numbers_join, deeds_join}
use Rattle.cell_numbers.proofs.the_cells_of_two_pages_join.Goals as goal

pub returns-clause-numbers : goal.returns-clause-numbers
returns-clause-numbers c = numbers_join

pub returns-clause-deeds : goal.returns-clause-deeds
returns-clause-deeds c = deeds_join
