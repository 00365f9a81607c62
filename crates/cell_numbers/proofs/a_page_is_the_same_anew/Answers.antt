use Rattle.cell_numbers.proofs.Pages.{pages_anew, page_items_anew, page_steps_anew, group_items_anew}
use Rattle.cell_numbers.proofs.a_page_is_the_same_anew.Goals as goal

pub returns-clause-page : goal.returns-clause-page
returns-clause-page c = pages_anew

pub returns-clause-items : goal.returns-clause-items
returns-clause-items c = page_items_anew

pub returns-clause-steps : goal.returns-clause-steps
returns-clause-steps c = page_steps_anew

pub returns-clause-group : goal.returns-clause-group
returns-clause-group c = group_items_anew
