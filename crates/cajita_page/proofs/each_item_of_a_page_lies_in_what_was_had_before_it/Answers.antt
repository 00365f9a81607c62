use Rattle.cajita_page.proofs.Reaches.{page_items_lie, page_names_are_new}
use Rattle.cajita_page.proofs.each_item_of_a_page_lies_in_what_was_had_before_it.Goals as goal

pub returns-clause-reached : goal.returns-clause-reached
returns-clause-reached c = page_items_lie

pub returns-clause-numbered : goal.returns-clause-numbered
returns-clause-numbered c = page_names_are_new
