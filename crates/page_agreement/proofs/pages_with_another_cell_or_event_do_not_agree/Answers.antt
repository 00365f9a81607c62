use Rattle.page_agreement.proofs.Worked.{another_cell, one_event_more}
use Rattle.page_agreement.proofs.pages_with_another_cell_or_event_do_not_agree.Goals as goal

pub returns-clause-cell : goal.returns-clause-cell
returns-clause-cell c = another_cell

pub returns-clause-event : goal.returns-clause-event
returns-clause-event c = one_event_more
