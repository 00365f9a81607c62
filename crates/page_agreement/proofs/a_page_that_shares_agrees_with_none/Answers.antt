use Rattle.page_agreement.proofs.Worked.{one_cell_more, one_root_more, its_result}
use Rattle.page_agreement.proofs.a_page_that_shares_agrees_with_none.Goals as goal

pub returns-clause-cell : goal.returns-clause-cell
returns-clause-cell c = one_cell_more

pub returns-clause-root : goal.returns-clause-root
returns-clause-root c = one_root_more

pub returns-clause-result : goal.returns-clause-result
returns-clause-result c = its_result
