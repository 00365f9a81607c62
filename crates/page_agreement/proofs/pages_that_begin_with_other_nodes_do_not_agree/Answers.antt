use Rattle.page_agreement.proofs.Worked.{another_node}
use Rattle.page_agreement.proofs.pages_that_begin_with_other_nodes_do_not_agree.Goals as goal

pub returns : goal.returns
returns c = another_node
