-- The contract is the lemma.
use Rattle.page_agreement.proofs.Isolated.{isolated}
use Rattle.page_agreement.proofs.pages_that_agree_give_a_group_the_same_lines.Goals as goal

pub returns : goal.returns
returns c = isolated
