use Rattle.page_agreement.proofs.Worked.{another_root}
use Rattle.page_agreement.proofs.pages_with_another_root_agree.Goals as goal

pub returns : goal.returns
returns c = another_root
