use Rattle.page_agreement.proofs.Worked.{others_differ}
use Rattle.page_agreement.proofs.pages_with_other_modules_and_cells_agree.Goals as goal

pub returns : goal.returns
returns c = others_differ
