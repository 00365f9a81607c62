use Rattle.page_agreement.proofs.Agrees.{agrees_back}
use Rattle.page_agreement.proofs.Worked.{agrees_with_itself}
use Rattle.page_agreement.proofs.agreement_is_mutual.Goals as goal

pub returns-clause-itself : goal.returns-clause-itself
returns-clause-itself c = agrees_with_itself

pub returns-clause-back : goal.returns-clause-back
returns-clause-back c = agrees_back
