use Rattle.page_agreement.proofs.Begins.{begins_alike}
use Rattle.page_agreement.proofs.the_same_document_begins_alike.Goals as goal

pub returns : goal.returns
returns c = begins_alike
