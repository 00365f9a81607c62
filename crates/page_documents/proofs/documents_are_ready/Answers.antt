use Rattle.page_documents.proofs.Ready.{documents_are_ready}
use Rattle.page_documents.proofs.documents_are_ready.Goals as goal

pub returns : goal.returns
returns c = documents_are_ready
