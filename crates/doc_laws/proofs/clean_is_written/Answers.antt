use Rattle.doc_laws.proofs.Shown.{clean-written}
use Rattle.doc_laws.proofs.clean_is_written.Goals as goal

pub returns : goal.returns
returns c = clean-written
