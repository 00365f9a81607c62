use Rattle.doc_laws.proofs.Joined.{clean-forest, clean-reached}
use Rattle.doc_laws.proofs.clean_is_reached.Goals as goal

pub returns : goal.returns
returns c = record { forest = clean-forest; reached = clean-reached }
