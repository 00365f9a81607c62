use Rattle.doc_laws.proofs.Climbs as climbs
use Rattle.doc_laws.proofs.above_is_found.Goals as goal

pub returns : goal.returns
returns c = climbs.above_is_found
