use Rattle.doc_views.proofs.Came.{deed_is_seen}
use Rattle.doc_views.proofs.deeds_are_seen.Goals as goal

pub returns : goal.returns
returns c = deed_is_seen
