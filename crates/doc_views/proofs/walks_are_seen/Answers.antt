use Rattle.doc_views.proofs.Below.{below_is_seen, text_is_seen, first_is_seen}
use Rattle.doc_views.proofs.Above.{above_is_seen, child_is_seen, answer_by_id}
use Rattle.doc_views.proofs.walks_are_seen.Goals as goal

pub returns : goal.returns
returns c = record { below = below_is_seen; above = above_is_seen; child = child_is_seen; text = text_is_seen; first = first_is_seen; by_id = answer_by_id }
