use Rattle.doc_views.proofs.Marked.{set_attr_is_seen}
use Rattle.doc_views.proofs.Created.{create_element_is_seen, create_text_is_seen}
use Rattle.doc_views.proofs.Removed.{remove_is_seen}
use Rattle.doc_views.proofs.Appended.{append_is_seen}
use Rattle.doc_views.proofs.Texted.{set_text_is_seen}
use Rattle.doc_views.proofs.Grown.{others_seen}
use Rattle.doc_views.proofs.changes_are_seen.Goals as goal

pub returns : goal.returns
returns c = record { set_attr = set_attr_is_seen; set_text = set_text_is_seen; append = append_is_seen; remove = remove_is_seen; create_element = create_element_is_seen; create_text = create_text_is_seen; others = others_seen }
