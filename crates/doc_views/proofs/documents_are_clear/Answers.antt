use Rattle.doc_views.proofs.Clear.{set_attr_keeps_clear}
use Rattle.doc_views.proofs.Clean as clean
use Rattle.doc_views.proofs.documents_are_clear.Goals as goal

pub returns : goal.returns
returns c = record { clean = clean.clean_is_clear; set_attr = set_attr_keeps_clear }
