use Rattle.doc_laws.proofs.Changed.{append_keeps, remove_keeps, set_attr_keeps, set_text_keeps, create_keeps}
use Rattle.doc_laws.proofs.changes_keep.Goals as goal

pub returns : goal.returns
returns c = record { append = append_keeps; remove = remove_keeps; set_attr = set_attr_keeps; set_text = set_text_keeps; create = create_keeps }
