use Rattle.doc_laws.proofs.Within.{append-within, remove-within, set_attr-within, set_text-within, create-within}
use Rattle.doc_laws.proofs.changes_stay_within.Goals as goal

pub returns : goal.returns
returns c = record { append = append-within; remove = remove-within; set_attr = set_attr-within; set_text = set_text-within; create = create-within }
