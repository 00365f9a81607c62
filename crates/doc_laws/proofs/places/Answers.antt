use Rattle.doc_laws.proofs.Spots.{append-places, remove-places, create-places, set_attr-places, set_text-places}
use Rattle.doc_laws.proofs.places.Goals as goal

pub returns : goal.returns
returns c = record { append = append-places; remove = remove-places; create = create-places; set_attr = set_attr-places; set_text = set_text-places }
