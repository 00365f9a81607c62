use Rattle.doc_views.proofs.Found.{found_is_seen, found_stays, set_attr_finds}
use Rattle.doc_views.proofs.ids_stay.Goals as goal

pub returns : goal.returns
returns c = record { seen = found_is_seen; deeds = found_stays; set_attr = set_attr_finds }
