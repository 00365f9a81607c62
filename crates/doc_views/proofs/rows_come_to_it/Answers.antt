use Rattle.doc_views.proofs.Rowed.{rows_end, rows_come}
use Rattle.doc_views.proofs.rows_come_to_it.Goals as goal

pub returns : goal.returns
returns c = record { end = rows_end; come = rows_come }
