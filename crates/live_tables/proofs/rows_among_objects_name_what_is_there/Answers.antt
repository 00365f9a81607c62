use Rattle.live_tables.proofs.Among.{names_there}
use Rattle.live_tables.proofs.rows_among_objects_name_what_is_there.Goals as goal

pub returns : goal.returns
returns c = names_there
