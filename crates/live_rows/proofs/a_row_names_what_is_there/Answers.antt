use Rattle.live_rows.proofs.Named.{names_what_is_there}
use Rattle.live_rows.proofs.a_row_names_what_is_there.Goals as goal

pub returns : goal.returns
returns c = names_what_is_there
