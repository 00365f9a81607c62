use Rattle.live_rows.proofs.Rows.{does_live}
use Rattle.live_rows.proofs.what_a_row_comes_to_is_live.Goals as goal

pub returns : goal.returns
returns c = does_live
