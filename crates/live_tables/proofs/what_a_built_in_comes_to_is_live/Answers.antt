use Rattle.live_tables.proofs.Among.{built_in_live}
use Rattle.live_tables.proofs.what_a_built_in_comes_to_is_live.Goals as goal

pub returns : goal.returns
returns c = built_in_live
