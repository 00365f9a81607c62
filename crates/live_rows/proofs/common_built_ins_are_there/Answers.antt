use Rattle.live_rows.proofs.Named.{common_there}
use Rattle.live_rows.proofs.common_built_ins_are_there.Goals as goal

pub returns : goal.returns
returns c = common_there
