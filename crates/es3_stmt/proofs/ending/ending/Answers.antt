use Rattle.es3_frames.specs.Views.{stack_of}
use Rattle.es3_stmt.proofs.Unfinished.{unfinished}
use Rattle.es3_stmt.proofs.ending.ending.Goals as goal

pub returns-in_default : goal.returns-in_default
returns-in_default c = unfinished c.args.state (stack_of c.args.stack) c.in_default.not-Start c.in_default.not-Ended c.in_default.not-Caught
