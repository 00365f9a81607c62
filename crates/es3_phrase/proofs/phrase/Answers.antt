use Rattle.std.proofs.Common.{sym}
use Rattle.es3_frames.specs.Views.{stack_of}
use Rattle.es3_phrase.proofs.Alone.{no_expression}
use Rattle.es3_phrase.proofs.phrase.Goals as goal

pub returns-in_default : goal.returns-in_default
returns-in_default c = sym (no_expression c.args.state (stack_of c.args.stack) c.in_default.not-Have c.in_default.not-Past)
