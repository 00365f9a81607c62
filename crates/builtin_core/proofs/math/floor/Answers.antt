use Rattle.builtin_core.proofs.Numbers.{comes, its_number-is}
use Rattle.builtin_core.proofs.math.floor.Goals as goal

pub returns : goal.returns
returns c = comes _ c.its_number.result c.outcome_of.result _ c.args.h.now (its_number-is c.args.by c.args.this.now c.args.args.now c.args.h.now) c.its_number.ensures c.outcome_of.ensures
