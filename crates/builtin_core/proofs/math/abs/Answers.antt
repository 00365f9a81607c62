use Rattle.builtin_core.proofs.Numbers.{comes, abs-is}
use Rattle.builtin_core.proofs.math.abs.Goals as goal

pub returns : goal.returns
returns c = comes _ c.abs_of.result c.outcome_of.result _ c.args.h.now (abs-is c.args.by c.args.this.now c.args.args.now c.args.h.now) c.abs_of.ensures c.outcome_of.ensures
