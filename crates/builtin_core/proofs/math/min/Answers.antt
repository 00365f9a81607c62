use Rattle.builtin_core.proofs.Numbers.{comes, min-is}
use Rattle.builtin_core.proofs.math.min.Goals as goal

pub returns : goal.returns
returns c = comes _ c.best_of.result c.outcome_of.result _ c.args.h.now (min-is c.args.by c.args.this.now c.args.args.now c.args.h.now) c.best_of.ensures c.outcome_of.ensures
