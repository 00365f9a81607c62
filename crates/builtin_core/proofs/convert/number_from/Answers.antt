use Rattle.builtin_core.proofs.Numbers.{comes, number_from-is}
use Rattle.builtin_core.proofs.convert.number_from.Goals as goal

pub returns : goal.returns
returns c = comes _ c.first_number.result c.outcome_of.result _ c.args.h.now (number_from-is c.args.by c.args.this.now c.args.args.now c.args.h.now) c.first_number.ensures c.outcome_of.ensures
