use Rattle.builtin_core.proofs.Numbers.{comes, text_from-is}
use Rattle.builtin_core.proofs.convert.text_from.Goals as goal

pub returns : goal.returns
returns c = comes _ c.first_text.result c.outcome_of.result _ c.args.h.now (text_from-is c.args.by c.args.this.now c.args.args.now c.args.h.now) c.first_text.ensures c.outcome_of.ensures
