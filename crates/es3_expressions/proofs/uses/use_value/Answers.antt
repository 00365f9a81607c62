use Rattle.std.proofs.Common.{sym, ap}
use Rattle.es3_language.specs.Expressions as e
use Rattle.es3_moves.specs.Code.{plain_expr}
use Rattle.es3_moves.specs.Where.{plain_env}
use Rattle.es3_moves.specs.Texts.{store_of}
use Rattle.es3_moves.specs.Moves.{use_plan}
use Rattle.es3_expressions.proofs.Entered.{at_store}
use Rattle.es3_expressions.proofs.uses.use_value.Goals as goal

pub returns-in-IndexValueBase-clause-plan : goal.returns-in-IndexValueBase-clause-plan
returns-in-IndexValueBase-clause-plan c =
    let s = store_of c.args.h.now c.args.texts.now in
    at_store c.index_value_base.result (e.index_value_base (plain_expr c.in-IndexValueBase.key.value) (plain_env c.in-IndexValueBase.env) c.args.v) (use_plan c.args.then c.args.v s) s (ap (λ k. use_plan k c.args.v s) (sym c.in-IndexValueBase.is)) c.index_value_base.ensures.plan
