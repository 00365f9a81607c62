use Rattle.std.proofs.Common.{ap}
use Rattle.es3_tree.specs.Tree as t
use Rattle.es3_moves.specs.Code.{plain_expr}
use Rattle.es3_moves.specs.Where.{plain_env}
use Rattle.es3_moves.specs.Texts.{store_of}
use Rattle.es3_expressions.proofs.Entered.{targeted}
use Rattle.es3_expressions.proofs.targets.enter_target.Goals as goal

pub returns-in-Dot-clause-plan : goal.returns-in-Dot-clause-plan
returns-in-Dot-clause-plan c =
    targeted c.target_dot.result c.args.code.now (t.dot (plain_expr c.in-Dot.base.value) c.in-Dot.key.value) (plain_env c.args.env) (store_of c.args.h.now c.args.texts.now) (ap plain_expr c.in-Dot.is) c.target_dot.ensures

pub returns-in-Index-clause-plan : goal.returns-in-Index-clause-plan
returns-in-Index-clause-plan c =
    targeted c.target_index.result c.args.code.now (t.index (plain_expr c.in-Index.base.value) (plain_expr c.in-Index.key.value)) (plain_env c.args.env) (store_of c.args.h.now c.args.texts.now) (ap plain_expr c.in-Index.is) c.target_index.ensures
