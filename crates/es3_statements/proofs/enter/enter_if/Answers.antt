use Rattle.std.proofs.Common.{◌∙◌}
use Rattle.std.proofs.lemmas.Result.{IfOk-weaker}
use Rattle.es3_moves.specs.Code.{maybe_stmt, plain_expr}
use Rattle.es3_moves.specs.Where.{plain_env}
use Rattle.es3_statements.proofs.Entering.{sides_shared}
use Rattle.es3_statements.proofs.enter.enter_if.Goals as goal

pub returns : goal.returns
returns c =
    let other = maybe_stmt c.in_ok-other.other in
    let inner = plain_env c.in_ok-inner.inner in
    IfOk-weaker c.enter_value.result _ _ (λ m is ls s. is s ∙ sides_shared (plain_expr c.args.e.now.value) c.args.x.now.value c.in_ok-x.x.value (maybe_stmt c.args.other.now) other (plain_env c.args.env) inner s c.in_ok-x.ensures.cases c.in_ok-other.ensures c.in_ok-inner.ensures) c.enter_value.ensures
