use Rattle.std.proofs.Common.{◌∙◌}
use Rattle.std.proofs.lemmas.Result.{IfOk-weaker}
use Rattle.es3_moves.specs.Code.{plain_expr}
use Rattle.es3_moves.specs.Where.{plain_env, plain_labels}
use Rattle.es3_statements.specs.Places.{maybe_labels}
use Rattle.es3_statements.proofs.Entering.{keys_shared}
use Rattle.es3_statements.proofs.enter.enter_for_in.Goals as goal

pub returns : goal.returns
returns c =
    let target = c.in_ok-target.target.value in
    let x = c.in_ok-x.x.value in
    let labels = plain_labels c.in_ok-labels.labels.value in
    let inner = plain_env c.in_ok-inner.inner in
    IfOk-weaker c.enter_value.result _ _ (λ m is s. is s ∙ keys_shared (plain_expr c.args.e.now.value) c.args.target.now.value target c.args.x.now.value x (maybe_labels c.args.labels) labels (plain_env c.args.env) inner s c.in_ok-target.ensures.cases c.in_ok-x.ensures.cases c.in_ok-labels.ensures c.in_ok-inner.ensures) c.enter_value.ensures
