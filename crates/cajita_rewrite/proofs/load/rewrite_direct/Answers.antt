use Rattle.std.proofs.Common.{◌∙◌}
use Rattle.std.proofs.lemmas.Result.{IfOk-weaker}
use Rattle.cajita_rewrite.proofs.Direct.{same_directly}
use Rattle.cajita_rewrite.proofs.load.rewrite_direct.Goals as goal

pub returns-in_default : goal.returns-in_default
returns-in_default c =
    record {
      form = IfOk-weaker c.rewrite_stmt.result _ _ (λ x h. h ∙ same_directly c.args.temporaries.now.taken c.args.statement.now c.in_default.not-Expr) c.rewrite_stmt.ensures.form;
      count = c.rewrite_stmt.ensures.count;
    }
