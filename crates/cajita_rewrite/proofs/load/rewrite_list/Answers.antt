use Rattle.std.proofs.Common.{true, arith}
use Rattle.cajita_tree.specs.View as view
use Rattle.cajita_rewrite.specs.Rewrite.{rewritten}
use Rattle.cajita_rewrite.proofs.Front.{one_on, all_done, stmts_in_front}
use Rattle.cajita_rewrite.proofs.Steps.{gone_on, stmts_step}
use Rattle.cajita_rewrite.proofs.load.rewrite_list.Goals as goal

pub loop-statement-preserved : goal.loop-statement-preserved
loop-statement-preserved c =
    one_on c.args.list.now c.loop-statement.statement-index c.statement-item.result c.loop-statement.invariant (omega arith) c.statement-item.is c.in_ok-push.ensures.items
    (stmts_step true c.loop-statement.temporaries.taken (view.stmt c.statement-item.result) _ c.in_ok-rewrite_direct.ensures.form c.in_ok-rewrite_direct.ensures.count) (gone_on _ _ _ c.in_ok-rewrite_direct.ensures.count)

pub returns-clause-form : goal.returns-clause-form
unfolding rewritten
returns-clause-form c = all_done c.args.list.now c.loop-statement.statement-index c.loop-statement.invariant (omega arith) (stmts_in_front c.loop-statement.done.items)
