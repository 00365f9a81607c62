use Rattle.std.proofs.Common.{refl, sym, ap, ◌∙◌, arith}
use Rattle.std.proofs.lemmas.Result.{on_ok_weaker}
use Rattle.cajita_tree.specs.Tree as tree
use Rattle.cajita_tree.specs.View as source
use Rattle.cajita_tree.proofs.Rows.{view_switch}
use Rattle.cajita_rewrite.specs.Rewrite.{declared}
use Rattle.cajita_rewrite.specs.Table.{with_all}
use Rattle.cajita_rewrite.proofs.Names.{added-turn}
use Rattle.cajita_rewrite.proofs.declared.+declared.Goals as goal

pub add_declared-loop-statement-preserved : goal.add_declared-loop-statement-preserved
add_declared-loop-statement-preserved t c =
    added-turn (λ l. declared tree.stmts (source.of_stmts l)) (declared tree.stmt (source.stmt c.statement-item.result)) c.args.list.now c.loop-statement.statement-index c.statement-item.result _ _ (omega arith) c.statement-item.is refl
    c.in_ok-add_stmt.ensures
    ∙ c.loop-statement.invariant

pub add_cases-loop-case-preserved : goal.add_cases-loop-case-preserved
add_cases-loop-case-preserved t c =
    added-turn (λ l. declared tree.cases (source.of_cases l)) (declared tree.stmts (source.of_stmts c.case-item.result.body.items)) c.args.cases.now c.loop-case.case-index c.case-item.result _ _ (omega arith) c.case-item.is refl
    (c.in_ok-add_declared.ensures ∙ ap (λ l. with_all c.loop-case.names (declared tree.stmts (source.of_stmts l))) c.deref.ensures.value)
    ∙ c.loop-case.invariant

pub add_stmt-returns-in-Switch : goal.add_stmt-returns-in-Switch
add_stmt-returns-in-Switch t c =
    on_ok_weaker c.add_cases.result
    (λ done.
    done
    ∙ ap (λ l. with_all c.args.names.now (declared tree.cases (source.of_cases l))) c.deref-in-Switch.ensures.value
    ∙ ap (λ s. with_all c.args.names.now (declared tree.stmt s)) (sym (ap source.stmt c.in-Switch.is ∙ view_switch _ c.in-Switch.cases)))
    c.add_cases.ensures
