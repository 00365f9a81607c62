use Rattle.std.proofs.Common.{◌∙◌, arith}
use Rattle.std.proofs.lemmas.Grind.{common_steps}
use Rattle.cajita_names.proofs.Declared.{declared_switch, caught, not_caught, at_last, no_last, declared_try}
use Rattle.cajita_names.proofs.declarations.+declared.Goals as goal
use Rattle.cajita_names.proofs.declarations.+declared.Goals.{add_stmt-in-Some+in_ok-add_stmts-in-Try-2, add_stmt-in_default}

pub add_stmt-returns-in-Switch : goal.add_stmt-returns-in-Switch
add_stmt-returns-in-Switch t c = grind (arith, common_steps, declared_switch c.in-Switch.field-0 c.in-Switch.cases c.in-Switch.is)

pub add_stmt-returns-in_ok-add_stmts-in-Try-3 : goal.add_stmt-returns-in_ok-add_stmts-in-Try-3
add_stmt-returns-in_ok-add_stmts-in-Try-3 t c =
    declared_try c.in-Try.body c.in-Try.handler c.in-Try.last c.deref-in-Try.result.now _ _ c.match-handler.out _ c.in-Try.is c.deref-in-Try.ensures.value c.in_ok-add_stmts-in-Try.ensures
    (elim c.match-handler.branch [
      | add_stmt-in-Some+in_ok-add_stmts-in-Try-2 w ↦
          w.out-is
          ∙ caught _ _ w.deref-in-Some.result.now _ w.in-Some.caught w.in-Some.is w.deref-in-Some.ensures.value w.in_ok-add_stmts-in-Try-2.ensures
      | add_stmt-in_default w ↦ not_caught _ _ w.in_default.is (w.out-is)
    ])
    (at_last _ _ c.deref-in-Some-last.result.now c.in-Some-last.last c.in-Some-last.is c.deref-in-Some-last.ensures.value c.in_ok-add_stmts-in-Try-3.ensures)

pub add_stmt-returns-in_default-last : goal.add_stmt-returns-in_default-last
add_stmt-returns-in_default-last t c =
    declared_try c.in-Try.body c.in-Try.handler c.in-Try.last c.deref-in-Try.result.now _ _ c.match-handler.out _ c.in-Try.is c.deref-in-Try.ensures.value c.in_ok-add_stmts-in-Try.ensures
    (elim c.match-handler.branch [
      | add_stmt-in-Some+in_ok-add_stmts-in-Try-2 w ↦
          w.out-is
          ∙ caught _ _ w.deref-in-Some.result.now _ w.in-Some.caught w.in-Some.is w.deref-in-Some.ensures.value w.in_ok-add_stmts-in-Try-2.ensures
      | add_stmt-in_default w ↦ not_caught _ _ w.in_default.is (w.out-is)
    ])
    (no_last _ c.in_default-last.is)
