use Rattle.std.proofs.Common.{arith}
use Rattle.std.proofs.lemmas.Grind.{common_steps}
use Rattle.std.proofs.lemmas.Result.{on_ok_weaker}
use Rattle.es3_moves.proofs.Rows.{view_block, view_var}
use Rattle.es3_hoisting.proofs.Declared.{switch_pushed, of_try}
use Rattle.es3_hoisting.proofs.vars.+declares.Goals as goal

pub push_stmt-returns-in-Block : goal.push_stmt-returns-in-Block
push_stmt-returns-in-Block t c = grind (arith, common_steps, view_block)

pub push_stmt-returns-in-Var : goal.push_stmt-returns-in-Var
push_stmt-returns-in-Var t c = grind (arith, common_steps, view_var)

pub push_stmt-returns-in-Switch : goal.push_stmt-returns-in-Switch
push_stmt-returns-in-Switch t c = on_ok_weaker c.push_cases.result (λ is. switch_pushed _ _ c.in-Switch.field-0 c.in-Switch.cases c.args.s.now c.deref-in-Switch-2.result.now (cc) (grind (arith, common_steps)) is) c.push_cases.ensures

pub push_stmt-returns-in_ok-push_handler-in-Try : goal.push_stmt-returns-in_ok-push_handler-in-Try
push_stmt-returns-in_ok-push_handler-in-Try t c = let e = of_try c.in-Try.body c.in-Try.handler c.in-Try.last in grind (arith, common_steps)
