use Rattle.std.proofs.Common.{arith}
use Rattle.std.proofs.lemmas.Grind.{common_steps}
use Rattle.es3_hoisting.proofs.Declared.{function_pushed}
use Rattle.es3_hoisting.proofs.functions.push_function.Goals as goal

pub returns-in_ok-push : goal.returns-in_ok-push
returns-in_ok-push c = function_pushed _ _ c.in-Function.function c.in_ok-clone.field-0 c.args.s.now (grind (arith, common_steps)) (grind (arith, common_steps)) (grind (arith, common_steps))
