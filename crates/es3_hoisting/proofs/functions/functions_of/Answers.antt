use Rattle.std.proofs.Common.{arith}
use Rattle.std.proofs.lemmas.Grind.{common_steps}
use Rattle.es3_moves.specs.Texts.{funcs_of}
use Rattle.es3_hoisting.proofs.Declared.{functions_more}
use Rattle.es3_hoisting.proofs.functions.functions_of.Goals as goal

pub loop-s-preserved : goal.loop-s-preserved
loop-s-preserved c = functions_more c.args.body.now c.loop-s.s-index c.s-item.result (funcs_of c.loop-s.functions.items) (funcs_of c.push_function.new.functions.items) _ (grind (arith, common_steps)) c.s-item.is (grind (arith, common_steps)) c.loop-s.invariant
