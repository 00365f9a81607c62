use Rattle.std.proofs.Common.{arith}
use Rattle.std.proofs.lemmas.Grind.{common_steps}
use Rattle.es3_moves.proofs.Rows.{view_try}
use Rattle.es3_loading.proofs.parts.try_of.Goals as goal

pub returns : goal.returns
returns c = let e = view_try c.args.body c.args.handler c.args.last in grind (arith, common_steps)
