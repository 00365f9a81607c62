use Rattle.valija_parts.specs.Held as held
use Rattle.valija_parts.proofs.Made.{made_whole}
use Rattle.valija_parts.proofs.expressions.function.Goals as goal

pub returns : goal.returns
returns c x n g = made_whole held.expr x n c.args.function g
