use Rattle.valija_parts.specs.Held as held
use Rattle.valija_parts.specs.Lower.{lowered_binary}
use Rattle.valija_parts.proofs.Made.{made_both}
use Rattle.valija_parts.proofs.expressions.binary.Goals as goal

pub returns : goal.returns
returns c x y n m k g i =
    made_both held.expr held.expr held.expr (lowered_binary c.args.op) c.args.left c.args.right x y n m k c.joined.result (c.in_ok-left.left, c.in_ok-left.right) c.in_ok-operator.field-0 g i c.joined.ensures c.in_ok-left.was
    (c.in_ok-operator.ensures)
