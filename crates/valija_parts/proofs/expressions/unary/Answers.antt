use Rattle.cajita_names.specs.Views.{scope_of}
use Rattle.valija_parts.specs.Held as held
use Rattle.valija_parts.specs.Places as wanted
use Rattle.valija_parts.specs.Views.{place_of}
use Rattle.valija_parts.proofs.Made.{made_one}
use Rattle.valija_parts.proofs.expressions.unary.Goals as goal

pub returns : goal.returns
returns c x n m g =
    made_one place_of held.expr (wanted.prefixed (scope_of c.args.scope.now) c.args.op) c.args.operand x n m c.in_ok-operand.operand c.in_ok-prefixed.field-0 g c.in_ok-operand.was
    (c.in_ok-prefixed.ensures)
