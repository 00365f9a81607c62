use Rattle.cajita_names.specs.Views.{scope_of}
use Rattle.valija_parts.specs.Held as held
use Rattle.valija_parts.specs.Places as wanted
use Rattle.valija_parts.specs.Views.{place_of}
use Rattle.valija_parts.proofs.Made.{made_both}
use Rattle.valija_parts.proofs.expressions.call.Goals as goal

pub returns : goal.returns
returns c x y n m k g i =
    made_both place_of held.exprs held.expr (wanted.called (scope_of c.args.scope.now)) c.args.callee c.args.arguments x y n m k c.joined.result (c.in_ok-callee.callee, c.in_ok-callee.arguments) c.in_ok-called.field-0 g i c.joined.ensures c.in_ok-callee.was
    (c.in_ok-called.ensures)
