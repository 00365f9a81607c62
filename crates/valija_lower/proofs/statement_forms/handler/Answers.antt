use Rattle.std.proofs.Common.{ap}
use Rattle.es3_tree.specs.Placed as placed
use Rattle.es3_tree.specs.PlacedView as source
use Rattle.valija_forms.specs.Forms as forms
use Rattle.valija_parts.specs.Held as held
use Rattle.valija_parts.proofs.Made.{made_one}
use Rattle.valija_lower.proofs.statement_forms.handler.Goals as goal

pub returns : goal.returns
returns c x n m g =
    made_one held.stmts source.of_handler (placed.some_handler (forms.word c.args.name.now.text)) c.args.caught x n m c.in_ok-caught.caught _ g c.in_ok-caught.was
    (ap (λ w. placed.some_handler w (source.of_stmts c.in_ok-caught.caught.items)) c.in_ok-copied.ensures)
