use Rattle.std.proofs.Common.{refl}
use Rattle.es3_tree.specs.Placed as placed
use Rattle.es3_tree.specs.PlacedView as source
use Rattle.valija_parts.specs.Held as held
use Rattle.valija_parts.proofs.Made.{made_one}
use Rattle.valija_lower.proofs.statement_forms.last.Goals as goal

pub returns : goal.returns
returns c x n m g =
    made_one held.stmts source.of_maybe_block placed.some_block c.args.list x n m c.in_ok-list.list _ g c.in_ok-list.was
    (refl)
