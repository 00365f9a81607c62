use Rattle.std.proofs.Common.{refl}
use Rattle.es3_tree.specs.Placed as placed
use Rattle.es3_tree.specs.PlacedView as source
use Rattle.valija_parts.specs.Held as held
use Rattle.valija_parts.proofs.Made.{made_one}
use Rattle.valija_lower.proofs.statement_forms.otherwise.Goals as goal

pub returns : goal.returns
returns c x n m g =
    made_one held.stmt source.of_maybe_stmt placed.some_stmt c.args.statement x n m c.in_ok-statement.statement _ g c.in_ok-statement.was
    (refl)
