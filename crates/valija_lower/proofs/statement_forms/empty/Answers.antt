use Rattle.std.proofs.Common.{ap}
use Rattle.es3_tree.specs.Placed as placed
use Rattle.es3_tree.specs.PlacedView as source
use Rattle.valija_parts.specs.Held as held
use Rattle.valija_parts.proofs.Made.{made_plain}
use Rattle.valija_lower.proofs.statement_forms.empty.Goals as goal

pub returns : goal.returns
returns c n = made_plain held.stmt placed.empty n c.in_ok-boxed.field-0 (ap source.stmt c.in_ok-boxed.ensures)
