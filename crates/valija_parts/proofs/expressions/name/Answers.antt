use Rattle.es3_tree.specs.PlacedView as source
use Rattle.cajita_names.specs.Views.{scope_of}
use Rattle.valija_parts.specs.Held as held
use Rattle.valija_parts.specs.Names as names_of
use Rattle.valija_parts.proofs.Made.{made_plain}
use Rattle.valija_parts.proofs.expressions.name.Goals as goal

pub returns : goal.returns
returns c n = made_plain held.expr (names_of.read_name (scope_of c.args.scope.now) (source.word c.args.name.now)) n c.in_ok-read_name.field-0 (c.in_ok-read_name.ensures)
