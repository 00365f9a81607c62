use Rattle.row_simulation.proofs.InlineRead.{inline_read}
use Rattle.row_simulation.proofs.a_read_in_line_is_its_guard.Goals as goal

pub returns : goal.returns
returns c = inline_read
