use Rattle.row_simulation.proofs.InlineWrite.{inline_write}
use Rattle.row_simulation.proofs.a_write_in_line_is_its_guard.Goals as goal

pub returns : goal.returns
returns c = inline_write
