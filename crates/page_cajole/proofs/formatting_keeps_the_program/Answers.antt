use Rattle.page_cajole.proofs.Formats.{is_formatted}
use Rattle.page_cajole.proofs.formatting_keeps_the_program.Goals as goal

pub returns : goal.returns
returns c = is_formatted
