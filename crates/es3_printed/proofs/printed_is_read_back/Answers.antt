use Rattle.es3_printed.proofs.ReadBack.{read_back}
use Rattle.es3_printed.proofs.printed_is_read_back.Goals as goal

pub returns : goal.returns
returns c = read_back
