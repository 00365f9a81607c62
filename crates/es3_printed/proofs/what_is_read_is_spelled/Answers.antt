use Rattle.es3_printed.proofs.ReadBack.{spelled_where_read}
use Rattle.es3_printed.proofs.what_is_read_is_spelled.Goals as goal

pub returns : goal.returns
returns c = spelled_where_read
