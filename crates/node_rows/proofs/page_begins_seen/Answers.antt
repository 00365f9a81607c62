use Rattle.node_rows.proofs.Begun.{page_begins_seen}
use Rattle.node_rows.proofs.page_begins_seen.Goals as goal

pub returns : goal.returns
returns c = page_begins_seen
