use Rattle.node_rows.proofs.Events.{input_is_seen, listeners_are_seen}
use Rattle.node_rows.proofs.events_are_seen.Goals as goal

pub returns : goal.returns
returns c = record { input = input_is_seen; listeners = listeners_are_seen }
