use Rattle.html_tree.specs.Views.{trees}
use Rattle.html_reader.proofs.StackLemmas.{not_ended}
use Rattle.html_reader.proofs.reading.end.Goals as goal

pub returns-else-open-eq0 : goal.returns-else-open-eq0
returns-else-open-eq0 c = not_ended c.args.at c.args.open.now (trees c.args.here.items) c.if-open-eq0.false
