use Rattle.std.proofs.Common.{sym}
use Rattle.html_reader.proofs.StackLemmas.{ends, last_name}
use Rattle.html_reader.proofs.reading.innermost.Goals as goal

pub returns-in-Some : goal.returns-in-Some
returns-in-Some c = last_name _ _ (ends c.args.open.now _ (sym c.in-Some.ensures.value))
