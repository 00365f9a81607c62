use Rattle.page_simulation.proofs.Theorem.{correct}
use Rattle.page_simulation.proofs.a_page_does_what_its_sources_do.Goals as goal

pub returns : goal.returns
returns c = correct
