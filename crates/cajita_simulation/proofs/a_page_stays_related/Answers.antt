use Rattle.cajita_simulation.proofs.Sentences.{telling, one_more}
use Rattle.cajita_simulation.proofs.a_page_stays_related.Goals as goal

pub returns-clause-telling : goal.returns-clause-telling
returns-clause-telling c = telling

pub returns-clause-doing : goal.returns-clause-doing
returns-clause-doing c = one_more
