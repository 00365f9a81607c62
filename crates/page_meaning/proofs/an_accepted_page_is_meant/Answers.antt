-- The contract is the lemma.
use Rattle.page_meaning.proofs.Meant.{is_meant}
use Rattle.page_meaning.proofs.an_accepted_page_is_meant.Goals as goal

pub returns : goal.returns
returns c = is_meant
