use Rattle.cajita_page.proofs.Reaches.{pages_reach}
use Rattle.cajita_page.proofs.what_a_page_does_lies_in_reach.Goals as goal

pub returns : goal.returns
returns c = pages_reach
