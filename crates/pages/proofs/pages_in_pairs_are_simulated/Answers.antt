-- The contract is the law of a page.
use Rattle.pages.proofs.Whole as whole
use Rattle.pages.proofs.pages_in_pairs_are_simulated.Goals as goal

pub returns : goal.returns
returns g c = whole.page_simulated g.P.PageBesidePage.pages
