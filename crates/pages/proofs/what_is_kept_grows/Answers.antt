-- The contract is the growth of the left side.
use Rattle.pages.proofs.Steady as steady
use Rattle.pages.proofs.what_is_kept_grows.Goals as goal

pub returns : goal.returns
returns g c = let p = g.P.PageBesidePage.pages in steady.page_grows p.left p.sides.Longer p.grows
