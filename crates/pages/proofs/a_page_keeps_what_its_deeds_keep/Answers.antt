-- The contract is the law of what is kept.
use Rattle.pages.proofs.Kept as kept
use Rattle.pages.proofs.a_page_keeps_what_its_deeds_keep.Goals as goal

pub returns-clause-at_its_end : goal.returns-clause-at_its_end
returns-clause-at_its_end g c = kept.page_keeps g.K.KeepingPage.keeping

pub returns-clause-wherever_it_is_left : goal.returns-clause-wherever_it_is_left
returns-clause-wherever_it_is_left g c = kept.page_keeps_cut g.K.KeepingPage.keeping
