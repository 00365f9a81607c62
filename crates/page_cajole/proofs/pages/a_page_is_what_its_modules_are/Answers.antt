use Rattle.page_cajole.proofs.Outcomes.{is_cajoled_page}
use Rattle.page_cajole.proofs.pages.a_page_is_what_its_modules_are.Goals as goal

pub returns : goal.returns
returns c = is_cajoled_page
