use Rattle.url_answers.proofs.OfWeb.{kept_of_web}
use Rattle.url_answers.proofs.what_is_kept_leads_to_the_web.Goals as goal

pub returns : goal.returns
returns c = kept_of_web
