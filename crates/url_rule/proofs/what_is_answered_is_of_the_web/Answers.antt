use Rattle.url_rule.proofs.Web.{of_the_web}
use Rattle.url_rule.proofs.what_is_answered_is_of_the_web.Goals as goal

pub returns : goal.returns
returns c = of_the_web
