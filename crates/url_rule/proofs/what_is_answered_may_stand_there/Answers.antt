use Rattle.url_rule.proofs.Shown.{shown, of_chars}
use Rattle.url_rule.proofs.what_is_answered_may_stand_there.Goals as goal

pub returns-clause-shown : goal.returns-clause-shown
returns-clause-shown c = shown

pub returns-clause-characters : goal.returns-clause-characters
returns-clause-characters c = of_chars
