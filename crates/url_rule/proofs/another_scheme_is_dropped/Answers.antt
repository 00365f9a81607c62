use Rattle.url_rule.proofs.Web.{dropped, baseless}
use Rattle.url_rule.proofs.another_scheme_is_dropped.Goals as goal

pub returns-clause-dropped : goal.returns-clause-dropped
returns-clause-dropped c = dropped

pub returns-clause-baseless : goal.returns-clause-baseless
returns-clause-baseless c = baseless
