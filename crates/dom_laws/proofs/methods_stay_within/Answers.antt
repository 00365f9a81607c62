use Rattle.dom_laws.proofs.Roots.{methods_stay_within}
use Rattle.dom_laws.proofs.methods_stay_within.Goals as goal

pub returns : goal.returns
returns c = methods_stay_within
