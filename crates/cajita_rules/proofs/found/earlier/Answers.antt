use Rattle.cajita_rules.proofs.Order.{of_parts}
use Rattle.cajita_rules.proofs.found.earlier.Goals as goal

pub returns : goal.returns
returns c = of_parts _ _ _ c.in_ok-front.was c.in_ok-behind.was c.picked.ensures
