use Rattle.es3_labels.proofs.Order.{of_parts}
use Rattle.es3_labels.proofs.walk.earlier.Goals as goal

pub returns-clause-of_parts : goal.returns-clause-of_parts
returns-clause-of_parts c = λ ms ns f g. of_parts _ _ _ ms ns c.picked.ensures f g
