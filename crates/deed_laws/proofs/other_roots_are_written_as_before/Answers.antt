use Rattle.deed_laws.proofs.Printed.{others_stay}
use Rattle.deed_laws.proofs.other_roots_are_written_as_before.Goals as goal

pub returns : goal.returns
returns c = others_stay
