use Rattle.deed_laws.proofs.Deeds.{deed_is_of_root}
use Rattle.deed_laws.proofs.deeds_are_of_their_root.Goals as goal

pub returns : goal.returns
returns c = deed_is_of_root
