use Rattle.cajita_laws.proofs.Told.{grant_is_had}
use Rattle.cajita_laws.proofs.what_is_granted_is_had.Goals as goal

pub returns : goal.returns
returns c = grant_is_had
