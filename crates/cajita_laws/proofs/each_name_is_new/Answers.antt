use Rattle.cajita_laws.proofs.Told.{each_new}
use Rattle.cajita_laws.proofs.each_name_is_new.Goals as goal

pub returns : goal.returns
returns c = each_new
