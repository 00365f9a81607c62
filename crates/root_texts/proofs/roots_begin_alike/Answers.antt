use Rattle.root_texts.proofs.Begins.{roots_begin_alike}
use Rattle.root_texts.proofs.roots_begin_alike.Goals as goal

pub returns : goal.returns
returns c = roots_begin_alike
