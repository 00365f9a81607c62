use Rattle.es3_kept.proofs.Meaning.{program_kept}
use Rattle.es3_kept.proofs.a_program_keeps_objects_live.Goals as goal

pub returns : goal.returns
returns g c = λ p by s z n keeps l f. program_kept keeps p by s z n l f
