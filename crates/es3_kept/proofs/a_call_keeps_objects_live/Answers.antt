use Rattle.es3_kept.proofs.Meaning.{call_kept}
use Rattle.es3_kept.proofs.a_call_keeps_objects_live.Goals as goal

pub returns : goal.returns
returns g c = λ f this vs by s z n keeps l a b d k. call_kept keeps f this vs by s z n l a b d k
