use Rattle.guard_runtime.proofs.Live.{guard_live}
use Rattle.guard_runtime.proofs.laws.what_a_guard_comes_to_is_live.Goals as goal

pub returns : goal.returns
returns c = guard_live
