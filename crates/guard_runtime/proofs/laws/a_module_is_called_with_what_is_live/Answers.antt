use Rattle.guard_runtime.proofs.Live.{load_module_live}
use Rattle.guard_runtime.proofs.laws.a_module_is_called_with_what_is_live.Goals as goal

pub returns : goal.returns
returns c = load_module_live
