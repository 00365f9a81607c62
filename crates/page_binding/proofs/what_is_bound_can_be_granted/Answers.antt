use Rattle.page_binding.proofs.Bind.{bound_is}
use Rattle.page_binding.proofs.what_is_bound_can_be_granted.Goals as goal

pub returns : goal.returns
returns c = bound_is
