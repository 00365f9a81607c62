use Rattle.cajita_laws.proofs.Makers.{closure_is_its_makers}
use Rattle.cajita_laws.proofs.a_closure_runs_as_its_maker.Goals as goal

pub returns : goal.returns
returns c = closure_is_its_makers
