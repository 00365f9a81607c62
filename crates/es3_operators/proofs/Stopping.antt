-- What a conversion's answer says once it has settled.
use Rattle.std.proofs.Common.{◌≡◌, Result, Ok, Err, sym}
use Rattle.plans.specs.Plans as plans
use Rattle.es3_objects.specs.declared.value.Stop.{Stop}
use Rattle.es3_objects.specs.declared.value.Stop.TheVariants as stop
use Rattle.es3_moves.specs.declared.frame.Fault.{Fault}
use Rattle.es3_moves.specs.declared.frame.Fault.TheVariants.{Number, Depth, Convert}
use Rattle.es3_convert.specs.Answers.{Answers}
use Rattle.es3_operators.specs.Given.{plain_result}
use Rattle.es3_operators.specs.Stopping.{TakesNoSteps, as_stop}

-- no answer says that the steps are spent
pub takes_no_steps : {A : Type 0} (a : Result A Stop) (r : Result A plans.Fault) → Answers a r → TakesNoSteps a
takes_no_steps (Ok x) r h = tt
takes_no_steps (Err stop.Number) r h = tt
takes_no_steps (Err stop.Depth) r h = tt
takes_no_steps (Err stop.Convert) r h = tt
takes_no_steps (Err stop.Steps) r h = h
takes_no_steps (Err stop.Memory) r h = tt

answered : {A : Type 0} (x : Result A Fault) (r : Result A plans.Fault) → Answers (as_stop x) r → plain_result x ≡ r
answered (Ok x) r h = sym h
answered (Err Number) r h = sym h
answered (Err Depth) r h = sym h
answered (Err Convert) r h = sym h

-- what has settled is what the definition gives
pub settles : {A : Type 0} (x : Result A Fault) (a : Result A Stop) (r : Result A plans.Fault) → as_stop x ≡ a → Answers a r → plain_result x ≡ r
settles x a r same h = answered x r (rw same h)
