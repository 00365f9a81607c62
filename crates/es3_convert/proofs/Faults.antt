-- Faults of conversions that follow one another.
use Rattle.std.proofs.Common.{Result, Err, refl}
use Rattle.plans.specs.Plans.{Fault}
use Rattle.es3_objects.specs.declared.value.Stop.{Stop}
use Rattle.es3_objects.specs.declared.value.Stop.TheVariants.{Number, Depth, Convert, Steps, Memory}
use Rattle.es3_convert.specs.Answers.{Answers}
use Rattle.es3_convert.specs.Conversions.{and_then}

-- a fault of the first conversion is the fault of both
pub and_then-fault : {A B : Type 0} (e : Stop) (first : Result A Fault) (go : A → Result B Fault) → Answers {A = A} (Err e) first → Answers {A = B} (Err e) (and_then first go)
and_then-fault Number first go h = rw h refl
and_then-fault Depth first go h = rw h refl
and_then-fault Convert first go h = rw h refl
and_then-fault Steps first go h = h
and_then-fault Memory first go h = h
