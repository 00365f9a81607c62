-- An outcome of a conversion's answer comes to what is told of it.
use Rattle.std.proofs.Common.{◌≡◌, Result, Ok, Err, refl}
use Rattle.plans.specs.Plans.{Fault}
use Rattle.es3_objects.specs.declared.value.Value.{Value}
use Rattle.es3_objects.specs.declared.value.Stop.{Stop}
use Rattle.es3_objects.specs.declared.value.Stop.TheVariants as stop
use Rattle.es3_heap.specs.Objects.{Objects}
use Rattle.es3_convert.specs.Answers.{Answers}
use Rattle.row_outcomes.specs.declared.Outcome.{Outcome}
use Rattle.row_outcomes.specs.Comes.{Comes}
use Rattle.row_outcomes.specs.Arguments.{told, outcome_of}

pub told_comes : (a : Result Value Stop) (r : Result Outcome Stop) (answer : Result Value Fault) (h : Objects) → Answers a answer → r ≡ outcome_of a → Comes (told answer h) r h
told_comes (Ok x) r answer h is same = rw (same, is) (refl, refl)
told_comes (Err stop.Number) r answer h is same = rw (same, is) (refl, refl)
told_comes (Err stop.Depth) r answer h is same = rw (same, is) (refl, refl)
told_comes (Err stop.Convert) r answer h is same = rw (same, is) (refl, refl)
told_comes (Err stop.Steps) r answer h is same = absurd is
told_comes (Err stop.Memory) r answer h is same = rw same tt
