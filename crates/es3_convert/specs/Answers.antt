-- How an answer of the program stands to what a definition gives: want of memory says nothing, and steps are never spent here.
use Rattle.std.specs.Prelude.{◌≡◌, Result, Ok, Err}
use Rattle.plans.specs.Plans.{Fault, number_fault, depth_fault, convert_fault}
use Rattle.es3_objects.specs.declared.value.Stop.{Stop}
use Rattle.es3_objects.specs.declared.value.Stop.TheVariants.{Number, Depth, Convert, Steps, Memory}

abbrev pub Answers : {A : Type 0} → Result A Stop → Result A Fault → Type 0
Answers (Ok x) r = r ≡ Ok x
Answers (Err Number) r = r ≡ Err number_fault
Answers (Err Depth) r = r ≡ Err depth_fault
Answers (Err Convert) r = r ≡ Err convert_fault
Answers (Err Steps) r = ⊥
Answers (Err Memory) r = Unit {0}
