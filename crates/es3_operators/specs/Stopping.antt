-- Conversions that stopped, with want of memory kept apart.
use Rattle.std.specs.Prelude.{Result, Ok, Err}
use Rattle.es3_objects.specs.declared.value.Stop.{Stop}
use Rattle.es3_objects.specs.declared.value.Stop.TheVariants as stop
use Rattle.es3_moves.specs.declared.frame.Fault.{Fault}
use Rattle.es3_moves.specs.declared.frame.Fault.TheVariants.{Number, Depth, Convert}

-- a conversion is no run, so it has no steps to spend
abbrev pub TakesNoSteps : {A : Type 0} → Result A Stop → Type 0
TakesNoSteps (Ok x) = Unit {0}
TakesNoSteps (Err stop.Number) = Unit {0}
TakesNoSteps (Err stop.Depth) = Unit {0}
TakesNoSteps (Err stop.Convert) = Unit {0}
TakesNoSteps (Err stop.Steps) = ⊥
TakesNoSteps (Err stop.Memory) = Unit {0}

abbrev pub as_stop : {A : Type 0} → Result A Fault → Result A Stop
as_stop (Ok x) = Ok x
as_stop (Err Number) = Err stop.Number
as_stop (Err Depth) = Err stop.Depth
as_stop (Err Convert) = Err stop.Convert
