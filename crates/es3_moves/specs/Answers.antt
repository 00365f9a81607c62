-- What a native may answer.
use Rattle.std.specs.Prelude.{◌≡◌}
use Rattle.plans.specs.Plans.{number_fault, depth_fault, convert_fault}
use Rattle.es3_objects.specs.declared.value.Stop.TheVariants.{Number, Depth, Convert, Steps, Memory}
use Rattle.es3_heap.specs.Objects.{Objects}
use Rattle.es3_language.specs.Natives.{value_reply, throw_reply, invoke_reply, stop_reply, Turn}
use Rattle.es3_moves.specs.declared.natives.Answer.{Answer}
use Rattle.es3_moves.specs.declared.natives.Answer.TheVariants.{Value, Throw, Invoke, Stop}

-- a native answers what its table says, or wants memory; it never says that the steps are spent
abbrev pub Answers : {S : Type 0} → Turn S → Answer → Objects → S → Type 0
Answers t (Value v) heap state = t ≡ record { reply = value_reply v; heap = heap; state = state }
Answers t (Throw v) heap state = t ≡ record { reply = throw_reply v; heap = heap; state = state }
Answers t (Invoke recorded f this vs) heap state = t ≡ record { reply = invoke_reply recorded f this vs.items; heap = heap; state = state }
Answers t (Stop Number) heap state = t ≡ record { reply = stop_reply number_fault; heap = heap; state = state }
Answers t (Stop Depth) heap state = t ≡ record { reply = stop_reply depth_fault; heap = heap; state = state }
Answers t (Stop Convert) heap state = t ≡ record { reply = stop_reply convert_fault; heap = heap; state = state }
Answers t (Stop Steps) heap state = ⊥
Answers t (Stop Memory) heap state = Unit {0}
