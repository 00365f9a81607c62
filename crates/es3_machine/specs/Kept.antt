-- What a run leaves names live objects alone.
use Rattle.std.specs.Prelude.{ℕ, Option, Some, None, Result, Ok, Err, All, length}
use Rattle.es3_objects.specs.declared.value.Stop.{Stop}
use Rattle.es3_objects.specs.declared.value.Stop.TheVariants.{Memory}
use Rattle.es3_heap.specs.Objects.{Objects}
use Rattle.es3_language.specs.Store.{Store}
use Rattle.es3_live.specs.Live.{IsLive}
use Rattle.es3_moves.specs.declared.natives.Completion.{Completion}
use Rattle.es3_moves.specs.declared.natives.Completion.TheVariants.{Normal, Thrown}
use Rattle.es3_kept.specs.Kept.{KeptStore}
use Rattle.es3_machine.specs.Machine.{Started, a_program, a_call}

-- what was started, where there are so many objects: a program names none, and a call a live function, a live receiver and live arguments
abbrev pub LiveStart : ℕ → Option Started → Type 0
LiveStart n None = Unit {0}
LiveStart n (Some (a_program p by)) = Unit {0}
LiveStart n (Some (a_call f this vs by)) = IsLive n f × IsLive n this × All (IsLive n) vs

abbrev pub LiveCompletion : ℕ → Completion → Type 0
LiveCompletion n (Normal v) = IsLive n v
LiveCompletion n (Thrown v) = IsLive n v

-- after a run that began with objects h: what it came to is live, the store names live objects alone, none of h is gone, and what natives keep fits still.
-- Where memory is wanting, nothing is said
abbrev pub LeavesLive : {S : Type 0} → (S → Objects → Type 0) → Objects → Result (Completion × ℕ) Stop → Store → S → Type 0
LeavesLive fits h (Ok (c, taken)) s z = LiveCompletion (length s.heap.list) c × KeptStore fits h s z
LeavesLive fits h (Err Memory) s z = Unit {0}
LeavesLive fits h (Err e) s z = KeptStore fits h s z
