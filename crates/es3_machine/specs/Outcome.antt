-- How a run ended, and how much is left of it.
use Rattle.std.specs.Prelude.{ℕ, ◌+◌, ◌-◌, ◌*◌, ◌==◌, Bool, true, false, List, Result, Ok, Err, length}
use Rattle.plans.specs.Plans.{over, stopped, out, run, rest}
use Rattle.es3_objects.specs.declared.value.Stop.{Stop}
use Rattle.es3_objects.specs.declared.value.Stop.TheVariants as stop
use Rattle.es3_heap.specs.Objects.{Objects}
use Rattle.es3_language.specs.Store.{Store}
use Rattle.es3_language.specs.Natives.{Table}
use Rattle.es3_language.specs.Meaning.{Run, es3}
use Rattle.es3_moves.specs.Where.{plain_flow, plain_fault}
use Rattle.es3_moves.specs.Texts.{store_of}
use Rattle.es3_moves.specs.Moves.{resume, move_plan}
use Rattle.es3_moves.specs.declared.natives.Completion.{Completion}
use Rattle.es3_moves.specs.declared.frame.Fault.TheVariants.{Number, Depth, Convert}
use Rattle.es3_moves.specs.declared.frame.Frame.{Frame}
use Rattle.es3_moves.specs.declared.frame.Move.{Move}
use Rattle.es3_moves.specs.declared.frame.Move.TheVariants as move
use Rattle.es3_machine.specs.Machine.{completed}
use Rattle.es3_access.specs.Sizes.{size}
use Rattle.es3_machine.specs.declared.engine.Engine.{Engine}
use Rattle.es3_machine.specs.declared.engine.Outcome.{Outcome}
use Rattle.es3_machine.specs.declared.engine.Outcome.TheVariants.{Ended, Stopped, Spent}

-- what is left of a run: the move, and then the frames
abbrev pub whole : {S : Type 0} → Table S → List Frame → Move → Store → S → ℕ → Run S
whole T fs m s z n = run (es3 T) n (rest resume fs (move_plan m s)) z

abbrev pub ended : {S : Type 0} → Outcome → Store → S → ℕ → Run S
ended (Ended flow) s z n = over (plain_flow flow) s z n
ended (Stopped f) s z n = stopped (plain_fault f) s z n
ended Spent s z n = out s z n

-- the answer of a run that ended so
abbrev pub answer_of : Outcome → ℕ → ℕ → Result (Completion × ℕ) Stop
answer_of (Ended flow) steps left = Ok (completed (plain_flow flow), steps - left)
answer_of (Stopped Number) steps left = Err stop.Number
answer_of (Stopped Depth) steps left = Err stop.Depth
answer_of (Stopped Convert) steps left = Err stop.Convert
answer_of Spent steps left = Err stop.Steps

-- what is left of a run at a move
abbrev pub run_of : {S : Type 0} → Table S → Engine → Objects → S → Move → Run S
run_of T e h z m = whole T e.frames.items m (store_of h e.texts) z e.left

-- whether a run is over before a move: nothing waits where a node ended, a fault stops it, or a step is wanted and none is left
abbrev pub is_over : Engine → Move → Bool
is_over e (move.End flow) = length e.frames.items == 0
is_over e (move.Stop f) = true
is_over e (move.Go t) = e.left == 0
is_over e m = false

-- how such a run ended
abbrev pub outcome_of : Move → Outcome
outcome_of (move.End flow) = Ended flow
outcome_of (move.Stop f) = Stopped f
outcome_of m = Spent

-- the steps, the frames and the move, as one number
abbrev pub work : Engine → Move → ℕ
work e m = 32 * e.left + 16 * length e.frames.items + size m
