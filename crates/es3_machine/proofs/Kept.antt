-- What a run leaves names live objects alone.
use Rattle.std.proofs.Common.{◌≡◌, ℕ, List, Option, Some, None, Result, Ok, Err, length, subst}
use Rattle.plans.specs.Plans.{over}
use Rattle.es3_objects.specs.declared.value.Value.{Value}
use Rattle.es3_objects.specs.declared.value.Stop.{Stop}
use Rattle.es3_objects.specs.declared.value.Stop.TheVariants as stop
use Rattle.es3_heap.specs.Objects.{Objects}
use Rattle.es3_language.specs.Store.{Store}
use Rattle.es3_language.specs.Natives.{Table}
use Rattle.es3_language.specs.Meaning.{Completion as PlainCompletion, gave, found, normal, broke, continued, returned, threw, Run}
use Rattle.es3_live.specs.Runs.{IsLiveOrNone, LiveStore, LiveEnding}
use Rattle.es3_live.specs.Keeps.{KeepsLive}
use Rattle.es3_live.proofs.Growth.{later_refl}
use Rattle.es3_moves.specs.declared.natives.Completion.{Completion}
use Rattle.es3_kept.specs.Kept.{KeptRun, KeptStore}
use Rattle.es3_kept.proofs.Meaning.{program_kept, call_kept}
use Rattle.es3_machine.specs.Machine.{Started, a_program, a_call, completed, value_or_undefined, run_started, Ran, Completes}
use Rattle.es3_machine.specs.Kept.{LiveStart, LiveCompletion, LeavesLive}

module _ {S : Type 0} {fits : S → Objects → Type 0} {T : Table S} (keeps : KeepsLive fits T) where
  pub started_kept : (x : Option Started) (s : Store) (z : S) (n : ℕ) → LiveStore s → fits z s.heap → LiveStart (length s.heap.list) x → KeptRun fits s.heap (run_started T x s z n)
  started_kept None s z n live fit start = (tt, record { store = live; later = later_refl s.heap; kept = fit })
  started_kept (Some (a_program p by)) s z n live fit start = program_kept keeps p by s z n live fit
  started_kept (Some (a_call f this vs by)) s z n live fit start = call_kept keeps f this vs by s z n live start.0 start.1 start.2 fit

value_live : (n : ℕ) (v : Option Value) → IsLiveOrNone n v → LiveCompletion n (value_or_undefined v)
value_live n None live = tt
value_live n (Some v) live = live

completed_live : (n : ℕ) (e : PlainCompletion) → LiveEnding n e → LiveCompletion n (completed e)
completed_live n (gave v) live = live
completed_live n (found r) live = tt
completed_live n (normal v) live = value_live n v live
completed_live n (broke l v) live = value_live n v live
completed_live n (continued l v) live = value_live n v live
completed_live n (returned v) live = live
completed_live n (threw v) live = live

-- an answer that tells of a run that leaves live objects does so too
pub told_kept : {S : Type 0} (fits : S → Objects → Type 0) (h : Objects) (answer : Result (Completion × ℕ) Stop) (r : Run S) (steps : ℕ) (s : Store) (z : S)
    → Ran answer r steps s z → KeptRun fits h r → LeavesLive fits h answer s z
told_kept fits h (Ok (c, taken)) r steps s z told kept =
    let both = subst (KeptRun fits h) told.run kept in
    (subst (LiveCompletion (length s.heap.list)) told.came_to (completed_live (length s.heap.list) told.how both.0), both.1)
told_kept fits h (Err stop.Number) r steps s z told kept = subst (KeptRun fits h) told.1 kept
told_kept fits h (Err stop.Depth) r steps s z told kept = subst (KeptRun fits h) told.1 kept
told_kept fits h (Err stop.Convert) r steps s z told kept = subst (KeptRun fits h) told.1 kept
told_kept fits h (Err stop.Steps) r steps s z told kept = subst (KeptRun fits h) told kept
told_kept fits h (Err stop.Memory) r steps s z told kept = tt
