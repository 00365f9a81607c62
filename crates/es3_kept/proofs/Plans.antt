-- Plans that name live objects alone, whatever the parts that they enter end in, and what running them leaves.
use Rattle.std.proofs.Common.{ℕ, zero, suc, length}
use Rattle.plans.specs.Plans.{ends, stops, enter, tick, told, bind, over, stopped, out, run}
use Rattle.es3_heap.specs.Objects.{Objects}
use Rattle.es3_language.specs.Natives.{Table}
use Rattle.es3_language.specs.Store.{Store}
use Rattle.es3_language.specs.Tasks.{Completion, Task, Plan, Run}
use Rattle.es3_language.specs.Meaning.{task_plan, task_state, es3}
use Rattle.es3_live.specs.Live.{Later}
use Rattle.es3_live.specs.Runs.{LiveStore, LiveEnding, LiveTask}
use Rattle.es3_live.specs.Keeps.{KeepsLive}
use Rattle.es3_kept.specs.Kept.{KeptStore, KeptRun}
use Rattle.es3_live.proofs.Growth.{later_trans}
use Rattle.es3_kept.proofs.Next.{Next, next_earlier}

-- a plan, where objects h are behind it
abbrev pub LivePlan : Objects → Plan → Type 0
LivePlan h (ends e s) = LiveEnding (length s.heap.list) e × Next h s
LivePlan h (stops f s) = Next h s
LivePlan h (enter t s next) = LiveTask (length s.heap.list) t × Next h s × ((e : Completion) (s' : Store) → Next s.heap s' → LiveEnding (length s'.heap.list) e → LivePlan s'.heap (next e s'))
LivePlan h (tick s p) = Next h s × LivePlan h p
LivePlan h (told i p) = LivePlan h p

-- what follows an ending, where objects h were behind what ended so
abbrev pub Follows : Objects → (Completion → Store → Plan) → Type 0
Follows h next = (e : Completion) (s : Store) → Next h s → LiveEnding (length s.heap.list) e → LivePlan s.heap (next e s)

pub earlier : {h h' : Objects} (p : Plan) → Later h h' → LivePlan h' p → LivePlan h p
earlier (ends e s) later l = (l.0, next_earlier s later l.1)
earlier (stops f s) later l = next_earlier s later l
earlier (enter t s next) later l = (l.0, next_earlier s later l.1, l.2)
earlier (tick s p) later l = (next_earlier s later l.0, earlier p later l.1)
earlier (told i p) later l = earlier p later l

pub bind_live : {h : Objects} (p : Plan) (k : Completion → Store → Plan) → LivePlan h p → Follows h k → LivePlan h (bind p k)
bind_live (ends e s) k l f = earlier (k e s) l.1.later (f e s l.1 l.0)
bind_live (stops g s) k l f = l
bind_live (enter t s next) k l f =
    (l.0, l.1, λ e s' n a. bind_live (next e s') k (l.2 e s' n a) (λ e' s'' n' a'. f e' s'' (next_earlier s'' (later_trans l.1.later n.later) n') a'))
bind_live (tick s p) k l f = (l.0, bind_live p k l.1 f)
bind_live (told i p) k l f = bind_live p k l f

-- a task's plan, and what natives keep once it is entered
pub record LiveMeaning {S : Type 0} (fits : S → Objects → Type 0) (T : Table S) (t : Task) (s : Store) (z : S) : Type 0 where
  pub heap : Objects
  pub later : Later s.heap heap
  pub plan : LivePlan heap (task_plan T t s z)
  pub kept : fits (task_state T t s z) heap

kept_earlier : {S : Type 0} {fits : S → Objects → Type 0} {h h' : Objects} (s : Store) (z : S) → Later h h' → KeptStore fits h' s z → KeptStore fits h s z
kept_earlier s z later k = record { store = k.store; later = later_trans later k.later; kept = k.kept }

run_earlier : {S : Type 0} (fits : S → Objects → Type 0) {h h' : Objects} (r : Run S) → Later h h' → KeptRun fits h' r → KeptRun fits h r
run_earlier fits (over e s z n) later k = (k.0, kept_earlier s z later k.1)
run_earlier fits (stopped f s z n) later k = kept_earlier s z later k
run_earlier fits (out s z n) later k = kept_earlier s z later k

module _ {S : Type 0} {fits : S → Objects → Type 0} {T : Table S} (keeps : KeepsLive fits T) (meaning : (t : Task) (s : Store) (z : S) → LiveStore s → LiveTask (length s.heap.list) t → fits z s.heap → LiveMeaning fits T t s z) where
  here : {h : Objects} (s : Store) (z : S) → Next h s → fits z h → KeptStore fits h s z
  here {h = h} s z n f = record { store = n.store; later = n.later; kept = keeps.later h s.heap z f n.later }

  pub run_live : (n : ℕ) (p : Plan) (h : Objects) (z : S) → LivePlan h p → fits z h → KeptRun fits h (run (es3 T) n p z)
  run_live n (ends e s) h z l f = (l.0, here s z l.1 f)
  run_live n (stops g s) h z l f = here s z l f
  run_live n (told i p) h z l f = run_live n p h (T.touch i z) l (keeps.touched i h z f)
  run_live zero (enter t s next) h z l f = here s z l.1 f
  run_live (suc n) (enter t s next) h z l f =
      let m = meaning t s z l.1.store l.0 (keeps.later h s.heap z f l.1.later) in
      run_earlier fits (run (es3 T) n (bind (task_plan T t s z) next) (task_state T t s z)) (later_trans l.1.later m.later)
      (run_live n (bind (task_plan T t s z) next) m.heap (task_state T t s z) (bind_live (task_plan T t s z) next m.plan (λ e s' a. l.2 e s' (next_earlier s' m.later a))) m.kept)
  run_live zero (tick s p) h z l f = here s z l.0 f
  run_live (suc n) (tick s p) h z l f = run_live n p h z l.1 f
