-- What a run answers.
use Rattle.std.specs.Prelude.{option_map}
use Rattle.std.proofs.Common.{◌≡◌, Some, ℕ, zero, suc, ◌≤◌, refl, sym, ap, ◌∙◌, subst, arith}
use Rattle.plans.specs.Plans.{Plan, ends, stops, enter, tick, told, Language, bind, Run, over, stopped, out, run, count_of}
use Rattle.plans.proofs.Laws.{run_count}
use Rattle.es3_heap.specs.Objects.{Objects}
use Rattle.es3_language.specs.Store.{Store}
use Rattle.es3_language.specs.Natives.{Table}
use Rattle.es3_language.specs.Meaning as m
use Rattle.es3_moves.specs.Where.{plain_flow}
use Rattle.es3_moves.specs.Texts.{store_of}
use Rattle.es3_moves.specs.declared.frame.Fault.TheVariants.{Number, Depth, Convert}
use Rattle.es3_moves.specs.declared.texts.Texts.{Texts}
use Rattle.es3_machine.specs.Machine.{Started, a_program, a_call, run_started, Ran}
use Rattle.es3_machine.specs.Held.{Held, plain_start, started_of, store_in}
use Rattle.es3_machine.specs.Outcome.{ended, answer_of}
use Rattle.es3_machine.specs.declared.machine.Start.{Start}
use Rattle.es3_machine.specs.declared.engine.Outcome.{Outcome}
use Rattle.es3_machine.specs.declared.engine.Outcome.TheVariants.{Ended, Stopped, Spent}

-- the count of a run that is out of steps
abbrev out_count : {E X S : Type 0} → Run E X S → ℕ
out_count (over e s z n) = 0
out_count (stopped f s z n) = 0
out_count (out s z n) = n

-- a run is out of steps at none left
out_at_none : {T E X I S : Type 0} (L : Language T E X I S) (n : ℕ) (p : Plan T E X I) (z : S) → out_count (run L n p z) ≡ 0
out_at_none L n (ends e s) z = refl
out_at_none L n (stops f s) z = refl
out_at_none L n (told i p) z = out_at_none L n p (L.note i z)
out_at_none L zero (enter t s next) z = refl
out_at_none L (suc n) (enter t s next) z = out_at_none L n (bind (L.plan t s z) next) (L.kept t s z)
out_at_none L zero (tick s p) z = refl
out_at_none L (suc n) (tick s p) z = out_at_none L n p z

ended_left : {S : Type 0} (o : Outcome) (s : Store) (z : S) (n : ℕ) → count_of (ended o s z n) ≡ n
ended_left (Ended flow) s z n = refl
ended_left (Stopped f) s z n = refl
ended_left Spent s z n = refl

-- the plan of what is started
abbrev started_plan : Started → Store → m.Plan
started_plan (a_program p by) s = m.program_plan p by s
started_plan (a_call f this vs by) s = m.call_plan f this vs by s

started_run : {S : Type 0} (T : Table S) (x : Started) (s : Store) (z : S) (n : ℕ) → run_started T (Some x) s z n ≡ run (m.es3 T) n (started_plan x s) z
started_run T (a_program p by) s z n = refl
started_run T (a_call f this vs by) s z n = refl

-- no steps are won
pub ended_count : {S : Type 0} (T : Table S) (x : Started) (s s' : Store) (z z' : S) (o : Outcome) (n steps : ℕ) → ended o s' z' n ≡ run_started T (Some x) s z steps → n ≤ steps
ended_count T x s s' z z' o n steps e =
    let most = run_count (m.es3 T) steps (started_plan x s) z in
    let same : n ≡ count_of (run (m.es3 T) steps (started_plan x s) z) = sym (ended_left o s' z' n) ∙ ap count_of (e ∙ started_run T x s z steps) in
    subst (λ k. k ≤ steps) (sym same) most

-- a run that ended so answers so
pub ran : {S : Type 0} (T : Table S) (x : Started) (s s' : Store) (z z' : S) (o : Outcome) (n steps : ℕ) → n ≤ steps → ended o s' z' n ≡ run_started T (Some x) s z steps → Ran (answer_of o steps n) (run_started T (Some x) s z steps) steps s' z'
ran T x s s' z z' (Ended flow) n steps le e = record {
  how = plain_flow flow;
  left = n;
  run = sym e;
  came_to = refl;
  count = omega arith;
}
ran T x s s' z z' (Stopped Number) n steps le e = (n, sym e)
ran T x s s' z z' (Stopped Depth) n steps le e = (n, sym e)
ran T x s s' z z' (Stopped Convert) n steps le e = (n, sym e)
ran T x s s' z z' Spent n steps le e =
    let none : n ≡ 0 = ap out_count (e ∙ started_run T x s z steps) ∙ out_at_none (m.es3 T) steps (started_plan x s) z in
    sym e ∙ ap (out s' z') none

-- the run of what was started
pub run_of_started : {S : Type 0} (T : Table S) (k : Held) (st : Start) (x : Texts) (h : Objects) (z : S) (steps : ℕ) → k.started ≡ Some st → k.texts ≡ x → run_started T (Some (plain_start st)) (store_of h x) z steps ≡ run_started T (started_of k) (store_in h k) z steps
run_of_started T k st x h z steps some texts =
    ap (λ y. run_started T (Some (plain_start st)) (store_of h y) z steps) (sym texts)
    ∙ ap (λ o. run_started T (option_map plain_start o) (store_in h k) z steps) (sym some)
