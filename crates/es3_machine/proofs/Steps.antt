-- One move of the machine leaves the rest of the run as it is, unless memory is wanting.
use Rattle.std.proofs.Common.{◌≡◌, ◌==◌, true, false, ◌+◌, ◌*◌, Result, Ok, Err, IfOk, OnOk, length, Box, Global, ℕ, zero, suc, ◌-◌, ◌<◌, List, [], ◌∷◌, ◌++◌, refl, sym, ap, ◌∙◌, arith}
use Rattle.caja_units.specs.declared.Memory.{Memory}
use Rattle.plans.specs.Plans.{ends, enter, bind, out, over, run, rest}
use Rattle.plans.proofs.Frames.{rest_push, rest_stops, rest_told, step_out, step_go, step_into, step_enter}
use Rattle.es3_heap.specs.Objects.{Objects}
use Rattle.es3_language.specs.Store.{Store}
use Rattle.es3_language.specs.Natives.{Table}
use Rattle.es3_language.specs.Meaning as m
use Rattle.es3_language.specs.Meaning.{es3, task_plan, task_state}
use Rattle.es3_moves.specs.Where.{plain_env, plain_flow, plain_fault, plain_labels, plain_loop}
use Rattle.es3_moves.specs.Texts.{store_of}
use Rattle.es3_moves.specs.Moves.{resume, plain_task, plain_note, after_plan, move_plan}
use Rattle.es3_moves.specs.declared.frame.Frame.{Frame}
use Rattle.es3_moves.specs.declared.frame.Flow.{Flow}
use Rattle.es3_moves.specs.declared.frame.Task.{Task}
use Rattle.es3_moves.specs.declared.frame.Task.TheVariants as task
use Rattle.es3_moves.specs.declared.frame.Looping.{Looping}
use Rattle.es3_moves.specs.declared.frame.End.{End}
use Rattle.es3_moves.specs.declared.frame.End.TheVariants as end
use Rattle.es3_moves.specs.declared.frame.Then.{Then}
use Rattle.es3_moves.specs.declared.frame.Then.TheVariants as then
use Rattle.es3_moves.specs.declared.frame.Note.{Note}
use Rattle.es3_moves.specs.declared.frame.After.{After}
use Rattle.es3_moves.specs.declared.frame.After.TheVariants as after
use Rattle.es3_moves.specs.declared.frame.Move.{Move}
use Rattle.es3_moves.specs.declared.frame.Move.TheVariants as move
use Rattle.es3_access.specs.Sizes.{size, end_size, then_size, after_size}
use Rattle.es3_nodes.specs.Again.{BeginsTurn, IsFirst}
use Rattle.std.proofs.lemmas.Bool.{false≢true}
use Rattle.std.proofs.lemmas.Bool.Decides.{nat_tests}
use Rattle.std.proofs.lemmas.List.{length-append}
use Rattle.es3_machine.specs.Outcome.{whole, run_of, ended, is_over, outcome_of}
use Rattle.es3_machine.specs.declared.engine.Engine.{Engine}

module _ {S : Type 0} (T : Table S) where
  spent : (fs : List Frame) (t : Task) (s : Store) (z : S) (n : ℕ) → n ≡ 0 → out s z n ≡ whole T fs (move.Go t) s z n
  spent fs t s z n none = ap (out s z) none ∙ sym (step_out (es3 T) resume fs (plain_task t) s ends z) ∙ ap (λ k. whole T fs (move.Go t) s z k) (sym none)

  pub did_enter : (fs fs' : List Frame) (now : Move) (t : Task) (f : Frame) (s : Store) (z : S) (n : ℕ) → now ≡ move.Enter t f → fs' ≡ fs ++ f ∷ [] → whole T fs' (move.Go t) s z n ≡ whole T fs now s z n
  did_enter fs fs' now t f s z n is more =
      ap (λ l. whole T l (move.Go t) s z n) more ∙ step_enter (es3 T) resume fs f (plain_task t) s z n ∙ ap (λ m. whole T fs m s z n) (sym is)

  pub did_go : (fs : List Frame) (now : Move) (r : Result Move Memory) (t : Task) (s s' : Store) (z z' : S) (n : ℕ) → now ≡ move.Go t → 0 < n → IfOk r (λ m. move_plan m s' ≡ task_plan T (plain_task t) s z) → OnOk r (z' ≡ task_state T (plain_task t) s z) → IfOk r (λ m. whole T fs m s' z' (n - 1) ≡ whole T fs now s z n)
  did_go fs now (Ok m) t s s' z z' n is some plan state =
      let n' : suc (n - 1) ≡ n = omega arith in
      ap (λ p. run (es3 T) (n - 1) (rest resume fs p) z') plan
      ∙ ap (λ y. run (es3 T) (n - 1) (rest resume fs (task_plan T (plain_task t) s z)) y) state
      ∙ sym (step_into (es3 T) resume fs (plain_task t) s z (n - 1))
      ∙ ap (λ k. whole T fs (move.Go t) s z k) n'
      ∙ ap (λ k. whole T fs k s z n) (sym is)
  did_go fs now (Err e) t s s' z z' n is some plan state = tt

  pub did_end : (fs fs' : List Frame) (now : Move) (r : Result Move Memory) (f : Frame) (flow : Flow) (s s' : Store) (z : S) (n : ℕ) → now ≡ move.End flow → fs ≡ fs' ++ f ∷ [] → IfOk r (λ m. move_plan m s' ≡ resume f (plain_flow flow) s) → IfOk r (λ m. whole T fs' m s' z n ≡ whole T fs now s z n)
  did_end fs fs' now (Ok m) f flow s s' z n is top plan =
      ap (λ p. run (es3 T) n (rest resume fs' p) z) plan
      ∙ ap (λ p. run (es3 T) n p z) (sym (rest_push (es3 T) resume fs' f (ends (plain_flow flow) s)))
      ∙ ap (λ l. whole T l (move.End flow) s z n) (sym top)
      ∙ ap (λ k. whole T fs k s z n) (sym is)
  did_end fs fs' now (Err e) f flow s s' z n is top plan = tt

  nothing_waits : (fs : List Frame) (flow : Flow) (s : Store) (z : S) (n : ℕ) → (length fs == 0) ≡ true → over (plain_flow flow) s z n ≡ whole T fs (move.End flow) s z n
  nothing_waits [] flow s z n is = refl
  nothing_waits (f ∷ fs) flow s z n is = absurd (grind (arith, nat_tests))

  -- a run that is over before a move has ended so
  pub did_all : (e : Engine) (h : Objects) (z : S) (now : Move) → is_over e now ≡ true → ended (outcome_of now) (store_of h e.texts) z e.left ≡ run_of T e h z now
  did_all e h z (move.End flow) is = nothing_waits e.frames.items flow (store_of h e.texts) z e.left is
  did_all e h z (move.Stop f) is = ap (λ p. run (es3 T) e.left p z) (sym (rest_stops (es3 T) resume e.frames.items (plain_fault f) (store_of h e.texts)))
  did_all e h z (move.Go t) is = spent e.frames.items t (store_of h e.texts) z e.left (grind (arith, nat_tests))
  did_all e h z _ is = absurd (false≢true is)

  pub did_tell : (fs : List Frame) (now : Move) (i : Note) (a : After) (s : Store) (z z' : S) (n : ℕ) → now ≡ move.Tell i a → z' ≡ T.touch (plain_note i) z → whole T fs (move.Follow a) s z' n ≡ whole T fs now s z n
  did_tell fs now i a s z z' n is state =
      ap (λ y. run (es3 T) n (rest resume fs (after_plan a s)) y) state
      ∙ ap (λ p. run (es3 T) n p z) (sym (rest_told (es3 T) resume fs (plain_note i) (after_plan a s)))
      ∙ ap (λ k. whole T fs k s z n) (sym is)

  pub did_plan : (fs : List Frame) (now was : Move) (r : Result Move Memory) (s s' : Store) (z : S) (n : ℕ) → now ≡ was → IfOk r (λ m. move_plan m s' ≡ move_plan was s) → IfOk r (λ m. whole T fs m s' z n ≡ whole T fs now s z n)
  did_plan fs now was (Ok m) s s' z n is plan = ap (λ p. run (es3 T) n (rest resume fs p) z) (plan ∙ ap (λ k. move_plan k s) (sym is))
  did_plan fs now was (Err e) s s' z n is plan = tt

  -- a task whose plan is that of another and then a frame
  as_another : (fs : List Frame) (t u : m.Task) (k : m.Completion → Store → m.Plan) (s : Store) (z : S) (n : ℕ) → task_plan T t s z ≡ bind (task_plan T u s z) k → task_state T t s z ≡ task_state T u s z → run (es3 T) n (rest resume fs (enter u s k)) z ≡ run (es3 T) n (rest resume fs (enter t s ends)) z
  as_another fs t u k s z zero plan state = step_out (es3 T) resume fs u s k z ∙ sym (step_out (es3 T) resume fs t s ends z)
  as_another fs t u k s z (suc n) plan state =
      step_go (es3 T) resume fs u s k z n
      ∙ ap (λ p. run (es3 T) n (rest resume fs p) (task_state T u s z)) (sym plan)
      ∙ ap (λ y. run (es3 T) n (rest resume fs (task_plan T t s z)) y) (sym state)
      ∙ sym (step_into (es3 T) resume fs t s z n)

  abbrev turn_of : Looping → m.Task
  turn_of l = m.again (plain_loop l) l.acc (plain_labels l.labels.value) (plain_env l.env)

  begins : (fs : List Frame) (l : Box Looping Global) (t : Task) (f : Frame) (s : Store) (z : S) (n : ℕ) → BeginsTurn l.value t f → whole T fs (move.Enter t f) s z n ≡ whole T fs (move.Again l) s z n
  begins fs l (task.Value x env) f s z n first = as_another fs (turn_of l.value) (plain_task (task.Value x env)) (resume f) s z n (first s) refl
  begins fs l (task.Effect x env) f s z n first = as_another fs (turn_of l.value) (plain_task (task.Effect x env)) (resume f) s z n (first s) refl
  begins fs l _ f s z n first = absurd first

  -- a later turn of a loop is its first node, and then what follows it
  pub did_again : (fs : List Frame) (now : Move) (r : Result Move Memory) (l : Box Looping Global) (s : Store) (z : S) (n : ℕ) → now ≡ move.Again l → IfOk r (λ m. IsFirst l.value m) → IfOk r (λ m. whole T fs m s z n ≡ whole T fs now s z n)
  did_again fs now (Ok (move.Enter t f)) l s z n is first = begins fs l t f s z n first ∙ ap (λ k. whole T fs k s z n) (sym is)
  did_again fs now (Ok _) l s z n is first = absurd first
  did_again fs now (Err e) l s z n is first = tt

end_small : (end : End) → end_size end < 3
end_small (end.Try w) = omega arith
end_small (end.Catch f env) = omega arith
end_small _ = omega arith

then_small : (t : Then) → then_size t < 22
then_small (then.Call r vs env) = omega arith
then_small (then.Compound op x env r) = omega arith
then_small _ = omega arith

after_small : (a : After) → after_size a < 22
after_small (after.Then t v) = then_small t
after_small (after.Apply f this vs env) = omega arith
after_small (after.Construct f vs env) = omega arith
after_small (after.Write r w v) = omega arith
after_small (after.WriteKey r k w) = omega arith

-- a move does less than a step, and less than a frame and an ending
size_small : (m : Move) → size m < 24
size_small (move.Enter t f) = omega arith
size_small (move.Go t) = omega arith
size_small (move.Again l) = omega arith
size_small (move.List xs at acc env end) = let h = end_small end in omega arith
size_small (move.Items vs es at env) = omega arith
size_small (move.Fields o fs at env) = omega arith
size_small (move.Arguments c) = omega arith
size_small (move.Vars is at end env) = omega arith
size_small (move.Find v cs at ls env) = omega arith
size_small (move.Tell n a) = let h = after_small a in omega arith
size_small (move.Follow a) = let h = after_small a in omega arith
size_small (move.End flow) = omega arith
size_small (move.Stop f) = omega arith

-- a step that is wanted is left
pub step_left : (e : Engine) (now : Move) (t : Task) → now ≡ move.Go t → is_over e now ≡ false → 0 < e.left
step_left e now t is goes =
    let some : (e.left == 0) ≡ false = ap (is_over e) (sym is) ∙ goes in
    grind (arith, nat_tests)

-- how much less there is to do after a move: without a step and a frame, after a step, and after a frame
pub if_less : (r : Result Move Memory) (now was : Move) (w : ℕ) → now ≡ was → IfOk r (λ m. size m < size was) → IfOk r (λ m. w + size m < w + size now)
if_less (Ok m) now was w is less = let e = ap size is in omega arith
if_less (Err x) now was w is less = tt

pub less_by_step : (r : Result Move Memory) (now : Move) (n k : ℕ) → 0 < n → IfOk r (λ m. 32 * (n - 1) + 16 * k + size m < 32 * n + 16 * k + size now)
less_by_step (Ok m) now n k some = let h = size_small m in omega arith
less_by_step (Err x) now n k some = tt

pub less_by_frame : (r : Result Move Memory) (now : Move) (flow : Flow) (n : ℕ) (fs fs' : List Frame) (f : Frame) → now ≡ move.End flow → fs ≡ fs' ++ f ∷ [] → IfOk r (λ m. 32 * n + 16 * length fs' + size m < 32 * n + 16 * length fs + size now)
less_by_frame (Ok m) now flow n fs fs' f is top =
    let h = size_small m in
    let e = ap size is in
    let l : length fs ≡ length fs' + 1 = ap length top ∙ length-append fs' (f ∷ []) in
    omega arith
less_by_frame (Err x) now flow n fs fs' f is top = tt
