-- What a deed comes to, by what the runner does of it.
use Rattle.std.proofs.Common.{◌≡◌, ℕ, ◌<◌, false, List, [], ◌∷◌, length, Some, Result, Ok, Err, refl, sym, ap, ◌∙◌, subst}
use Rattle.std.specs.Prelude.{set, slice_get, OnOk, IfErr}
use Rattle.std.proofs.lemmas.Option.{none-some, same_Some}
use Rattle.plans.specs.Plans.{over, run}
use Rattle.page_deeds.specs.Deeds as deed
use Rattle.pages.specs.Pages.{turns_or_none, deed as deed_of_page}
use Rattle.es3_tree.specs.Tree as t
use Rattle.es3_objects.specs.declared.value.Value.{Value}
use Rattle.es3_objects.specs.declared.value.Value.TheVariants.{Undefined}
use Rattle.es3_objects.specs.declared.value.Stop.{Stop}
use Rattle.es3_objects.specs.declared.value.Stop.TheVariants as stop
use Rattle.es3_heap.specs.Objects.{Objects}
use Rattle.es3_language.specs.Store.{Store, with_heap}
use Rattle.es3_language.specs.Natives.{Reply, throw_reply, invoke_reply}
use Rattle.es3_language.specs.Meaning.{threw, es3, program_plan}
use Rattle.es3_moves.specs.declared.natives.Completion.{Completion}
use Rattle.es3_moves.specs.declared.natives.Completion.TheVariants.{Thrown}
use Rattle.es3_machine.specs.Machine.{Started, a_program, a_call, run_started}
use Rattle.es3_machine.specs.Held.{started_of, store_in}
use Rattle.heap_rows.specs.Doing.{ended}
use Rattle.page_natives.specs.Natives.{Kept, kept_of, page_table, importing, tells, queue_of, without_first}
use Rattle.module_loader.specs.declared.events.KeyCall.{KeyCall}
use Rattle.module_loader.specs.KeyCalls.{reply_of}
use Rattle.module_loader.specs.Turns.{Results, granted_pairs, with_imports_of, reply_plan, key_done, key_plan, tick_plan}
use Rattle.page_runner.specs.Page.{evaluator, end_of_turn, value_given, tick_begun}
use Rattle.page_runner.specs.Runner.{results_of, HasStore, IsCut, TurnOver, TurnCame, DeedsOver, Came, RunsOn, From, LoadStarts}
use Rattle.page_runner.specs.declared.runner.Runner.{Runner}
use Rattle.page_runner.proofs.Here.{heap_here, changed_here, started_here}
use Rattle.page_runner.proofs.Turns.{one_turn, turn_cut, turn_over, turn_told, loaded}

-- the turn of what was started
pub turn_of_started : (b c : Runner) (result : Result Completion Stop) (s : Started) (x : Store) → RunsOn b result c → started_of b.machine ≡ Some s → HasStore b.heap b.machine x
    → TurnCame result (run_started page_table (Some s) x (kept_of b.natives) b.left) c
turn_of_started b c result s x runs started here = subst (λ o. TurnCame result (run_started page_table o x (kept_of b.natives) b.left) c) started (runs x here)

-- loads

-- the deed of a load, when what its module may import is there
load_begun : (m : ℕ) (p : t.Tree t.program) (gs : deed.Grants) (a b : Runner) (x : Store) → LoadStarts m p gs a b → HasStore a.heap a.machine x
    → one_turn a.modules (deed.to_load m p gs) (λ y k. program_plan p m y) b.left (results_of a.results.items) (with_heap x b.heap) (kept_of b.natives)
    ≡ deed_of_page (evaluator a.modules) (deed.to_load m p gs) a.left (results_of a.results.items) x (kept_of a.natives)
load_begun m p gs a b x starts here =
    let r = results_of a.results.items in
    let now : x.heap ≡ a.heap = heap_here a.heap a.machine x here in
    let imported = λ (h : Objects). with_imports_of m (granted_pairs a.modules r (kept_of a.natives).dom gs) h in
    let objects : b.heap ≡ imported x.heap = starts.heap ∙ ap imported (sym now) in
    let kept : kept_of b.natives ≡ importing m (length x.heap.list) (kept_of a.natives) = starts.kept ∙ ap (λ (h : Objects). importing m (length h.list) (kept_of a.natives)) (sym now) in
    ap (λ n. one_turn a.modules (deed.to_load m p gs) (λ y k. program_plan p m y) n r (with_heap x b.heap) (kept_of b.natives)) starts.left
    ∙ ap (λ h. one_turn a.modules (deed.to_load m p gs) (λ y k. program_plan p m y) a.left r (with_heap x h) (kept_of b.natives)) objects
    ∙ ap (λ z. one_turn a.modules (deed.to_load m p gs) (λ y k. program_plan p m y) a.left r (with_heap x (imported x.heap)) z) kept

pub load_cut : (m : ℕ) (p : t.Tree t.program) (gs : deed.Grants) (a b c : Runner) (e : Stop) (answer : Result (Unit {0}) Stop) → answer ≡ Err e → LoadStarts m p gs a b → RunsOn b (Err e) c
    → From a (λ r x z n. Came answer (deed_of_page (evaluator a.modules) (deed.to_load m p gs) n r x z) c)
load_cut m p gs a b c e answer is starts runs = λ x here.
    let y = with_heap x b.heap in
    let r = results_of a.results.items in
    subst (λ s. Came s (deed_of_page (evaluator a.modules) (deed.to_load m p gs) a.left r x (kept_of a.natives)) c) (sym is)
    (subst (λ w. IsCut e (kept_of c.natives) w) (load_begun m p gs a b x starts here)
    (turn_cut a.modules (deed.to_load m p gs) (λ y k. program_plan p m y) b.left r y (kept_of b.natives) (kept_of c.natives) e (turn_of_started b c (Err e) (a_program p m) y runs starts.started (starts.here x here))))

pub load_over : (m : ℕ) (p : t.Tree t.program) (gs : deed.Grants) (a b c d : Runner) (how : Completion) → LoadStarts m p gs a b → RunsOn b (Ok how) c → d.heap ≡ c.heap → d.machine ≡ c.machine → d.left ≡ c.left
    → kept_of d.natives ≡ tells (ended (deed.of_load m) (end_of_turn c.heap how) ∷ []) (kept_of c.natives) → m < length a.results.items → d.results.items ≡ set a.results.items m (value_given how)
    → From a (λ r x z n. DeedsOver (deed_of_page (evaluator a.modules) (deed.to_load m p gs) n r x z) d)
load_over m p gs a b c d how starts runs heap machine left told there results = λ x here.
    let y = with_heap x b.heap in
    let r = results_of a.results.items in
    let turn : TurnOver how (run (es3 page_table) b.left (program_plan p m y) (kept_of b.natives)) c = turn_of_started b c (Ok how) (a_program p m) y runs starts.started (starts.here x here) in
    let given = ap results_of results ∙ loaded a.results.items m (value_given how) turn.how p gs there (ap value_given (sym turn.came_to)) in
    subst (λ w. DeedsOver w d) (load_begun m p gs a b x starts here)
    (turn_over a.modules (deed.to_load m p gs) (λ y k. program_plan p m y) b.left r y (kept_of b.natives) how c d turn heap machine left told given)

-- calls of keys

-- the key was looked up: there is a call, or a throw, over other objects
abbrev pub Looked : Runner → ℕ → List ℕ → List Value → Objects → Reply → Type 0
Looked a m key vs g reply = ((z : Kept) → reply ≡ (key_done m key vs a.heap z).reply) × ((z : Kept) → g ≡ (key_done m key vs a.heap z).heap)

pub looked : (a : Runner) (m : ℕ) (key : List ℕ) (on r : Value) (args us : List Value) (g : Objects) (k : KeyCall) (reply : Reply) → ((z : Kept) → reply_of k ≡ (key_done m key (on ∷ args) a.heap z).reply)
    → ((z : Kept) → g ≡ (key_done m key (on ∷ args) a.heap z).heap) → on ≡ r → args ≡ us → reply_of k ≡ reply → Looked a m key (r ∷ us) g reply
looked a m key on r args us g k reply replies heaps same_on same_args is =
    let same : on ∷ args ≡ r ∷ us = ap (λ v. v ∷ args) same_on ∙ ap (λ l. r ∷ l) same_args in
    ((λ z. sym is ∙ replies z ∙ ap (λ l. (key_done m key l a.heap z).reply) same), (λ z. heaps z ∙ ap (λ l. (key_done m key l a.heap z).heap) same))

looked_plan : (a : Runner) (m : ℕ) (key : List ℕ) (vs : List Value) (g : Objects) (reply : Reply) (x : Store) (z : Kept) → Looked a m key vs g reply → HasStore a.heap a.machine x
    → run (es3 page_table) a.left (reply_plan reply m (with_heap x g)) z ≡ run (es3 page_table) a.left (key_plan m key vs x z) z
looked_plan a m key vs g reply x z looked here =
    let now : x.heap ≡ a.heap = heap_here a.heap a.machine x here in
    ap (λ q. run (es3 page_table) a.left (reply_plan q m (with_heap x g)) z) (looked.0 z)
    ∙ ap (λ h. run (es3 page_table) a.left (reply_plan (key_done m key vs a.heap z).reply m (with_heap x h)) z) (looked.1 z)
    ∙ ap (λ h. run (es3 page_table) a.left (reply_plan (key_done m key vs h z).reply m (with_heap x (key_done m key vs h z).heap)) z) (sym now)

pub key_called : (a b c : Runner) (m : ℕ) (key : List ℕ) (vs args : List Value) (f this : Value) (result : Result Completion Stop) → Looked a m key vs b.heap (invoke_reply false f this args) → RunsOn b result c
    → started_of b.machine ≡ Some (a_call f this args m) → ((h : Objects) → store_in h b.machine ≡ store_in h a.machine) → b.natives ≡ a.natives → b.left ≡ a.left
    → From a (λ r x z n. TurnCame result (run (es3 page_table) n (key_plan m key vs x z) z) c)
key_called a b c m key vs args f this result looked runs started same natives left = λ x here.
    let y = with_heap x b.heap in
    let there : HasStore b.heap b.machine y = started_here b.heap a.machine b.machine y same (changed_here a.heap b.heap a.machine x here) in
    subst (λ w. TurnCame result w c) (looked_plan a m key vs b.heap (invoke_reply false f this args) x (kept_of a.natives) looked here)
    (subst (λ n. TurnCame result (run_started page_table (Some (a_call f this args m)) y (kept_of a.natives) n) c) left
    (subst (λ k. TurnCame result (run_started page_table (Some (a_call f this args m)) y (kept_of k) b.left) c) natives (turn_of_started b c result (a_call f this args m) y runs started there)))

pub key_thrown : (a b : Runner) (m : ℕ) (key : List ℕ) (vs : List Value) (v : Value) → Looked a m key vs b.heap (throw_reply v) → b.machine ≡ a.machine → b.natives ≡ a.natives → b.left ≡ a.left
    → From a (λ r x z n. TurnCame (Ok (Thrown v)) (run (es3 page_table) n (key_plan m key vs x z) z) b)
key_thrown a b m key vs v looked machine natives left = λ x here.
    let y = with_heap x b.heap in
    record {
      how = threw v;
      store = y;
      here = subst (λ k. HasStore b.heap k y) (sym machine) (changed_here a.heap b.heap a.machine x here);
      run =
          sym (looked_plan a m key vs b.heap (throw_reply v) x (kept_of a.natives) looked here)
          ∙ ap (λ k. over (threw v) y (kept_of k) a.left) (sym natives)
          ∙ ap (λ n. over (threw v) y (kept_of b.natives) n) (sym left);
      came_to = refl;
    }

-- a function that waited

abbrev pub queue : Runner → ℕ → List Value
queue a m = queue_of m (kept_of a.natives).waiting

waited : (modules k m : ℕ) (f : Value) (n : ℕ) (r : Results) (x : Store) (z : Kept) (q : List Value) → Some f ≡ slice_get q 0 → q ≡ queue_of m z.waiting
    → one_turn modules (deed.to_tick k m) (λ y w. tick_plan m f y) n r x (without_first m z) ≡ deed_of_page (evaluator modules) (deed.to_tick k m) n r x z
waited modules k m f n r x z [] is same = absurd (none-some f (sym is))
waited modules k m f n r x z (g ∷ fs) is same =
    ap (λ v. one_turn modules (deed.to_tick k m) (λ y w. tick_plan m v y) n r x (without_first m z)) (same_Some f g is)
    ∙ ap (λ q. turns_or_none (evaluator modules) (deed.to_tick k m) (tick_begun m q x z).turns n r (tick_begun m q x z).store (tick_begun m q x z).kept) same

-- a function was taken, and its call was started
pub record TickStarts (m : ℕ) (f : Value) (a b : Runner) : Type 0 where
  pub first : Some f ≡ slice_get (queue a m) 0
  pub kept : kept_of b.natives ≡ without_first m (kept_of a.natives)
  pub started : started_of b.machine ≡ Some (a_call f Undefined [] m)
  pub here : (x : Store) → HasStore a.heap a.machine x → HasStore b.heap b.machine x
  pub left : b.left ≡ a.left

tick_begun_so : (k m : ℕ) (f : Value) (a b : Runner) (x : Store) → TickStarts m f a b
    → one_turn a.modules (deed.to_tick k m) (λ y w. tick_plan m f y) b.left (results_of a.results.items) x (kept_of b.natives)
    ≡ deed_of_page (evaluator a.modules) (deed.to_tick k m) a.left (results_of a.results.items) x (kept_of a.natives)
tick_begun_so k m f a b x starts =
    let r = results_of a.results.items in
    ap (λ n. one_turn a.modules (deed.to_tick k m) (λ y w. tick_plan m f y) n r x (kept_of b.natives)) starts.left
    ∙ ap (λ z. one_turn a.modules (deed.to_tick k m) (λ y w. tick_plan m f y) a.left r x z) starts.kept
    ∙ waited a.modules k m f a.left r x (kept_of a.natives) (queue a m) starts.first refl

pub tick_cut : (k m : ℕ) (f : Value) (a b c : Runner) (e : Stop) (answer : Result (Unit {0}) Stop) → answer ≡ Err e → TickStarts m f a b → RunsOn b (Err e) c → From a (λ r x z n. Came answer (deed_of_page (evaluator a.modules) (deed.to_tick k m) n r x z) c)
tick_cut k m f a b c e answer is starts runs = λ x here.
    let r = results_of a.results.items in
    subst (λ s. Came s (deed_of_page (evaluator a.modules) (deed.to_tick k m) a.left r x (kept_of a.natives)) c) (sym is)
    (subst (λ w. IsCut e (kept_of c.natives) w) (tick_begun_so k m f a b x starts)
    (turn_cut a.modules (deed.to_tick k m) (λ y w. tick_plan m f y) b.left r x (kept_of b.natives) (kept_of c.natives) e (turn_of_started b c (Err e) (a_call f Undefined [] m) x runs starts.started (starts.here x here))))

pub tick_told : (k m : ℕ) (f : Value) (a b c d : Runner) (how : Completion) (answer : Result (Unit {0}) Stop) → TickStarts m f a b → RunsOn b (Ok how) c → d.heap ≡ c.heap → d.machine ≡ c.machine → d.left ≡ c.left → d.results ≡ a.results
    → OnOk answer (kept_of d.natives ≡ tells (ended (deed.of_tick k m) (end_of_turn c.heap how) ∷ []) (kept_of c.natives)) → IfErr answer (λ e. e ≡ stop.Memory)
    → From a (λ r x z n. Came answer (deed_of_page (evaluator a.modules) (deed.to_tick k m) n r x z) d)
tick_told k m f a b c d how answer starts runs heap machine left results told memory = λ x here.
    let r = results_of a.results.items in
    subst (λ w. Came answer w d) (tick_begun_so k m f a b x starts)
    (turn_told a.modules (deed.to_tick k m) (λ y w. tick_plan m f y) b.left r x (kept_of b.natives) how c d answer (turn_of_started b c (Ok how) (a_call f Undefined [] m) x runs starts.started (starts.here x here)) heap machine left told memory
    (λ e. ap (λ vs. results_of vs.items) results))
