-- What happens to a node: a turn for each function that is told so, one after another.
use Rattle.std.proofs.Common.{◌≡◌, ℕ, ◌<◌, Bool, true, false, List, [], ◌∷◌, length, cond, Some, Result, Ok, Err, refl, sym, ap, ◌∙◌, subst, arith}
use Rattle.std.specs.Prelude.{OnOk, IfErr}
use Rattle.plans.specs.Plans.{Run as RunOf, over, stopped, out, ends, run}
use Rattle.page_deeds.specs.Deeds.{label_of}
use Rattle.page_deeds.specs.Shown.{by_nothing}
use Rattle.pages.specs.Pages.{chain, turns, turns_or_none}
use Rattle.es3_objects.specs.declared.value.Value.{Value}
use Rattle.es3_objects.specs.declared.value.Value.TheVariants.{Undefined}
use Rattle.es3_objects.specs.declared.value.Stop.{Stop}
use Rattle.es3_objects.specs.declared.value.Stop.TheVariants as stop
use Rattle.es3_heap.specs.Objects.{Objects}
use Rattle.es3_language.specs.Store.{Store}
use Rattle.es3_language.specs.Meaning.{Completion as EsCompletion, gave, es3, Plan, call_plan}
use Rattle.es3_moves.specs.declared.natives.Completion.{Completion}
use Rattle.es3_moves.specs.declared.natives.Completion.TheVariants.{Normal}
use Rattle.es3_machine.specs.Machine.{a_call, run_started}
use Rattle.es3_machine.specs.Held.{started_of, store_in}
use Rattle.heap_rows.specs.Doing.{ended}
use Rattle.dom_handlers.specs.declared.kinds.EventKind.{EventKind}
use Rattle.dom_handlers.specs.declared.kinds.EventKind.TheVariants.{Click, Input}
use Rattle.guard_marks.specs.Closures.{is_closure}
use Rattle.page_natives.specs.Natives.{Kept, kept_of, page_table, tells}
use Rattle.module_loader.specs.Turns.{Results, node_plan}
use Rattle.page_runner.specs.Page.{Deed, Turn, Run, evaluator, end_of_turn, result, node_turns}
use Rattle.page_runner.specs.Runner.{results_of, HasStore, IsCut, TurnCame, DeedsOver, Came, RunsOn, From, node_deed, node_label}
use Rattle.page_runner.specs.declared.runner.Runner.{Runner}
use Rattle.page_runner.proofs.Here.{heap_here, started_here}
use Rattle.page_runner.proofs.Turns.{chain_cut, turn_cut, turn_told, memory_came}
use Rattle.page_runner.proofs.Done.{turn_of_started}

-- one function

abbrev plan_if : Bool → Value → Value → Store → Plan
plan_if b node f x = cond b (call_plan f Undefined (node ∷ []) 0 x) (ends (gave Undefined) x)

pub listener_called : (a b c : Runner) (node f : Value) (how : Result Completion Stop) → is_closure a.heap f ≡ true → RunsOn b how c → started_of b.machine ≡ Some (a_call f Undefined (node ∷ []) 0)
    → ((h : Objects) → store_in h b.machine ≡ store_in h a.machine) → b.heap ≡ a.heap → b.natives ≡ a.natives → b.left ≡ a.left
    → From a (λ r x z n. TurnCame how (run (es3 page_table) n (node_plan node f x) z) c)
listener_called a b c node f how listening runs started same heap natives left = λ x here.
    let listens : is_closure x.heap f ≡ true = ap (λ h. is_closure h f) (heap_here a.heap a.machine x here) ∙ listening in
    let there : HasStore b.heap b.machine x = subst (λ h. HasStore h b.machine x) (sym heap) (started_here a.heap a.machine b.machine x same here) in
    let call = Some (a_call f Undefined (node ∷ []) 0) in
    subst (λ q. TurnCame how (run (es3 page_table) a.left (plan_if q node f x) (kept_of a.natives)) c) (sym listens)
    (subst (λ n. TurnCame how (run_started page_table call x (kept_of a.natives) n) c) left
    (subst (λ k. TurnCame how (run_started page_table call x (kept_of k) b.left) c) natives (turn_of_started b c how (a_call f Undefined (node ∷ []) 0) x runs started there)))

pub listener_silent : (a : Runner) (node f : Value) → is_closure a.heap f ≡ false → From a (λ r x z n. TurnCame (Ok (Normal Undefined)) (run (es3 page_table) n (node_plan node f x) z) a)
listener_silent a node f deaf = λ x here.
    let silent : is_closure x.heap f ≡ false = ap (λ h. is_closure h f) (heap_here a.heap a.machine x here) ∙ deaf in
    record { how = gave Undefined; store = x; here = here; run = ap (λ q. run (es3 page_table) a.left (plan_if q node f x) (kept_of a.natives)) silent; came_to = refl }

-- its turn, with the end told

label_same : (kind : EventKind) (k : ℕ) (id : List ℕ) (root n : ℕ) (us : List ℕ) → node_label kind k id root ≡ label_of (node_deed kind k id root n us)
label_same Click k id root n us = refl
label_same Input k id root n us = refl

no_result : (kind : EventKind) (k : ℕ) (id : List ℕ) (root n : ℕ) (us : List ℕ) (e : EsCompletion) (r : Results) → r ≡ result (node_deed kind k id root n us) e r
no_result Click k id root n us e r = refl
no_result Input k id root n us e r = refl

-- what a function comes to, from here
abbrev pub Listens : Runner → Value → Value → Result Completion Stop → Runner → Type 0
Listens a node f how c = From a (λ r x z n. TurnCame how (run (es3 page_table) n (node_plan node f x) z) c)

-- what is told to functions comes to this
abbrev pub NodeTold : Runner → EventKind → ℕ → List ℕ → ℕ → List Turn → Result (Unit {0}) Stop → Runner → Type 0
NodeTold a kind k id root us answer d = (n : ℕ) (t : List ℕ) → From a (λ r x z m. Came answer (turns (evaluator a.modules) (node_deed kind k id root n t) us m r x z) d)

pub listener_cut : (a c : Runner) (kind : EventKind) (k : ℕ) (id : List ℕ) (root : ℕ) (node f : Value) (e : Stop) (answer : Result (Unit {0}) Stop) → answer ≡ Err e → Listens a node f (Err e) c → NodeTold a kind k id root (node_turns node (f ∷ [])) answer c
listener_cut a c kind k id root node f e answer is listens = λ n t x here.
    let d = node_deed kind k id root n t in
    let r = results_of a.results.items in
    subst (λ s. Came s (turns (evaluator a.modules) d (node_turns node (f ∷ [])) a.left r x (kept_of a.natives)) c) (sym is)
    (turn_cut a.modules d (λ y w. node_plan node f y) a.left r x (kept_of a.natives) (kept_of c.natives) e (listens x here))

pub listener_told : (a c d : Runner) (kind : EventKind) (k : ℕ) (id : List ℕ) (root : ℕ) (node f : Value) (how : Completion) (answer : Result (Unit {0}) Stop) → Listens a node f (Ok how) c → d.heap ≡ c.heap → d.machine ≡ c.machine → d.left ≡ c.left
    → d.results ≡ a.results → OnOk answer (kept_of d.natives ≡ tells (ended (node_label kind k id root) (end_of_turn c.heap how) ∷ []) (kept_of c.natives)) → IfErr answer (λ e. e ≡ stop.Memory)
    → NodeTold a kind k id root (node_turns node (f ∷ [])) answer d
listener_told a c d kind k id root node f how answer listens heap machine left results told memory = λ n t x here.
    let q = node_deed kind k id root n t in
    let r = results_of a.results.items in
    turn_told a.modules q (λ y w. node_plan node f y) a.left r x (kept_of a.natives) how c d answer (listens x here) heap machine left
    (subst (λ l. OnOk answer (kept_of d.natives ≡ tells (ended l (end_of_turn c.heap how) ∷ []) (kept_of c.natives))) (label_same kind k id root n t) told)
    memory (λ e. ap (λ vs. results_of vs.items) results ∙ no_result kind k id root n t e r)

-- one turn after another

pub record Reached (modules : ℕ) (p : Runner) (d : Deed) (rest : List Turn) (whole : Run) : Type 0 where
  pub store : Store
  pub here : HasStore p.heap p.machine store
  pub run : turns (evaluator modules) d rest p.left (results_of p.results.items) store (kept_of p.natives) ≡ whole

abbrev pub ReachedFrom : Runner → Runner → Deed → List Turn → List Turn → Type 0
ReachedFrom p q d us rest = From p (λ r x z n. Reached p.modules q d rest (turns (evaluator p.modules) d us n r x z))

-- whatever the number of the node, and the text
abbrev pub ToldFrom : Runner → Runner → EventKind → ℕ → List ℕ → ℕ → List Turn → List Turn → Type 0
ToldFrom p q kind k id root us rest = (n : ℕ) (t : List ℕ) → ReachedFrom p q (node_deed kind k id root n t) us rest

chain_chain : {E F : Type 0} (w : RunOf E Store Kept) (f : E → Store → Kept → ℕ → RunOf F Store Kept) (g : F → Store → Kept → ℕ → Run) → chain (chain w f) g ≡ chain w (λ e x z n. chain (f e x z n) g)
chain_chain (over e x z n) f g = refl
chain_chain (stopped e x z n) f g = refl
chain_chain (out x z n) f g = refl

after : (modules : ℕ) (d : Deed) (u : Turn) (rest : List Turn) (n : ℕ) (r : Results) (x : Store) (z : Kept)
    → chain (turns (evaluator modules) d (u ∷ []) n r x z) (λ r1 x1 z1 m. turns (evaluator modules) d rest m r1 x1 z1) ≡ turns (evaluator modules) d (u ∷ rest) n r x z
after modules d u rest n r x z = chain_chain (run (es3 page_table) n (u x z) z) _ _

pub at_first : (p : Runner) (kind : EventKind) (k : ℕ) (id : List ℕ) (root : ℕ) (us : List Turn) → ToldFrom p p kind k id root us us
at_first p kind k id root us = λ n t x here. record { store = x; here = here; run = refl }

pub one_more : (p q q1 : Runner) (kind : EventKind) (k : ℕ) (id : List ℕ) (root : ℕ) (us : List Turn) (u : Turn) (rest : List Turn) → ToldFrom p q kind k id root us (u ∷ rest) → q.modules ≡ p.modules → NodeTold q kind k id root (u ∷ []) (Ok tt) q1
    → ToldFrom p q1 kind k id root us rest
one_more p q q1 kind k id root us u rest reached same goes = λ n t x here.
    let d = node_deed kind k id root n t in
    let before = reached n t x here in
    let came = subst (λ m. DeedsOver (turns (evaluator m) d (u ∷ []) q.left (results_of q.results.items) before.store (kept_of q.natives)) q1) same (goes n t before.store before.here) in
    record {
      store = came.store;
      here = came.here;
      run =
          sym (ap (λ w. chain w (λ r1 x1 z1 m. turns (evaluator p.modules) d rest m r1 x1 z1)) came.run)
          ∙ after p.modules d u rest q.left (results_of q.results.items) before.store (kept_of q.natives)
          ∙ before.run;
    }

pub cut_there : (p q q1 : Runner) (kind : EventKind) (k : ℕ) (id : List ℕ) (root : ℕ) (us : List Turn) (u : Turn) (rest : List Turn) (e : Stop) (answer : Result (Unit {0}) Stop) → answer ≡ Err e → ToldFrom p q kind k id root us (u ∷ rest)
    → q.modules ≡ p.modules → NodeTold q kind k id root (u ∷ []) (Err e) q1 → NodeTold p kind k id root us answer q1
cut_there p q q1 kind k id root us u rest e answer is reached same goes = λ n t x here.
    let d = node_deed kind k id root n t in
    let before = reached n t x here in
    let one = turns (evaluator p.modules) d (u ∷ []) q.left (results_of q.results.items) before.store (kept_of q.natives) in
    let came : IsCut e (kept_of q1.natives) one = subst (λ m. IsCut e (kept_of q1.natives) (turns (evaluator m) d (u ∷ []) q.left (results_of q.results.items) before.store (kept_of q.natives))) same (goes n t before.store before.here) in
    subst (λ s. Came s (turns (evaluator p.modules) d us p.left (results_of p.results.items) x (kept_of p.natives)) q1) (sym is)
    (subst (λ w. IsCut e (kept_of q1.natives) w) (after p.modules d u rest q.left (results_of q.results.items) before.store (kept_of q.natives) ∙ before.run)
    (chain_cut e (kept_of q1.natives) one (λ r1 x1 z1 m. turns (evaluator p.modules) d rest m r1 x1 z1) came))

pub at_last : (p q : Runner) (kind : EventKind) (k : ℕ) (id : List ℕ) (root : ℕ) (us : List Turn) → ToldFrom p q kind k id root us [] → NodeTold p kind k id root us (Ok tt) q
at_last p q kind k id root us reached = λ n t x here. let last = reached n t x here in record { store = last.store; here = last.here; run = sym last.run }

-- the deed: what is called as it stands when it begins

abbrev pub Happens : Runner → EventKind → ℕ → List ℕ → ℕ → ℕ → Value → List Value → Result (Unit {0}) Stop → Runner → Type 0
Happens a kind k id root n node fs answer d = (t : List ℕ) → From a (λ r x z m. Came answer (turns_or_none (evaluator a.modules) (node_deed kind k id root n t) (node_turns node fs) m r x z) d)

pub nobody : (a b : Runner) (kind : EventKind) (k : ℕ) (id : List ℕ) (root n : ℕ) (node : Value) (fs : List Value) (answer : Result (Unit {0}) Stop) → fs ≡ [] → b.heap ≡ a.heap → b.machine ≡ a.machine → b.left ≡ a.left → b.results ≡ a.results
    → OnOk answer (kept_of b.natives ≡ tells (ended (node_label kind k id root) by_nothing ∷ []) (kept_of a.natives)) → IfErr answer (λ e. e ≡ stop.Memory) → Happens a kind k id root n node fs answer b
nobody a b kind k id root n node fs (Err e) none heap machine left results told memory = λ t x here. memory_came e (kept_of b.natives) _ memory
nobody a b kind k id root n node fs (Ok u) none heap machine left results told memory = λ t x here.
    let d = node_deed kind k id root n t in
    let r = results_of a.results.items in
    let said = ap (λ l. tells (ended l by_nothing ∷ []) (kept_of a.natives)) (label_same kind k id root n t) in
    record {
      store = x;
      here = subst (λ h. HasStore h b.machine x) (sym heap) (subst (λ m. HasStore a.heap m x) (sym machine) here);
      run =
          ap (λ l. turns_or_none (evaluator a.modules) d (node_turns node l) a.left r x (kept_of a.natives)) none
          ∙ ap (λ z. over r x z a.left) (sym said ∙ sym told)
          ∙ ap (λ m. over r x (kept_of b.natives) m) (sym left)
          ∙ ap (λ vs. over (results_of vs.items) x (kept_of b.natives) b.left) (sym results);
    }

pub somebody : (a b : Runner) (kind : EventKind) (k : ℕ) (id : List ℕ) (root n : ℕ) (node : Value) (fs gs : List Value) (answer : Result (Unit {0}) Stop) → 0 < length fs → fs ≡ gs → NodeTold a kind k id root (node_turns node fs) answer b → Happens a kind k id root n node gs answer b
somebody a b kind k id root n node [] gs answer some same told = absurd (omega (arith, some))
somebody a b kind k id root n node (f ∷ fs) gs answer some same told = subst (λ l. Happens a kind k id root n node l answer b) same (λ t x here. told n t x here)
