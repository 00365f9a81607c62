-- What a deed comes to, by what its turn comes to.
use Rattle.std.proofs.Common.{◌≡◌, ℕ, ◌<◌, List, [], ◌∷◌, length, Result, Ok, Err, sym, ap, ◌∙◌, subst, get_or, cond, inl, inr}
use Rattle.std.specs.Prelude.{set, nat_eq, OnOk, IfErr}
use Rattle.std.proofs.Math.Path.{fun_ext}
use Rattle.std.proofs.lemmas.Bool.Decides.{eqb_tells}
use Rattle.std.proofs.lemmas.List.{get_or-set_same, get_or-set_other}
use Rattle.plans.specs.Plans.{Run as RunOf, over, run}
use Rattle.page_deeds.specs.Deeds as deed
use Rattle.page_deeds.specs.Deeds.{label_of}
use Rattle.pages.specs.Pages.{Turn as TurnOf, chain, turns}
use Rattle.es3_tree.specs.Tree as t
use Rattle.es3_objects.specs.declared.value.Value.{Value}
use Rattle.es3_objects.specs.declared.value.Value.TheVariants.{Undefined}
use Rattle.es3_objects.specs.declared.value.Stop.{Stop}
use Rattle.es3_objects.specs.declared.value.Stop.TheVariants as stop
use Rattle.es3_language.specs.Store.{Store}
use Rattle.es3_language.specs.Natives.{Touched}
use Rattle.es3_language.specs.Meaning.{Completion as EsCompletion, Task, es3}
use Rattle.es3_moves.specs.declared.natives.Completion.{Completion}
use Rattle.es3_machine.specs.Machine.{completed}
use Rattle.heap_rows.specs.Doing.{ended}
use Rattle.page_natives.specs.Natives.{Kept, kept_of, page_table, tells}
use Rattle.module_loader.specs.Turns.{Results}
use Rattle.page_runner.specs.Page.{Deed, Run, evaluator, end_of_turn, value_given, result}
use Rattle.page_runner.specs.Runner.{results_of, HasStore, IsCut, TurnOver, DeedsOver, Came}
use Rattle.page_runner.specs.declared.runner.Runner.{Runner}
use Rattle.page_runner.proofs.Here.{heap_here}

abbrev pub Turn : Type 0
Turn = TurnOf Task EsCompletion Store Touched Kept

abbrev pub one_turn : ℕ → Deed → Turn → ℕ → Results → Store → Kept → Run
one_turn modules d u n r x z = turns (evaluator modules) d (u ∷ []) n r x z

-- what was cut goes on to nothing
pub chain_cut : {E : Type 0} (e : Stop) (z : Kept) (r : RunOf E Store Kept) (go : E → Store → Kept → ℕ → Run) → IsCut e z r → IsCut e z (chain r go)
chain_cut stop.Number z r go is = (is.0, is.1, ap (λ q. chain q go) is.2)
chain_cut stop.Depth z r go is = (is.0, is.1, ap (λ q. chain q go) is.2)
chain_cut stop.Convert z r go is = (is.0, is.1, ap (λ q. chain q go) is.2)
chain_cut stop.Steps z r go is = (is.0, is.1, ap (λ q. chain q go) is.2)
chain_cut stop.Memory z r go is = tt

-- of want of memory nothing is said
pub memory_came : {E : Type 0} (e : Stop) (z : Kept) (r : RunOf E Store Kept) → e ≡ stop.Memory → IsCut e z r
memory_came e z r memory = subst (λ s. IsCut s z r) (sym memory) tt

pub turn_cut : (modules : ℕ) (d : Deed) (u : Turn) (n : ℕ) (r : Results) (x : Store) (z z1 : Kept) (e : Stop) → IsCut e z1 (run (es3 page_table) n (u x z) z) → IsCut e z1 (one_turn modules d u n r x z)
turn_cut modules d u n r x z z1 e is = chain_cut e z1 (run (es3 page_table) n (u x z) z) _ is

-- the end of a turn is told, with the value as it is shown where the turn ended
pub turn_over : (modules : ℕ) (d : Deed) (u : Turn) (n : ℕ) (r : Results) (x : Store) (z : Kept) (c : Completion) (p q : Runner) (over_there : TurnOver c (run (es3 page_table) n (u x z) z) p)
    → q.heap ≡ p.heap → q.machine ≡ p.machine → q.left ≡ p.left → kept_of q.natives ≡ tells (ended (label_of d) (end_of_turn p.heap c) ∷ []) (kept_of p.natives) → results_of q.results.items ≡ result d over_there.how r
    → DeedsOver (one_turn modules d u n r x z) q
turn_over modules d u n r x z c p q there heap machine left told results = record {
  store = there.store;
  here = subst (λ h. HasStore h q.machine there.store) (sym heap) (subst (λ m. HasStore p.heap m there.store) (sym machine) there.here);
  run =
      ap (λ w. chain w (λ e x1 z1 m. over (result d e r) x1 (tells (ended (label_of d) (end_of_turn x1.heap (completed e)) ∷ []) z1) m)) there.run
      ∙ ap (λ h. over (result d there.how r) there.store (tells (ended (label_of d) (end_of_turn h (completed there.how)) ∷ []) (kept_of p.natives)) p.left) (heap_here p.heap p.machine there.store there.here)
      ∙ ap (λ e. over (result d there.how r) there.store (tells (ended (label_of d) (end_of_turn p.heap e) ∷ []) (kept_of p.natives)) p.left) there.came_to
      ∙ ap (λ k. over (result d there.how r) there.store k p.left) (sym told)
      ∙ ap (λ k. over (result d there.how r) there.store (kept_of q.natives) k) (sym left)
      ∙ ap (λ w. over w there.store (kept_of q.natives) q.left) (sym results);
}

-- what is told of a turn that came to its end: want of memory alone can come between
pub turn_told : (modules : ℕ) (d : Deed) (u : Turn) (n : ℕ) (r : Results) (x : Store) (z : Kept) (c : Completion) (p q : Runner) (answer : Result (Unit {0}) Stop) → TurnOver c (run (es3 page_table) n (u x z) z) p
    → q.heap ≡ p.heap → q.machine ≡ p.machine → q.left ≡ p.left → OnOk answer (kept_of q.natives ≡ tells (ended (label_of d) (end_of_turn p.heap c) ∷ []) (kept_of p.natives)) → IfErr answer (λ e. e ≡ stop.Memory)
    → ((e : EsCompletion) → results_of q.results.items ≡ result d e r) → Came answer (one_turn modules d u n r x z) q
turn_told modules d u n r x z c p q (Ok t) there heap machine left told memory results = turn_over modules d u n r x z c p q there heap machine left told (results there.how)
turn_told modules d u n r x z c p q (Err e) there heap machine left told memory results = memory_came e (kept_of q.natives) (one_turn modules d u n r x z) memory

-- a module has another result

other_result : (vs : List Value) (m : ℕ) (v : Value) → m < length vs → (k : ℕ) → results_of (set vs m v) k ≡ cond (nat_eq k m) v (results_of vs k)
other_result vs m v there k = elim (eqb_tells k m) [
  | inl w ↦ ap (λ j. get_or (set vs m v) j Undefined) w.1 ∙ get_or-set_same vs m v Undefined there ∙ sym (ap (λ b. cond b v (results_of vs k)) w.0)
  | inr w ↦ get_or-set_other vs m k v Undefined w.1 ∙ sym (ap (λ b. cond b v (results_of vs k)) w.0)
]

pub loaded : (vs : List Value) (m : ℕ) (v : Value) (how : EsCompletion) (p : t.Tree t.program) (gs : deed.Grants) → m < length vs → v ≡ value_given (completed how) → results_of (set vs m v) ≡ result (deed.to_load m p gs) how (results_of vs)
loaded vs m v how p gs there given = fun_ext (other_result vs m v there) ∙ ap (λ w. λ k. cond (nat_eq k m) w (results_of vs k)) given
