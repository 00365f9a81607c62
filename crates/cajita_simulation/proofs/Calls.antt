-- Calls of the runtime's guards: from the call's node to the row of the guard.
use Rattle.std.proofs.Common.{◌≡◌, ℕ, suc, ◌≤◌, ◌*◌, true, false, List, [], ◌∷◌, length, Option, Some, None, refl, sym, ap, ◌∙◌, subst, arith}
use Rattle.std.specs.Prelude.{nat_lt, is_some}
use Rattle.std.proofs.lemmas.Bool.Decides.{nat_tests}
use Rattle.plans.specs.Plans.{enter, bind}
use Rattle.matching.proofs.Rules.{right_enter, right_past}
use Rattle.es3_tree.specs.Tree as t
use Rattle.es3_objects.specs.declared.value.Value.TheVariants as es
use Rattle.es3_heap.specs.Objects.{Objects}
use Rattle.es3_language.specs.Store.{Store, name_value}
use Rattle.es3_language.specs.References.{member}
use Rattle.es3_language.specs.Meaning as Target
use Rattle.cajita_rewrite.specs.Rewrite.{runtime_name, runtime_call}
use Rattle.cajita_meaning.specs.World.{Object, World}
use Rattle.cajita_meaning.specs.Direct.{Item}
use Rattle.heap_rows.specs.Opening.{first, first_count, place_of, runtime_id}
use Rattle.page_natives.specs.Natives.{Kept, page_table}
use Rattle.cajita_simulation.specs.Alike.{heard_by}
use Rattle.cajita_simulation.proofs.Doing as Source
use Rattle.cajita_simulation.proofs.Heaps.Opened.{IsOpened}
use Rattle.cajita_simulation.proofs.Heaps.Guards.{IsGuard, guard_call}
use Rattle.cajita_simulation.proofs.Heaps.Silent.{IsSilent}
use Rattle.cajita_simulation.proofs.Relation.{EsValue, ObjectsAre, Tags, names_at, Temps, Here, env_of, In, Rel, rel_pay}
use Rattle.cajita_simulation.proofs.Slots.{slot_plan}
use Rattle.cajita_simulation.proofs.Laws.{Cont', M, most_steps, steps_hold, begins_there}

first_long : length first.list ≡ first_count
unfolding first
first_long = refl

-- the first objects stay as they are
pub opened_of : {objects : ℕ → List Object} {h : Objects} {m : ℕ} → ObjectsAre first place_of objects h m → IsOpened h
opened_of o = record {
  first = λ i less. o.opened i (let long = first_long in omega (arith, less, long));
  large = let long = first_long in omega (arith, o.large, long);
}

found_runtime : (s : Store) (c : ℕ) (o : Option EsValue) → name_value runtime_name (names_at s c) ≡ o → is_some o ≡ true → ((e : EsValue) → name_value runtime_name (names_at s c) ≡ Some e → e ≡ es.Obj runtime_id) → name_value runtime_name (names_at s c) ≡ Some (es.Obj runtime_id)
found_runtime s c None is bound f = cc
found_runtime s c (Some e) is bound f = is ∙ ap (λ (u : EsValue). let o : Option EsValue = Some u in o) (f e is)

-- the runtime's object is found wherever a form stands
pub runtime_at : {H : Here} {g : Tags} {s : Store} → In H g s → ((c : ℕ) (e : EsValue) → name_value runtime_name (names_at s c) ≡ Some e → e ≡ es.Obj runtime_id) → Target.name_value_plan runtime_name (env_of H) s ≡ Target.give (es.Obj runtime_id) s
runtime_at {H = H} {s = s} here is =
    let p = here.captured in
    slot_plan runtime_name (env_of H) s p.runtime (es.Obj runtime_id) refl p.runtime_at (found_runtime s p.runtime _ refl p.runtime_bound (λ e there. is p.runtime e there))

-- `___.g(..)` from its node: the name and the member are entered, and then the arguments
pub callee_at : (H : Here) {d : ℕ} (guard : List ℕ) (args : t.Tree t.exprs) {p : Source.Plan} {z : List Item} {n : ℕ} {s : Store} {y : Kept} {m : ℕ} (next' : Cont') → Target.name_value_plan runtime_name (env_of H) s ≡ Target.give (es.Obj runtime_id) s → M H d p z n (bind (Target.arguments (Target.called (member (es.Obj runtime_id) guard)) [] args (env_of H) s) next') y (suc (suc m)) → M H d p z n (bind (Target.expr_plan (runtime_call guard args) (env_of H) s) next') y m
callee_at H {d = d} guard args {p = p} {z = z} {n = n} {s = s} {y = y} {m = m} next' found x =
    right_enter (right_enter (subst (λ q. M H d p z n (bind q (λ e s1. bind (Target.on_value_of (Target.dot_target guard) e s1) (λ e1 s2. bind (Target.on_target_of (Target.after_callee args (env_of H)) e1 s2) next'))) y (suc (suc m))) (sym found) x))

pub callee_match : {H : Here} {T : Temps} {d k : ℕ} (guard : List ℕ) (args : t.Tree t.exprs) {p : Source.Plan} {w : World} {z : List Item} {n : ℕ} {g : Tags} {s : Store} {y : Kept} {m : ℕ} (next' : Cont') → Rel H T (suc (suc k)) w z n g s y m → (Rel H T k w z n g s y (suc (suc m)) → M H d p z n (bind (Target.arguments (Target.called (member (es.Obj runtime_id) guard)) [] args (env_of H) s) next') y (suc (suc m))) → M H d p z n (bind (Target.expr_plan (runtime_call guard args) (env_of H) s) next') y m
callee_match {H = H} guard args next' r f = callee_at H guard args next' (runtime_at r.here r.all.scopes.runtime) (f (rel_pay (rel_pay r)))

-- what waits for an array that a guard is given: the guard's call
abbrev pub with_array : List ℕ → Here → Cont' → Cont'
with_array guard H next' e s = bind (Target.on_value_of (λ v s1. Target.arguments (Target.called (member (es.Obj runtime_id) guard)) (v ∷ []) t.no_exprs (env_of H) s1) e s) next'

-- a guard is called with its arguments, where the steps are still looked at: nothing but the first objects and the steps is wanted
guard_enters : (H : Here) {d : ℕ} {guard : List ℕ} {number : ℕ} (is : IsGuard guard number) (vs : List EsValue) (s : Store) {p : Source.Plan} {z : List Item} {n : ℕ} {y : Kept} {m : ℕ} (next' : Cont') → IsOpened s.heap → m ≤ 64 * n → heard_by y z ≡ y.told → (suc m ≤ 4294967295 → M H d p z n (bind (Target.task_plan page_table (Target.native_call number (es.Obj runtime_id) vs (env_of H)) s y) next') (Target.task_state page_table (Target.native_call number (es.Obj runtime_id) vs (env_of H)) s y) (suc m)) → M H d p z n (bind (Target.do_call (Target.called (member (es.Obj runtime_id) guard)) vs (env_of H) s) next') y m
guard_enters H {d = d} {guard = guard} {number = number} is vs s {p = p} {z = z} {n = n} {y = y} {m = m} next' opened fits items f =
    let cases = elim (nat_lt most_steps m) as (λ b. nat_lt most_steps m ≡ b → M H d p z n (enter (Target.native_call number (es.Obj runtime_id) vs (env_of H)) s next') y m) [
      | true ↦ λ past. right_past (grind (arith, nat_tests)) fits (begins_there z y items)
      | false ↦ λ few. right_enter (f (grind (arith, nat_tests)))
    ] in
    subst (λ q. M H d p z n (bind q next') y m) (sym (guard_call guard number is vs (env_of H) s opened)) (cases refl)

-- one that touches nothing
pub guard_at : (H : Here) {d : ℕ} {guard : List ℕ} {number : ℕ} (is : IsGuard guard number) → IsSilent number → (vs : List EsValue) (s : Store) {p : Source.Plan} {z : List Item} {n : ℕ} {y : Kept} {m : ℕ} (next' : Cont') → IsOpened s.heap → m ≤ 64 * n → heard_by y z ≡ y.told → (suc m ≤ 4294967295 → M H d p z n (bind (Target.task_plan page_table (Target.native_call number (es.Obj runtime_id) vs (env_of H)) s y) next') y (suc m)) → M H d p z n (bind (Target.do_call (Target.called (member (es.Obj runtime_id) guard)) vs (env_of H) s) next') y m
guard_at H {d = d} {number = number} is silent vs s {p = p} {z = z} {n = n} {y = y} {m = m} next' opened fits items f =
    guard_enters H is vs s next' opened fits items (λ small. subst (λ o. M H d p z n (bind (Target.task_plan page_table (Target.native_call number (es.Obj runtime_id) vs (env_of H)) s y) next') o (suc m)) (sym (silent H.by (es.Obj runtime_id) vs s.heap y)) (f small))

pub guard_match : {H : Here} {T : Temps} {d k : ℕ} {guard : List ℕ} {number : ℕ} (is : IsGuard guard number) (vs : List EsValue) {p : Source.Plan} {w : World} {z : List Item} {n : ℕ} {g : Tags} {s : Store} {y : Kept} {m : ℕ} (next' : Cont') → Rel H T k w z n g s y m → (suc m ≤ 4294967295 → M H d p z n (bind (Target.task_plan page_table (Target.native_call number (es.Obj runtime_id) vs (env_of H)) s y) next') (Target.task_state page_table (Target.native_call number (es.Obj runtime_id) vs (env_of H)) s y) (suc m)) → M H d p z n (bind (Target.do_call (Target.called (member (es.Obj runtime_id) guard)) vs (env_of H) s) next') y m
guard_match {H = H} is vs {s = s} next' r f = guard_enters H is vs s next' (opened_of r.all.objects) (steps_hold r) r.all.items f
