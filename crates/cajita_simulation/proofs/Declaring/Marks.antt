-- The functions that a body declares: their statements, which do nothing, and the marks by which the runtime makes them what the direct meaning makes.
use Rattle.std.proofs.Common.{◌≡◌, ℕ, zero, suc, ◌+◌, ◌*◌, ◌≤◌, ◌<◌, true, false, List, [], ◌∷◌, length, Option, Some, None, refl, sym, ap, ◌∙◌, subst, arith}
use Rattle.std.specs.Prelude.{codes, is_some}
use Rattle.plans.specs.Plans.{bind}
use Rattle.acts.specs.Acts.{replied}
use Rattle.matching.specs.Sides.{Match}
use Rattle.matching.proofs.Rules.{right_enter, left_told}
use Rattle.es3_tree.specs.Tree as t
use Rattle.es3_objects.specs.declared.value.Value.TheVariants as es
use Rattle.es3_language.specs.Store.{Store, name_value}
use Rattle.es3_language.specs.References.{slot, resolve, member}
use Rattle.es3_language.specs.Meaning as Target
use Rattle.rows.specs.Nodes.{Rules}
use Rattle.cajita_tree.specs.Tree as c
use Rattle.cajita_rewrite.specs.Rewrite.{rewritten, runtime_name, joined, single, func_mark, marks}
use Rattle.cajita_meaning.specs.World.{a_closure, World as State, next_name, with_object, declare, object}
use Rattle.cajita_meaning.specs.Asking.{Reply, func_name, count_of, functions_made}
use Rattle.cajita_meaning.specs.Direct.{Item, made}
use Rattle.heap_rows.specs.Opening.{runtime_id}
use Rattle.page_natives.specs.Natives.{Kept}
use Rattle.heap_rows.specs.Doing.{heard}
use Rattle.row_simulation.specs.RowLaw.{shown}
use Rattle.cajita_simulation.specs.Alike.{heard_by}
use Rattle.cajita_simulation.specs.Guest.{NewFunc, NewFuncs}
use Rattle.cajita_simulation.proofs.Doing as Source
use Rattle.cajita_simulation.proofs.Heaps.Opened.{IsOpened}
use Rattle.cajita_simulation.proofs.Heaps.Guards.{func-guard}
use Rattle.cajita_simulation.proofs.Heaps.Silent.{func-silent}
use Rattle.cajita_simulation.proofs.Relation.{Turn, EsValue, Here, env_of, Tags, names_at, AreScopes, In}
use Rattle.cajita_simulation.proofs.Scopes.{in_stays}
use Rattle.cajita_simulation.proofs.Told.{shown_quiet}
use Rattle.cajita_simulation.proofs.Slots.{slot_plan}
use Rattle.cajita_simulation.proofs.Laws.{Cont, Cont', M, sides}
use Rattle.cajita_simulation.proofs.Rows.{Going}
use Rattle.cajita_simulation.proofs.Calls.{runtime_at, callee_at, guard_at}
use Rattle.cajita_simulation.proofs.Closures.{closed_store, shaped_closure}
use Rattle.cajita_simulation.proofs.Calling.Entering.{here_at}
use Rattle.cajita_simulation.proofs.Declaring.Stores.{declared_code, bare_store, named_store, length-marked, func_at, first_there, first_mark}
use Rattle.cajita_simulation.proofs.Declaring.Names.{Placed, declared_world}
use Rattle.cajita_simulation.proofs.Declaring.Relation.{one_each, Few, shaped_bare, opened_bare, opened_marked}

-- where the first statements of a body stand, before the relation holds: names are found, and the runtime's object is what is called so
pub record Entered (J : Here) (g : Tags) (s : Store) : Type 0 where
  pub here : In J g s
  pub are : AreScopes s
  pub runtime : (c : ℕ) (e : EsValue) → name_value runtime_name (names_at s c) ≡ Some e → e ≡ es.Obj runtime_id
  pub opened : IsOpened s.heap

-- six steps for each mark
abbrev pub six : c.Tree c.funcs → ℕ → ℕ
six c.no_funcs m = m
six (c.more_funcs f fs) m = six fs (suc (suc (suc (suc (suc (suc m))))))

pub six_is : (fs : c.Tree c.funcs) (m : ℕ) → six fs m ≡ m + 6 * count_of fs
six_is c.no_funcs m = omega arith
six_is (c.more_funcs f fs) m = let h = six_is fs (suc (suc (suc (suc (suc (suc m)))))) in omega (arith, h)

-- `___.func(f);`
mark_match : {J : Here} {d : ℕ} (params vars : List (List ℕ)) (f : c.Tree c.func) (fs : c.Tree c.funcs) (rest : t.Tree t.stmts) (acc : Option EsValue) (chain out : List ℕ) {p : Source.Plan} {z : List Item} {n : ℕ} {g : Tags} {s : Store} {y : Kept} {m : ℕ} (end' : Cont') (next' : Cont') → J.chain ≡ J.act ∷ out → NewFunc params vars f fs → Entered J g s → name_value (func_name f) (names_at s J.act) ≡ Some (es.Obj (length s.heap.list)) → suc (suc (suc (suc (suc m)))) ≤ 64 * n → heard_by y z ≡ y.told
    → ((acc' : Option EsValue) → suc (suc (suc (suc (suc (suc m))))) ≤ 4294967295 → M J d p z n (bind (Target.list true rest acc' (env_of J) (bare_store fs chain J.by (closed_store (declared_code f chain) J.by s)) end') next') y (suc (suc (suc (suc (suc (suc m)))))))
    → M J d p z n (bind (Target.list true (func_mark f rest) acc (env_of J) (bare_store (c.more_funcs f fs) chain J.by s) end') next') y m
mark_match params vars (c.fun None ps args body) fs rest acc chain out end' next' innermost new e there fits items x = absurd new
mark_match {J = J} {d = d} params vars (c.fun (Some name) ps args body) fs rest acc chain out {p = p} {z = z} {n = n} {g = g} {s = s} {y = y} {m = m} end' next' innermost new e there fits items x =
    let f = c.fun (Some name) ps args body in
    let S = bare_store (c.more_funcs f fs) chain J.by s in
    let v = es.Obj (length s.heap.list) in
    let waits : Cont' = λ e1 s1. bind (Target.on_value_of Target.to_normal e1 s1) (λ e2 s2. bind (Target.list_rest true rest acc (env_of J) end' e2 s2) next') in
    let here : In J g S = in_stays (shaped_bare (c.more_funcs f fs) chain J.by g s) e.are e.are e.here in
    let found : resolve J.chain S name ≡ slot J.act name = ap (λ l. resolve l S name) innermost ∙ here_at S J.act out name (ap is_some there) in
    right_enter (right_enter (callee_at J (codes "func") (single (t.name name)) waits (runtime_at here e.runtime)
    (right_enter (subst (λ q. M J d p z n (bind q (λ e1 s1. bind (Target.on_value_of (Target.after_argument (Target.called (member (es.Obj runtime_id) (codes "func"))) [] t.no_exprs (env_of J)) e1 s1) waits)) y (suc (suc (suc (suc (suc m)))))) (sym (slot_plan name (env_of J) S J.act v new.0.own_name found there))
    (guard_at J func-guard func-silent (v ∷ []) S waits (opened_bare (c.more_funcs f fs) chain J.by s.codes s.heap e.opened) fits items (λ small.
    subst (λ q. M J d p z n (bind q waits) y (suc (suc (suc (suc (suc (suc m))))))) (sym (func_at (length s.codes) (length (declared_code f chain).params) (suc (length s.heap.list)) (length s.heap.list) (env_of J) S y (first_there f fs chain J.by s)))
    (subst (λ q. M J d p z n (waits (Target.gave v) q) y (suc (suc (suc (suc (suc (suc m))))))) (sym (first_mark f fs chain J.by s))
    (x (Target.later (Some v) acc) small))))))))

-- all marks: then each function is what the direct meaning made
pub marks_match : {J : Here} {d : ℕ} (params vars : List (List ℕ)) (fs : c.Tree c.funcs) (rest : t.Tree t.stmts) (acc : Option EsValue) (number : ℕ) (direct chain out : List ℕ) (w : State) (done : State → Reply) (go : Going) (next : Cont) {z : List Item} {n : ℕ} {g : Tags} {s : Store} {y : Kept} {m : ℕ} (end' : Cont') (next' : Cont') → J.chain ≡ J.act ∷ out → NewFuncs params vars fs → Entered J g s → Placed fs (length s.heap.list) (names_at s J.act) → six fs m ≤ 64 * n → heard_by y z ≡ y.told
    → ((acc' : Option EsValue) (z' : List Item) → shown z' ≡ shown z → Few fs m → M J d (bind (replied (done (declared_world fs number direct J.by w)) go) next) z' n (bind (Target.list true rest acc' (env_of J) (named_store fs chain J.by s) end') next') y (six fs m))
    → M J d (bind (replied (functions_made fs number direct J.by w done) go) next) z n (bind (Target.list true (marks fs rest) acc (env_of J) (bare_store fs chain J.by s) end') next') y m
marks_match params vars c.no_funcs rest acc number direct chain out w done go next {z = z} end' next' innermost new e there fits items x = x acc z refl (λ j lt. absurd (omega (arith, lt)))
marks_match {J = J} {d = d} params vars (c.more_funcs f fs) rest acc number direct chain out w done go next {z = z} {n = n} {g = g} {s = s} {y = y} {m = m} end' next' innermost new e there fits items x =
    let told = shown_quiet z (made J.by (next_name J.by w) ∷ []) refl in
    let count = six_is fs (suc (suc (suc (suc (suc (suc m)))))) in
    let code = declared_code f chain in
    let v = object (next_name J.by w) in
    let w1 = declare J.by number (func_name f) v (with_object J.by (a_closure f direct) w) in
    let s1 = closed_store code J.by s in
    let long : length s1.heap.list ≡ suc (suc (length s.heap.list)) = length-marked (length s.codes) (length code.params) J.by s.heap in
    let e1 : Entered J g s1 = record { here = in_stays (shaped_closure g s J.by f direct chain) e.are e.are e.here; are = e.are; runtime = e.runtime; opened = opened_marked (length s.codes) (length code.params) J.by s.heap e.opened } in
    left_told {p = bind (replied (functions_made fs number direct J.by w1 done) go) next} (mark_match params vars f fs (marks fs rest) acc chain out {p = bind (replied (functions_made fs number direct J.by w1 done) go) next} end' next' innermost new.0 e there.0 (omega (arith, fits, count)) (ap (heard y.touching) told ∙ items) (λ acc1 small.
    marks_match params vars fs rest acc1 number direct chain out w1 done go next end' next' innermost new.1 e1 (subst (λ l. Placed fs l (names_at s J.act)) (sym long) there.1) fits (ap (heard y.touching) told ∙ items) (λ acc2 z2 same few.
    x acc2 z2 (same ∙ told) (more m small few))))
  where
    more : (m : ℕ) → suc (suc (suc (suc (suc (suc m))))) ≤ 4294967295 → Few fs (suc (suc (suc (suc (suc (suc m)))))) → (j : ℕ) → j < suc (count_of fs) → m + suc j ≤ 4294967295
    more m small few zero lt = omega (arith, small)
    more m small few (suc j) lt = let h = few j (omega (arith, lt)) in omega (arith, h)

-- `function f(){..}` where it stands does nothing
pub declares_match : (rules : Rules) (turn : Turn) (env : Target.Env) {d : ℕ} (fs : c.Tree c.funcs) (rest : t.Tree t.stmts) (acc : Option EsValue) (s : Store) {p : Source.Plan} {z : List Item} {n : ℕ} {y : Kept} {m : ℕ} (end' : Cont') (next' : Cont') → Match (sides rules turn) d p z n (bind (Target.list true rest acc env s end') next') y (one_each fs m) → Match (sides rules turn) d p z n (bind (Target.list true (joined (rewritten false c.funcs 0 fs) rest) acc env s end') next') y m
unfolding rewritten
declares_match rules turn env c.no_funcs rest acc s end' next' x = x
declares_match rules turn env (c.more_funcs f fs) rest acc s end' next' x = right_enter (declares_match rules turn env fs rest acc s end' next' x)
