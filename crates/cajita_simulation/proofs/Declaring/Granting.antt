-- The marks of the functions that a body declares, where other objects stand behind these: after the last mark each is what the direct meaning made.
use Rattle.std.proofs.Common.{◌≡◌, ℕ, suc, ◌*◌, ◌≤◌, ◌<◌, true, List, [], ◌∷◌, length, Option, Some, None, refl, sym, ap, ◌∙◌, subst, arith}
use Rattle.std.specs.Prelude.{codes, is_some}
use Rattle.plans.specs.Plans.{bind}
use Rattle.acts.specs.Acts.{replied}
use Rattle.matching.proofs.Rules.{right_enter, left_told}
use Rattle.es3_tree.specs.Tree as t
use Rattle.es3_objects.specs.declared.value.Value.TheVariants as es
use Rattle.es3_heap.specs.Objects.{Objects}
use Rattle.es3_language.specs.Store.{Store, name_value, with_heap}
use Rattle.es3_language.specs.References.{slot, resolve, member}
use Rattle.es3_language.specs.Meaning as Target
use Rattle.cajita_tree.specs.Tree as c
use Rattle.cajita_rewrite.specs.Rewrite.{runtime_name, single, func_mark, marks}
use Rattle.cajita_meaning.specs.World.{a_closure, made_name, World as State, next_name, with_object, declare, object}
use Rattle.cajita_meaning.specs.Asking.{Reply, func_name, functions_made}
use Rattle.cajita_meaning.specs.Direct.{Item, made}
use Rattle.heap_rows.specs.Opening.{first, runtime_id}
use Rattle.page_natives.specs.Natives.{Kept}
use Rattle.row_simulation.proofs.Naming.{where_other}
use Rattle.heap_rows.specs.Doing.{heard}
use Rattle.row_simulation.specs.RowLaw.{shown}
use Rattle.cajita_simulation.specs.Alike.{heard_by}
use Rattle.cajita_simulation.specs.Guest.{Names, Guest, NewFunc, NewFuncs}
use Rattle.cajita_simulation.proofs.Doing as Source
use Rattle.cajita_simulation.proofs.Heaps.Opened.{IsOpened}
use Rattle.cajita_simulation.proofs.Heaps.Guards.{func-guard}
use Rattle.cajita_simulation.proofs.Heaps.Silent.{func-silent}
use Rattle.cajita_simulation.proofs.Heaps.Functions.{marked_object}
use Rattle.cajita_simulation.proofs.Relation.{EsValue, Here, env_of, Tags, names_at, AreScopes, Captured, In, objects_step}
use Rattle.cajita_simulation.proofs.Scopes.{in_stays}
use Rattle.cajita_simulation.proofs.Told.{shown_quiet}
use Rattle.cajita_simulation.proofs.Changes.{shaped_heap}
use Rattle.cajita_simulation.proofs.Slots.{slot_plan}
use Rattle.cajita_simulation.proofs.Laws.{Cont, Cont', M}
use Rattle.cajita_simulation.proofs.Rows.{Going}
use Rattle.cajita_simulation.proofs.Calls.{opened_of, runtime_at, callee_at, guard_at}
use Rattle.cajita_simulation.proofs.Calling.Entering.{here_at}
use Rattle.cajita_simulation.proofs.Declaring.Stores.{declared_code, named_at, func_at}
use Rattle.cajita_simulation.proofs.Declaring.Names.{Placed, all_objects, declared_world}
use Rattle.cajita_simulation.proofs.Declaring.Marks.{six, six_is}
use Rattle.cajita_simulation.proofs.Declaring.Awaiting.{Awaits, AllAwait, await_later, Begun, Granted, begun_next, named_next, Later, later_refl, later_trans, later_next}

-- `___.func(f);`
await_mark : {J : Here} {d : ℕ} (params vars : List (List ℕ)) (S : Store) (h : Objects) (f : c.Tree c.func) (fs : c.Tree c.funcs) (rest : t.Tree t.stmts) (acc : Option EsValue) (chain out : List ℕ) (place : ℕ) {p : Source.Plan} {z : List Item} {n : ℕ} {g : Tags} {y : Kept} {m : ℕ} (end' : Cont') (next' : Cont') → J.chain ≡ J.act ∷ out → NewFunc params vars f fs → In J g S → AreScopes S → ((a : ℕ) (e : EsValue) → name_value runtime_name (names_at S a) ≡ Some e → e ≡ es.Obj runtime_id) → (awaits : Awaits f chain J.by place S.codes h) → IsOpened h → name_value (func_name f) (names_at S J.act) ≡ Some (es.Obj place) → suc (suc (suc (suc (suc m)))) ≤ 64 * n → heard_by y z ≡ y.told
    → ((acc' : Option EsValue) → suc (suc (suc (suc (suc (suc m))))) ≤ 4294967295 → M J d p z n (bind (Target.list true rest acc' (env_of J) (with_heap S (named_at h place (marked_object awaits.number (length (declared_code f chain).params) J.by (suc place)) J.by)) end') next') y (suc (suc (suc (suc (suc (suc m)))))))
    → M J d p z n (bind (Target.list true (func_mark f rest) acc (env_of J) (with_heap S h) end') next') y m
await_mark params vars S h (c.fun None ps args body) fs rest acc chain out place end' next' innermost new stands are runtime awaits opened there fits items x = absurd new
await_mark {J = J} {d = d} params vars S h (c.fun (Some name) ps args body) fs rest acc chain out place {p = p} {z = z} {n = n} {g = g} {y = y} {m = m} end' next' innermost new stands are runtime awaits opened there fits items x =
    let f = c.fun (Some name) ps args body in
    let s1 = with_heap S h in
    let v = es.Obj place in
    let waits : Cont' = λ e1 s2. bind (Target.on_value_of Target.to_normal e1 s2) (λ e2 s3. bind (Target.list_rest true rest acc (env_of J) end' e2 s3) next') in
    let here : In J g s1 = in_stays (shaped_heap g S h) are are stands in
    let found : resolve J.chain s1 name ≡ slot J.act name = ap (λ l. resolve l s1 name) innermost ∙ here_at s1 J.act out name (ap is_some there) in
    right_enter (right_enter (callee_at J (codes "func") (single (t.name name)) waits (runtime_at here runtime)
    (right_enter (subst (λ q. M J d p z n (bind q (λ e1 s2. bind (Target.on_value_of (Target.after_argument (Target.called (member (es.Obj runtime_id) (codes "func"))) [] t.no_exprs (env_of J)) e1 s2) waits)) y (suc (suc (suc (suc (suc m)))))) (sym (slot_plan name (env_of J) s1 J.act v new.0.own_name found there))
    (guard_at J func-guard func-silent (v ∷ []) s1 waits opened fits items (λ small.
    subst (λ q. M J d p z n (bind q waits) y (suc (suc (suc (suc (suc (suc m))))))) (sym (func_at awaits.number (length (declared_code f chain).params) (suc place) place (env_of J) s1 y awaits.there))
    (x (Target.later (Some v) acc) small)))))))

-- all marks: then each function is what the direct meaning made
pub awaiting_match : {J : Here} {d : ℕ} (params vars : List (List ℕ)) (S : Store) (base : Objects) (fs : c.Tree c.funcs) (rest : t.Tree t.stmts) (acc : Option EsValue) (number place : ℕ) (direct chain out : List ℕ) (w : State) (done : State → Reply) (go : Going) (next : Cont) {known free : Names} {z : List Item} {n : ℕ} {g : Tags} {h : Objects} {y : Kept} {m : ℕ} (end' : Cont') (next' : Cont')
    → J.by < 64 → J.chain ≡ J.act ∷ out → NewFuncs params vars fs → In J g S → AreScopes S → ((a : ℕ) (e : EsValue) → name_value runtime_name (names_at S a) ≡ Some e → e ≡ es.Obj runtime_id) → Captured known free J.by g direct chain S → Guest known free c.funcs fs → AllAwait fs chain J.by place S.codes h → Placed fs place (names_at S J.act) → length base.list ≤ place → length first.list ≤ place → Begun w.objects base g (with_heap S h) m → six fs m ≤ 64 * n → heard_by y z ≡ y.told
    → ((acc' : Option EsValue) (z' : List Item) (h' : Objects) → shown z' ≡ shown z → Begun (all_objects fs direct J.by w.objects) base g (with_heap S h') (six fs m) → Granted fs place J.by direct w.objects h' → Later h h' → M J d (bind (replied (done (declared_world fs number direct J.by w)) go) next) z' n (bind (Target.list true rest acc' (env_of J) (with_heap S h') end') next') y (six fs m))
    → M J d (bind (replied (functions_made fs number direct J.by w done) go) next) z n (bind (Target.list true (marks fs rest) acc (env_of J) (with_heap S h) end') next') y m
awaiting_match params vars S base c.no_funcs rest acc number place direct chain out w done go next {z = z} {h = h} end' next' below innermost new stands are runtime captured guest awaits there new_place large begun fits items x = x acc z h refl begun tt later_refl
awaiting_match {J = J} {d = d} params vars S base (c.more_funcs f fs) rest acc number place direct chain out w done go next {z = z} {n = n} {g = g} {h = h} {y = y} {m = m} end' next' below innermost new stands are runtime captured guest awaits there new_place large begun fits items x =
    let told = shown_quiet z (made J.by (next_name J.by w) ∷ []) refl in
    let count = six_is fs (suc (suc (suc (suc (suc (suc m)))))) in
    let v = object (next_name J.by w) in
    let w1 = declare J.by number (func_name f) v (with_object J.by (a_closure f direct) w) in
    let h1 = named_at h place (marked_object awaits.0.number (length (declared_code f chain).params) J.by (suc place)) J.by in
    left_told {p = bind (replied (functions_made fs number direct J.by w1 done) go) next} (await_mark params vars S h f fs (marks fs rest) acc chain out place {p = bind (replied (functions_made fs number direct J.by w1 done) go) next} end' next' innermost new.0 stands are runtime awaits.0 (opened_of begun.objects) there.0 (omega (arith, fits, count)) (ap (heard y.touching) told ∙ items) (λ acc1 small.
    let next1 = begun_next g S base h J.by f direct chain place awaits.0 below (omega (arith, small)) new_place large are captured guest.0 begun in
    let begun1 : Begun w1.objects base g (with_heap S h1) (suc (suc (suc (suc (suc (suc m)))))) = record { objects = objects_step (omega arith) next1.objects; keeps = next1.keeps; no_node = next1.no_node; closures = next1.closures } in
    let later = await_later fs chain J.by (suc (suc place)) S.codes h h1 (λ i o le e. where_other h place _ (marked_object awaits.0.number (length (declared_code f chain).params) J.by (suc place)) J.by awaits.0.there refl i (λ same. omega (arith, le, same)) ∙ e) awaits.1 in
    awaiting_match {J = J} params vars S base fs rest acc1 number (suc (suc place)) direct chain out w1 done go next {h = h1} end' next' below innermost new.1 stands are runtime captured guest.1 later there.1 (omega (arith, new_place)) (omega (arith, large)) begun1 fits (ap (heard y.touching) told ∙ items) (λ acc2 z2 h2 same begun2 given still.
    x acc2 z2 h2 (same ∙ told) begun2 (still.still.named (made_name J.by (length (w.objects J.by))) place (named_next g S base h J.by f direct chain place awaits.0 below begun), given) (later_trans (later_next g S base h J.by f direct chain place awaits.0) still))))
