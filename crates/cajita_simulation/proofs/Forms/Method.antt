-- Method calls and `new`: `o.k(a)` is `___.callPub(o,"k",[a])`, and `new f(a)` is `___.construct(f,[a])`.
use Rattle.std.proofs.Common.{◌≡◌, ℕ, suc, ◌+◌, ◌-◌, ◌≤◌, ◌<◌, false, List, [], ◌∷◌, ◌++◌, length, inl, Option, Some, refl, sym, ap, ◌∙◌, subst, arith, zero}
use Rattle.std.specs.Prelude.{codes}
use Rattle.plans.specs.Plans.{bind}
use Rattle.matching.proofs.Rules.{right_enter}
use Rattle.es3_tree.specs.Tree as t
use Rattle.es3_objects.specs.declared.value.Value.TheVariants as es
use Rattle.es3_heap.specs.Objects.{Objects, with_object, class_of}
use Rattle.es3_heap.specs.Making.{array_object}
use Rattle.es3_heap.proofs.Laws.{object_at-with_object}
use Rattle.es3_language.specs.Store.{Store, with_heap}
use Rattle.es3_language.specs.References.{member}
use Rattle.es3_language.specs.Meaning as Target
use Rattle.rows.specs.Rows as r
use Rattle.rows.specs.Rows.{Row, Sight, Handle}
use Rattle.rows.specs.Arguments.{value, values_from}
use Rattle.rows.specs.Public.{pub_get}
use Rattle.rows.specs.Guards as guards
use Rattle.cajita_tree.specs.Tree as c
use Rattle.cajita_rewrite.specs.Rewrite.{rewritten, temps, runtime_call, pair, triple}
use Rattle.cajita_meaning.specs.World.{Value, World}
use Rattle.cajita_meaning.specs.Direct as Direct
use Rattle.cajita_meaning.specs.Direct.{Item}
use Rattle.heap_rows.specs.Doing as rows
use Rattle.heap_rows.specs.Doing.{Done}
use Rattle.heap_rows.specs.Opening.{place_of, empty_page, runtime_id}
use Rattle.guard_runtime.specs.Guards.{by_row, list_of, list_in, call_pub, call_pub_on, construct, on_list}
use Rattle.row_simulation.specs.Among.{IsAmongObjects}
use Rattle.row_simulation.proofs.Row.{vals_length, vals_append}
use Rattle.row_simulation.proofs.Relation as row_relation
use Rattle.row_simulation.proofs.Tables.{tables}
use Rattle.page_natives.specs.Natives.{Kept, tells, page_table}
use Rattle.cajita_simulation.specs.Guest.{Guest}
use Rattle.cajita_simulation.proofs.Doing as Source
use Rattle.cajita_simulation.proofs.Heaps.Arrays.{array_items_new}
use Rattle.cajita_simulation.proofs.Heaps.Guards.{IsGuard, call_pub-guard, construct-guard}
use Rattle.cajita_simulation.proofs.Relation.{EsValue, val_keep, Vals, Here, env_of, Tags, Temps, Rel, rel_less, rel_pay, stays_step}
use Rattle.cajita_simulation.proofs.Laws.{ValueLaw, ValueBody, NextValue, Throws, value_from, value_since, Cont, Cont', M, room_part, with_part}
use Rattle.cajita_simulation.proofs.Calls.{callee_match}
use Rattle.cajita_simulation.proofs.Records.{new_array_match}
use Rattle.cajita_simulation.proofs.Forms.Values.{Values}
use Rattle.cajita_simulation.proofs.Forms.Items.{items_match}
use Rattle.cajita_simulation.proofs.Forms.Key.{key_match}
use Rattle.cajita_simulation.proofs.Forms.Call.{tail_next}
use Rattle.cajita_simulation.proofs.Calling.Laws.{ClosureLaw, NativeLaw}
use Rattle.cajita_simulation.proofs.Calling.Calls.{Looked, EndsCalling, IsCalling, calling_match}
use Rattle.cajita_simulation.proofs.Calling.BuiltIns.{fewer}

-- the rows: what they call was looked at just before

method_ends : (b : ℕ) (f o : Handle) (xs : List Handle) (s : Sight) (l : Looked) → length xs ≤ b → EndsCalling b ((f, s) ∷ l) (guards.call_end f o xs s)
method_ends b f o xs (r.a_function sort) l few = (inl (refl, tt), inl few)
method_ends b f o xs s l few = tt

pub call_calling : (n : ℕ) → IsCalling (n - 1) [] (guards.call_pub n)
call_calling n = λ s. by_sight s
  where
    by_sight : (s : Sight) → IsCalling (n - 1) ((value 0 n, s) ∷ []) (guards.on_object r.to_get (value 0 n) (value 1 n) (λ s k. r.looks (pub_get (value 0 n) s k) (λ f. r.ends (guards.call_end (pub_get (value 0 n) s k) (value 0 n) (values_from 2 (n - 2)) f))) s)
    by_sight r.nothing = tt
    by_sight r.a_null = tt
    by_sight s = λ us f. method_ends (n - 1) (pub_get (value 0 n) s us) (value 0 n) (values_from 2 (n - 2)) f ((value 0 n, s) ∷ []) (fewer n)

values_long : (i n : ℕ) → length (values_from i n) ≡ n
values_long i zero = refl
values_long i (suc n) = ap suc (values_long (i + 1) n)

pub construct_calling : (n : ℕ) → IsCalling (n - 1) [] (guards.construct n)
construct_calling n = λ s. by_sight s
  where
    by_sight : (s : Sight) → IsCalling (n - 1) ((r.held 0, s) ∷ []) (guards.new_row (values_from 1 (n - 1)) s)
    by_sight (r.a_function (r.constructor maker)) = (inl (refl, tt), inl (let l = values_long 1 (n - 1) in omega (arith, l)))
    by_sight (r.a_function sort) = tt
    by_sight s = tt

-- what a guard of a row does, that is given a new array of the values behind others
pub record IsArrayRow (H : Here) (number : ℕ) (q : ℕ → Row) (front : List EsValue) : Type 0 where
  pub plan : (us : List EsValue) (h : Objects) (s : Store) (y : Kept) → length us < 4294967296 → Target.task_plan page_table (Target.native_call number (es.Obj runtime_id) (front ++ es.Obj (length h.list) ∷ []) (env_of H)) (with_heap s (with_object h (array_object us))) y ≡ (let d = (rows.does place_of H.by (q (length (front ++ us))) (front ++ us) (with_object h (array_object us)) empty_page []).done in Target.reply_plan d.reply (env_of H) (with_heap s d.heap))
  pub kept : (us : List EsValue) (h : Objects) (s : Store) (y : Kept) → length us < 4294967296 → Target.task_state page_table (Target.native_call number (es.Obj runtime_id) (front ++ es.Obj (length h.list) ∷ []) (env_of H)) (with_heap s (with_object h (array_object us))) y ≡ tells (rows.does place_of H.by (q (length (front ++ us))) (front ++ us) (with_object h (array_object us)) empty_page []).done.items y

-- the list is the array's
list_new : (h : Objects) (us : List EsValue) → length us < 4294967296 → list_of (with_object h (array_object us)) (es.Obj (length h.list)) ≡ Some us
list_new h us few =
    let g = with_object h (array_object us) in
    ap (λ q. list_in q g (length h.list)) (ap class_of (object_at-with_object h (array_object us))) ∙ ap (λ (l : List EsValue). let o : Option (List EsValue) = Some l in o) (array_items_new h us few)

call_done : (H : Here) (o k : EsValue) (us : List EsValue) (h : Objects) → length us < 4294967296 → let g = with_object h (array_object us) in call_pub H.by o k (es.Obj (length h.list)) g ≡ by_row (guards.call_pub (suc (suc (length us)))) H.by (o ∷ k ∷ us) g
call_done H o k us h few =
    let g = with_object h (array_object us) in
    let n : 2 + length us ≡ suc (suc (length us)) = omega arith in
    ap (λ l. call_pub_on l H.by o k g) (list_new h us few) ∙ ap (λ i. by_row (guards.call_pub i) H.by (o ∷ k ∷ us) g) n

call_row : (H : Here) (o k : EsValue) → IsArrayRow H 76 guards.call_pub (o ∷ k ∷ [])
call_row H o k = record {
  plan = λ us h s y few.
      ap (λ (d : Done). Target.reply_plan d.reply (env_of H) (with_heap s d.heap)) (call_done H o k us h few);
  kept = λ us h s y few. ap (λ (d : Done). tells d.items y) (call_done H o k us h few);
}

construct_done : (H : Here) (f : EsValue) (us : List EsValue) (h : Objects) → length us < 4294967296 → let g = with_object h (array_object us) in construct H.by f (es.Obj (length h.list)) g ≡ by_row (guards.construct (suc (length us))) H.by (f ∷ us) g
construct_done H f us h few =
    let g = with_object h (array_object us) in
    ap (λ l. on_list l H.by g (λ xs. by_row (guards.construct (suc (length xs))) H.by (f ∷ xs) g)) (list_new h us few)

construct_row : (H : Here) (f : EsValue) → IsArrayRow H 78 guards.construct (f ∷ [])
construct_row H f = record {
  plan = λ us h s y few.
      ap (λ (d : Done). Target.reply_plan d.reply (env_of H) (with_heap s d.heap)) (construct_done H f us h few);
  kept = λ us h s y few. ap (λ (d : Done). tells d.items y) (construct_done H f us h few);
}

short : (n l : ℕ) → n ≤ l + 2 → l < 4294967295 → n - 1 < 4294967296
short zero l two few = omega arith
short (suc n) l two few = omega (arith, two, few)

-- from the array on
array_row_match : {H : Here} {T : Temps} {d k : ℕ} {guard : List ℕ} {number : ℕ} → H.by < 64 → (closures : ClosureLaw H d) (natives : NativeLaw H d) (a : ℕ) → a < d → IsGuard guard number → (q : ℕ → Row) → ((n : ℕ) → IsAmongObjects (q n)) → ((n : ℕ) → IsCalling (n - 1) [] (q n)) → (front vs : List Value) (efront us : List EsValue) {w : World} {z : List Item} {n : ℕ} {g : Tags} {s : Store} {y : Kept} {m : ℕ} (next : Cont) (next' : Cont') → IsArrayRow H number q efront → Vals s.heap front efront → Vals s.heap vs us → length us ≤ m → length (front ++ vs) ≤ length vs + 2 → Rel H T (suc (suc k)) w z n g s y m → NextValue H T a k w g s m next next'
    → M H a (bind (Source.act_plan H 1 (Source.kept (front ++ vs)) (Direct.rows q H.around (0 ∷ []) Direct.give) w) next) z n (bind (Target.do_call (Target.called (member (es.Obj runtime_id) guard)) (efront ++ es.Obj (length s.heap.list) ∷ []) (env_of H) (with_heap s (with_object s.heap (array_object us)))) next') y m
array_row_match {H = H} {T = T} {k = k} {number = number} below closures natives a lt is q among calling front vs efront us {w = w} {z = z} {n = n} {g = g} {s = s} {y = y} {m = m} next next' row fronts are many two r0 x =
    let go = Source.answered H 1 (Source.kept (front ++ vs)) (Direct.or_throw Direct.give) in
    let p0 = bind (Source.act_plan H 1 (Source.kept (front ++ vs)) (Direct.rows q H.around (0 ∷ []) Direct.give) w) next in
    let g1 = with_object s.heap (array_object us) in
    let s1 = with_heap s g1 in
    new_array_match is efront us next' many r0 (λ small r1 k1.
    let all = vals_append g1 front vs efront us (row_relation.vals_keep k1.heap.objects front efront fronts) (row_relation.vals_keep k1.heap.objects vs us are) in
    subst (λ o. M H a p0 z n (bind (Target.task_plan page_table (Target.native_call number (es.Obj runtime_id) (efront ++ es.Obj (length s.heap.list) ∷ []) (env_of H)) s1 y) next') o (suc m)) (sym (row.kept us s.heap s y (omega (arith, many, small))))
    (subst (λ o. M H a p0 z n (bind o next') (tells (rows.does place_of H.by (q (length (efront ++ us))) (efront ++ us) g1 empty_page []).done.items y) (suc m)) (sym (row.plan us s.heap s y (omega (arith, many, small))))
    (subst (λ l. let d = (rows.does place_of H.by (q l) (efront ++ us) g1 empty_page []).done in M H a p0 z n (bind (Target.reply_plan d.reply (env_of H) (with_heap s d.heap)) next') (tells d.items y) (suc m)) (vals_length g1 (front ++ vs) (efront ++ us) all)
    (calling_match {k = k} below closures natives a lt (q (length (front ++ vs))) (among (length (front ++ vs))) (length (front ++ vs) - 1) (short (length (front ++ vs)) (length vs) two (let l = vals_length s.heap vs us are in omega (arith, many, small, l))) (calling (length (front ++ vs))) (front ++ vs) (efront ++ us) empty_page go next next' small all r1 (tail_next (Source.kept (front ++ vs)) (value_from {j = k} {k = k} (omega arith) (omega arith) k1 x))))))

-- what waits for the array: the guard's call, with the values before it
abbrev with_list : List ℕ → List EsValue → Here → Cont' → Cont'
with_list guard efront H next' e s = bind (Target.on_value_of (λ v s1. Target.arguments (Target.called (member (es.Obj runtime_id) guard)) (efront ++ v ∷ []) t.no_exprs (env_of H) s1) e s) next'

throws_list : {H : Here} {T : Temps} {d k : ℕ} {w : World} {g : Tags} {s : Store} {i : ℕ} {next : Cont} {next' : Cont'} (guard : List ℕ) (efront : List EsValue) → Throws H T d k w g s i next next' → Throws H T d k w g s i next (with_list guard efront H next')
throws_list guard efront x = record { on = λ c le v e w z n g s y m is r k. x.on c le v e w z n g s y m is r k }

pub method_body : {H : Here} {d b q : ℕ} {e : c.Tree c.expr} {e' : t.Tree t.expr} → H.by < 64 → ClosureLaw H d → NativeLaw H d → (law : Values H d) → ValueLaw H d b q e e' → (key : c.Tree c.key) → Guest H.vars H.free c.key key → (es : c.Tree c.exprs) → Guest H.vars H.free c.exprs es → ValueBody H d b (q + (temps c.key key + temps c.exprs es)) (c.method e key es) (runtime_call (codes "callPub") (triple e' (rewritten false c.key (b + q) key) (t.array (rewritten false c.exprs (b + (q + temps c.key key)) es))))
method_body {H = H} {b = b} {q = q} {e' = e'} below closures natives law pe key guest_key es guest = record {
  on = λ {k = k} {next = next} {next' = next'} lt room r0 x.
      let key' = rewritten false c.key (b + q) key in
      let list' = t.array (rewritten false c.exprs (b + (q + temps c.key key)) es) in
      let act = λ (vs : ℕ). Direct.rows guards.call_pub H.around (vs ∷ []) Direct.give in
      callee_match (codes "callPub") (triple e' key' list') next' r0 (λ r1.
      with_part lt (room_part (omega arith) (omega arith) room) (omega arith) (omega arith) pe r1 x.throws (λ c1 le1 o u w1 z1 n1 g1 s1 y1 m1 is1 r2 k1.
      let x1 = value_since le1 k1 (value_from {j = suc k} {k = suc k} (omega arith) (omega arith) (stays_step (omega arith)) x) in
      key_match law key guest_key 2 (Source.one o) _ _ next next' (omega arith) (room_part (omega arith) (omega arith) room) (omega arith) (omega arith) r2 x1.throws (λ c2 le2 p f w2 z2 n2 g2 s2 y2 m2 is2 r3 k2.
      let x2 = value_since le2 k2 x1 in
      right_enter (items_match law es guest (o ∷ p ∷ []) [] [] c2 (b + (q + temps c.key key)) (suc (suc k)) (suc k) act next (with_list (codes "callPub") (u ∷ f ∷ []) H next') (omega arith) (room_part (omega arith) (omega arith) room) tt (omega arith) (rel_less (omega arith) (rel_pay r3)) (stays_step {j = suc m2} (omega arith)) (omega arith) (throws_list (codes "callPub") (u ∷ f ∷ []) x2.throws) (record {
        on = λ c3 le3 vs us w3 z3 n3 g3 s3 y3 m3 are many r4 k3.
            array_row_match {k = suc k} below closures natives c3 (omega arith) call_pub-guard guards.call_pub tables.call_pub call_calling (o ∷ p ∷ []) vs (u ∷ f ∷ []) us next next' (call_row H u f) (val_keep k3.heap o u (val_keep k2.heap o u is1), (val_keep k3.heap p f is2, tt)) are many (omega arith) (rel_less (omega arith) r4) (value_from {j = suc k} {k = suc k} le3 (omega arith) k3 x2);
      })))));
}

pub new_body : {H : Here} {d b q : ℕ} {e : c.Tree c.expr} {e' : t.Tree t.expr} → H.by < 64 → ClosureLaw H d → NativeLaw H d → (law : Values H d) → ValueLaw H d b q e e' → (es : c.Tree c.exprs) → Guest H.vars H.free c.exprs es → ValueBody H d b (q + temps c.exprs es) (c.new e es) (runtime_call (codes "construct") (pair e' (t.array (rewritten false c.exprs (b + q) es))))
new_body {H = H} {b = b} {q = q} {e' = e'} below closures natives law pe es guest = record {
  on = λ {k = k} {next = next} {next' = next'} lt room r0 x.
      let list' = t.array (rewritten false c.exprs (b + q) es) in
      let act = λ (vs : ℕ). Direct.rows guards.construct H.around (vs ∷ []) Direct.give in
      callee_match (codes "construct") (pair e' list') next' r0 (λ r1.
      with_part lt (room_part (omega arith) (omega arith) room) (omega arith) (omega arith) pe r1 x.throws (λ c1 le1 o u w1 z1 n1 g1 s1 y1 m1 is1 r2 k1.
      let x1 = value_since le1 k1 (value_from {j = suc k} {k = suc k} (omega arith) (omega arith) (stays_step (omega arith)) x) in
      right_enter (items_match law es guest (o ∷ []) [] [] c1 (b + q) (suc (suc k)) (suc k) act next (with_list (codes "construct") (u ∷ []) H next') (omega arith) (room_part (omega arith) (omega arith) room) tt (omega arith) (rel_less (omega arith) (rel_pay r2)) (stays_step {j = suc m1} (omega arith)) (omega arith) (throws_list (codes "construct") (u ∷ []) x1.throws) (record {
        on = λ c3 le3 vs us w3 z3 n3 g3 s3 y3 m3 are many r4 k3.
            array_row_match {k = suc k} below closures natives c3 (omega arith) construct-guard guards.construct tables.construct construct_calling (o ∷ []) vs (u ∷ []) us next next' (construct_row H u) (val_keep k3.heap o u is1, tt) are many (omega arith) (rel_less (omega arith) r4) (value_from {j = suc k} {k = suc k} le3 (omega arith) k3 x1);
      }))));
}
