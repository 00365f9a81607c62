-- Records: keys with their values on both sides, and the new record of them that the module makes.
use Rattle.std.proofs.Common.{◌≡◌, ℕ, suc, ◌≤◌, ◌<◌, true, false, List, [], ◌∷◌, ◌++◌, length, Some, cond, refl, sym, ap, ◌∙◌, subst, arith, inl, inr}
use Rattle.std.specs.Prelude.{codes, nat_eq, nat_lt, slice_get}
use Rattle.std.specs.Cmp.Lexicographic.{same_text}
use Rattle.std.proofs.lemmas.Option.{slice_get_within}
use Rattle.std.proofs.lemmas.Bool.Decides.{nat_tests}
use Rattle.plans.specs.Plans.{bind}
use Rattle.matching.proofs.Rules.{right_past, left_told}
use Rattle.caja_units.specs.Units.{same_units, is_hidden}
use Rattle.es3_objects.specs.declared.value.Value.TheVariants as es
use Rattle.es3_objects.specs.declared.value.Tag.TheVariants as tag
use Rattle.es3_heap.specs.Objects as heap
use Rattle.es3_heap.specs.Objects.{Property, Objects, plain_attrs}
use Rattle.es3_heap.specs.Properties.{find, written, defined}
use Rattle.es3_heap.specs.Making.{array_object, count_at}
use Rattle.es3_language.specs.Store.{Store, with_heap}
use Rattle.es3_language.specs.References.{member}
use Rattle.es3_language.specs.Meaning as Target
use Rattle.cajita_tree.specs.Tree as c
use Rattle.cajita_meaning.specs.World as World
use Rattle.cajita_meaning.specs.World.{Value, Pairs, Object, a_record, a_closure, with_last, with_object, with_value, with_values, next_name, World as State}
use Rattle.cajita_meaning.specs.Asking.{paired, a_record_of}
use Rattle.cajita_meaning.specs.Direct as Direct
use Rattle.cajita_meaning.specs.Direct.{Item, made}
use Rattle.heap_rows.specs.Marks.{read_mark, set_mark}
use Rattle.heap_rows.specs.Doing.{Page}
use Rattle.heap_rows.specs.Opening.{first, place_of, runtime_id}
use Rattle.page_natives.specs.Natives.{Kept, page_of, page_table}
use Rattle.row_simulation.specs.Correspond as rows
use Rattle.row_simulation.specs.Correspond.{PropsAre}
use Rattle.row_simulation.specs.RowLaw.{PagesAre}
use Rattle.row_simulation.proofs.Keys.{apart_too, hidden_read, hidden_set}
use Rattle.row_simulation.proofs.Copies.{empty_props, proto_zero}
use Rattle.row_simulation.proofs.Props.{props_written}
use Rattle.row_simulation.proofs.Relation as row_relation
use Rattle.row_simulation.proofs.Changes.{IsNew, named_keeps, named_no_node, objects_made}
use Rattle.row_simulation.proofs.Added.{awaiting_keeps, awaiting_no_node, objects_added}
use Rattle.row_simulation.proofs.Row.{pages_keep}
use Rattle.row_simulation.proofs.Arrays.{array_new}
use Rattle.row_simulation.proofs.First.{first_is}
use Rattle.cajita_simulation.specs.Guest.{GuestKey}
use Rattle.cajita_simulation.proofs.Doing as Source
use Rattle.cajita_simulation.proofs.Heaps.Lists.{slice_get-push, slice_get-push-other, slice_get-push-cases}
use Rattle.cajita_simulation.proofs.Heaps.Made.{with_named}
use Rattle.cajita_simulation.proofs.Heaps.Pairs.{pairs_defined, in_turn, NoKey, find-pairs_defined-other}
use Rattle.cajita_simulation.proofs.Heaps.Records.{record_object, makes_record}
use Rattle.cajita_simulation.proofs.Heaps.Opened.{opened_kept}
use Rattle.cajita_simulation.proofs.Heaps.Guards.{IsGuard, guard_call, initialize_map-guard}
use Rattle.cajita_simulation.proofs.Heaps.Silent.{initialize_map-silent}
use Rattle.cajita_simulation.proofs.Relation.{closures_wait, EsValue, Val, Named, ObjectsAre, Here, env_of, Tags, Temps, Rel, closed_refl, Stays, stays_trans}
use Rattle.cajita_simulation.proofs.Changes.{Changes, stays_changed, rel_changed, rel_told}
use Rattle.cajita_simulation.proofs.Calls.{opened_of, guard_match}
use Rattle.cajita_simulation.proofs.Laws.{Gives, Cont, Cont', M, most_steps, steps_hold, begins_there}

-- keys that a record may have, with values that correspond
abbrev pub FieldsAre : Objects → List (List ℕ) → List Value → List (List ℕ × EsValue) → Type 0
FieldsAre h [] [] [] = Unit {0}
FieldsAre h (k ∷ ks) (v ∷ vs) ((j, e) ∷ qs) = (k ≡ j) × GuestKey j × Val h v e × FieldsAre h ks vs qs
FieldsAre h _ _ _ = ⊥

pub fields_keep : {a b : Objects} → rows.Keeps a b → (ks : List (List ℕ)) (vs : List Value) (qs : List (List ℕ × EsValue)) → FieldsAre a ks vs qs → FieldsAre b ks vs qs
fields_keep k [] [] [] p = tt
fields_keep k (x ∷ ks) (v ∷ vs) ((y, e) ∷ qs) p = (p.0, p.1, row_relation.val_keep k v e p.2, fields_keep k ks vs qs p.3)
fields_keep k _ _ _ p = absurd p

pub fields_add : (h : Objects) (ks : List (List ℕ)) (vs : List Value) (qs : List (List ℕ × EsValue)) (k : List ℕ) (v : Value) (e : EsValue) → FieldsAre h ks vs qs → GuestKey k → Val h v e → FieldsAre h (ks ++ k ∷ []) (vs ++ v ∷ []) (qs ++ (k, e) ∷ [])
fields_add h [] [] [] k v e p g is = (refl, g, is, tt)
fields_add h (x ∷ ks) (u ∷ vs) ((y, f) ∷ qs) k v e p g is = (p.0, p.1, p.2, fields_add h ks vs qs k v e p.3 g is)
fields_add h _ _ _ k v e p g is = absurd p

-- a key and a value more
pub in_turn-add : (qs : List (List ℕ × EsValue)) (k : List ℕ) (e : EsValue) → (in_turn qs ++ es.Text k ∷ []) ++ e ∷ [] ≡ in_turn (qs ++ (k, e) ∷ [])
in_turn-add [] k e = refl
in_turn-add ((j, f) ∷ qs) k e = ap (λ l. es.Text j ∷ f ∷ l) (in_turn-add qs k e)

-- the properties of the record

written_defined : (k : List ℕ) (e : EsValue) (props : List Property) → ((p : Property) → find k props ≡ Some p → p.attrs ≡ plain_attrs) → written k e props ≡ defined k e plain_attrs props
written_defined k e [] plain = refl
written_defined k e (p ∷ props) plain =
    let cases = elim (same_units k p.key) as (λ b. same_units k p.key ≡ b → ((q : Property) → cond b (Some p) (find k props) ≡ Some q → q.attrs ≡ plain_attrs) → cond b (record { key = p.key; value = e; attrs = p.attrs } ∷ props) (p ∷ written k e props) ≡ cond b (record { key = k; value = e; attrs = plain_attrs } ∷ props) (p ∷ defined k e plain_attrs props)) [
      | true ↦ λ same plain. let key : p.key ≡ k = sym (same_text k p.key (sym same)) in let attrs = plain p refl in rw (key, attrs) refl
      | false ↦ λ other plain. ap (λ l. p ∷ l) (written_defined k e props plain)
    ] in cases refl plain

props_all : (h : Objects) (ks : List (List ℕ)) (vs : List Value) (qs : List (List ℕ × EsValue)) (acc : Pairs) (props : List Property) → FieldsAre h ks vs qs → PropsAre h false acc props → PropsAre h false (with_values (paired ks vs) acc) (pairs_defined qs props)
props_all h [] [] [] acc props p a = a
props_all h (k ∷ ks) (v ∷ vs) ((j, e) ∷ qs) acc props p a =
    let g = p.1 in
    let one : PropsAre h false (with_value j v acc) (defined j e plain_attrs props) = subst (λ l. PropsAre h false (with_value j v acc) l) (written_defined j e props (λ q f. a.plain j q g.open_key f)) (props_written j v e g.open_key g.no_text g.no_value p.2 a) in
    subst (λ i. PropsAre h false (with_values (paired ks vs) (with_value i v acc)) (pairs_defined qs (defined j e plain_attrs props))) (sym p.0) (props_all h ks vs qs (with_value j v acc) (defined j e plain_attrs props) p.3 one)
props_all h _ _ _ acc props p a = absurd p

no_hidden : (h : Objects) (ks : List (List ℕ)) (vs : List Value) (qs : List (List ℕ × EsValue)) (j : List ℕ) → is_hidden j ≡ true → FieldsAre h ks vs qs → NoKey j qs
no_hidden h [] [] [] j hidden p = tt
no_hidden h (k ∷ ks) (v ∷ vs) ((i, e) ∷ qs) j hidden p = let g = p.1 in (apart_too i j g.open_key hidden, no_hidden h ks vs qs j hidden p.3)
no_hidden h _ _ _ j hidden p = absurd p

record_new : (h : Objects) (ks : List (List ℕ)) (vs : List Value) (qs : List (List ℕ × EsValue)) → FieldsAre h ks vs qs → IsNew first (record_object qs)
record_new h ks vs qs p = record {
  bare = refl;
  above = λ q e. let zero = proto_zero q e in let f = first_is in omega (arith, zero, f.some);
  reads = λ k. find-pairs_defined-other (read_mark k) qs [] (no_hidden h ks vs qs (read_mark k) (hidden_read k) p);
  sets = λ k. find-pairs_defined-other (set_mark k) qs [] (no_hidden h ks vs qs (set_mark k) (hidden_set k) p);
}

-- what the page keeps
pages_still : {h h' : Objects} {w : State} {g : Page} → rows.Keeps h h' → rows.NoNewNode h h' → PagesAre h w g → PagesAre h' w g
pages_still {w = w} {g = g} k o p = pages_keep w w g k o (refl, refl, refl, refl) p

-- no closure comes or goes

push_older : (by : ℕ) (ps : Pairs) (objects : ℕ → List Object) (m n : ℕ) (f : c.Tree c.func) (chain : List ℕ) → slice_get (with_last by (a_record false ps) objects m) n ≡ Some (a_closure f chain) → slice_get (objects m) n ≡ Some (a_closure f chain)
push_older by ps objects m n f chain e = elim (nat_eq m by) as (λ b. slice_get (cond b (objects m ++ a_record false ps ∷ []) (objects m)) n ≡ Some (a_closure f chain) → slice_get (objects m) n ≡ Some (a_closure f chain)) [
  | true ↦ λ e. elim (slice_get-push-cases (objects m) (a_record false ps) n (a_closure f chain) e) [
    | inl before ↦ before
    | inr last ↦ cc
  ]
  | false ↦ λ e. e
] e

push_kept : (by : ℕ) (o : Object) (objects : ℕ → List Object) (m n : ℕ) (x : Object) → slice_get (objects m) n ≡ Some x → slice_get (with_last by o objects m) n ≡ Some x
push_kept by o objects m n x e = elim (nat_eq m by) as (λ b. slice_get (cond b (objects m ++ o ∷ []) (objects m)) n ≡ Some x) [
  | true ↦ slice_get-push-other (objects m) n o (slice_get_within (objects m) n x e) ∙ e
  | false ↦ e
]

-- the array that the guard is given: no step is taken for it
array_changes : (vs : List EsValue) {w : State} {s : Store} {m : ℕ} (page : Page) → length vs < 4294967296 → ObjectsAre first place_of w.objects s.heap m → PagesAre s.heap w page → Changes page w s w (heap.with_object s.heap (array_object vs)) m
array_changes vs {w = w} {s = s} page few o p =
    let a = objects_added w.objects s.heap (array_object vs) o (array_new first_is false vs few) in
    let k = awaiting_keeps s.heap (array_object vs) refl in
    record {
      objects = record { each = a.each; once = a.once; natives = a.natives; reads = a.reads; sets = a.sets; above = a.above; count = a.count; few = o.few; opened = a.opened; unnamed = a.unnamed; large = a.large };
      pages = pages_still k (awaiting_no_node s.heap (array_object vs) refl) p;
      keeps = k;
      scopes = refl;
      older = λ m n f chain e. e;
      closed = closed_refl;
      waiters = λ f. f;
    }

-- the record, with the module's next name on both sides
record_changes : (by : ℕ) → by < 64 → (ks : List (List ℕ)) (vs : List Value) (qs : List (List ℕ × EsValue)) {w : State} {s : Store} {m : ℕ} (page : Page) → suc m ≤ 4294967295 → FieldsAre s.heap ks vs qs → ObjectsAre first place_of w.objects s.heap m → PagesAre s.heap w page
    → Changes page w s (with_object by (a_record false (with_values (paired ks vs) [])) w) (with_named s.heap (record_object qs) by) (suc m)
record_changes by below ks vs qs {w = w} {s = s} {m = m} page small p o pages =
    let ps = with_values (paired ks vs) [] in
    let number : count_at (slice_get s.heap.counts by) ≡ length (w.objects by) = ap count_at (o.count by below) in
    let f = o.few by in
    let k = named_keeps s.heap (record_object qs) by (omega (arith, number, f, small)) in
    record {
      objects = objects_made by w.objects below o (a_record false ps) (record_object qs) small (record_new s.heap ks vs qs p) (record { class = refl; no_call = refl; proto = refl; props = props_all _ ks vs qs [] [] (fields_keep k ks vs qs p) (empty_props _) });
      pages = pages_keep w (with_object by (a_record false ps) w) page k (named_no_node s.heap (record_object qs) by) (refl, refl, refl, refl) pages;
      keeps = k;
      scopes = refl;
      older = λ m n f chain e. push_older by ps w.objects m n f chain e;
      closed = record { closures = λ m n f chain e. push_kept by (a_record false ps) w.objects m n (a_closure f chain) e };
      waiters = λ f j. closures_wait w.objects (with_object by (a_record false ps) w).objects (λ m n f chain e. push_kept by (a_record false ps) w.objects m n (a_closure f chain) e) (w.queues j) (f j);
    }

record_named : (by : ℕ) → by < 64 → (w : State) {h : Objects} {m : ℕ} (x : heap.Object) → ObjectsAre first place_of w.objects h m → Named (with_named h x by) (next_name by w) (length h.list)
record_named by below w {h = h} x o = ap heap.tag_of (slice_get-push h.list _) ∙ ap (tag.Made by) (ap count_at (o.count by below))

-- a guard that is given a new array, behind these values, where the steps are still looked at
pub new_array_match : {H : Here} {T : Temps} {d k : ℕ} {guard : List ℕ} {number : ℕ} (is : IsGuard guard number) (front us : List EsValue) {p : Source.Plan} {w : State} {z : List Item} {n : ℕ} {g : Tags} {s : Store} {y : Kept} {m : ℕ} (next' : Cont') → length us ≤ m → Rel H T k w z n g s y m
    → (suc m ≤ 4294967295 → Rel H T k w z n g (with_heap s (heap.with_object s.heap (array_object us))) y m → Stays w g s m w g (with_heap s (heap.with_object s.heap (array_object us))) m → M H d p z n (bind (Target.task_plan page_table (Target.native_call number (es.Obj runtime_id) (front ++ es.Obj (length s.heap.list) ∷ []) (env_of H)) (with_heap s (heap.with_object s.heap (array_object us))) y) next') (Target.task_state page_table (Target.native_call number (es.Obj runtime_id) (front ++ es.Obj (length s.heap.list) ∷ []) (env_of H)) (with_heap s (heap.with_object s.heap (array_object us))) y) (suc m))
    → M H d p z n (bind (Target.do_call (Target.called (member (es.Obj runtime_id) guard)) (front ++ es.Obj (length s.heap.list) ∷ []) (env_of H) (with_heap s (heap.with_object s.heap (array_object us)))) next') y m
new_array_match {H = H} {T = T} {d = d} {k = k} {guard = guard} is front us {p = p} {w = w} {z = z} {n = n} {g = g} {s = s} {y = y} {m = m} next' many r f =
    let h1 = heap.with_object s.heap (array_object us) in
    let cases = elim (nat_lt most_steps m) as (λ b. nat_lt most_steps m ≡ b → M H d p z n (bind (Target.do_call (Target.called (member (es.Obj runtime_id) guard)) (front ++ es.Obj (length s.heap.list) ∷ []) (env_of H) (with_heap s h1)) next') y m) [
      | true ↦ λ past. subst (λ q. M H d p z n (bind q next') y m) (sym (guard_call guard _ is (front ++ es.Obj (length s.heap.list) ∷ []) (env_of H) (with_heap s h1) (opened_kept s.heap (array_object us) (opened_of r.all.objects)))) (right_past (grind (arith, nat_tests)) (steps_hold r) (begins_there z y r.all.items))
      | false ↦ λ few. within (grind (arith, nat_tests))
    ] in cases refl
  where
    within : m ≤ 4294967294 → M H d p z n (bind (Target.do_call (Target.called (member (es.Obj runtime_id) guard)) (front ++ es.Obj (length s.heap.list) ∷ []) (env_of H) (with_heap s (heap.with_object s.heap (array_object us)))) next') y m
    within few =
        let x1 : Changes (page_of y) w s w (heap.with_object s.heap (array_object us)) m = array_changes us (page_of y) (omega (arith, many, few)) r.all.objects r.all.pages in
        let r1 : Rel H T k w z n g (with_heap s (heap.with_object s.heap (array_object us))) y m = rel_changed x1 (omega arith) r.all.steps r in
        guard_match is (front ++ es.Obj (length s.heap.list) ∷ []) next' r1 (λ small. f small r1 (stays_changed g x1 (omega arith)))

-- from the array on: the guard is called, and makes the record
pub record_match : {H : Here} {T : Temps} {d k : ℕ} → H.by < 64 → (ks : List (List ℕ)) (vs : List Value) (qs : List (List ℕ × EsValue)) {w : State} {z : List Item} {n : ℕ} {g : Tags} {s : Store} {y : Kept} {m : ℕ} (next : Cont) (next' : Cont') → FieldsAre s.heap ks vs qs → length (in_turn qs) ≤ m → Rel H T (suc k) w z n g s y m → Gives H T d k w g s m next next'
    → M H d (bind (Source.act_plan H 1 (Source.kept vs) (Direct.asked (a_record_of ks) (0 ∷ []) Direct.give) w) next) z n (bind (Target.do_call (Target.called (member (es.Obj runtime_id) (codes "initializeMap"))) (es.Obj (length s.heap.list) ∷ []) (env_of H) (with_heap s (heap.with_object s.heap (array_object (in_turn qs))))) next') y m
record_match {H = H} {T = T} {d = d} {k = k} below ks vs qs {w = w} {z = z} {n = n} {g = g} {s = s} {y = y} {m = m} next next' p many r x =
    new_array_match initialize_map-guard [] (in_turn qs) next' many r (λ small r1 k1.
    let p0 = bind (Source.act_plan H 1 (Source.kept vs) (Direct.asked (a_record_of ks) (0 ∷ []) Direct.give) w) next in
    let s1 = with_heap s (heap.with_object s.heap (array_object (in_turn qs))) in
    let call = Target.native_call 69 (es.Obj runtime_id) (es.Obj (length s.heap.list) ∷ []) (env_of H) in
    subst (λ o. M H d p0 z n (bind (Target.task_plan page_table call s1 y) next') o (suc m)) (sym (initialize_map-silent H.by (es.Obj runtime_id) (es.Obj (length s.heap.list) ∷ []) s1.heap y))
    (subst (λ q. M H d p0 z n (bind q next') y (suc m)) (sym (makes_record (es.Obj runtime_id) qs s.heap (env_of H) s y (omega (arith, many, small))))
    (made_match (heap.with_object s.heap (array_object (in_turn qs))) small (fields_keep k1.heap.objects ks vs qs p) k1 r1)))
  where
    made_match : (h1 : Objects) → suc m ≤ 4294967295 → FieldsAre h1 ks vs qs → Stays w g s m w g (with_heap s h1) m → Rel H T (suc k) w z n g (with_heap s h1) y m → M H d (bind (Source.act_plan H 1 (Source.kept vs) (Direct.asked (a_record_of ks) (0 ∷ []) Direct.give) w) next) z n (next' (Target.gave (es.Obj (length h1.list))) (with_heap s (with_named h1 (record_object qs) H.by))) y (suc m)
    made_match h1 small p1 k1 r1 =
        let x2 = record_changes H.by below ks vs qs (page_of y) small p1 r1.all.objects r1.all.pages in
        left_told (x.on d (omega arith) (World.object (next_name H.by w)) (es.Obj (length h1.list)) _ _ _ _ _ _ _ (record_named H.by below w (record_object qs) r1.all.objects) (rel_told (made H.by (next_name H.by w) ∷ []) refl (rel_changed x2 (omega arith) (omega (arith, r1.all.steps)) r1)) (stays_trans k1 (stays_changed g x2 (omega arith))))
