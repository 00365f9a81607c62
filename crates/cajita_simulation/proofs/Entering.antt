-- What is entered on both sides: a scope more, and a function whose object has no name.
use Rattle.std.proofs.Common.{◌≡◌, ◌≢◌, ℕ, zero, suc, ◌+◌, ◌*◌, ◌≤◌, ◌<◌, true, false, List, [], ◌∷◌, ◌++◌, length, Option, Some, None, cond, refl, sym, ap, ◌∙◌, subst, arith}
use Rattle.std.specs.Prelude.{slice_get, is_some, codes, nat_eq}
use Rattle.std.proofs.lemmas.Option.{slice_get_within}
use Rattle.std.proofs.lemmas.List.{length-append}
use Rattle.std.proofs.lemmas.Bool.Decides.{nat_tests}
use Rattle.caja_units.specs.Units.{is_hidden}
use Rattle.es3_objects.specs.declared.value.Value.TheVariants as es
use Rattle.es3_objects.specs.declared.value.Tag.TheVariants as tag
use Rattle.es3_heap.specs.Objects as heap
use Rattle.es3_heap.specs.Objects.{Objects, with_object}
use Rattle.es3_language.specs.Store as store
use Rattle.es3_language.specs.Store.{Store, Code, name_value, with_code}
use Rattle.es3_language.specs.Arguments.{is_fixed}
use Rattle.rows.specs.Nodes.{Rules}
use Rattle.cajita_rewrite.specs.Rewrite.{runtime_name}
use Rattle.cajita_meaning.specs.World.{Pairs, World, with_last, with_scope, scope_at, next_scope}
use Rattle.cajita_meaning.specs.Direct.{Item}
use Rattle.heap_rows.specs.Marks.{read_mark, set_mark}
use Rattle.heap_rows.specs.Opening.{first, first_count, runtime_id}
use Rattle.page_natives.specs.Natives.{Kept, page_of}
use Rattle.row_simulation.proofs.Relation as row_relation
use Rattle.row_simulation.proofs.Keys.{hidden_read, hidden_set, apart_too}
use Rattle.row_simulation.proofs.First.{first_many, up_few}
use Rattle.row_simulation.proofs.Changes.{IsNew, by_number}
use Rattle.row_simulation.proofs.Added.{added_keeps, awaiting_no_node, objects_added}
use Rattle.cajita_simulation.proofs.Heaps.Lists.{slice_get-push, slice_get-push-other}
use Rattle.cajita_simulation.proofs.Heaps.Functions.{function_object, prototype_object, function_new}
use Rattle.row_simulation.proofs.Row as row_laws
use Rattle.row_simulation.proofs.Row.{no_node_refl, no_node_trans, pages_keep}
use Rattle.cajita_simulation.proofs.Relation.{EsValue, ScopeTag, tag_of_scope, Tags, Temps, ScopeIs, names_at, OwnNames, IsScope, AreScopes, Slot, unknown, declared, holds, keys, SlotIs, ScopesAre, Related, Shaped, Keeps, keeps_trans, closed_refl}
use Rattle.cajita_simulation.proofs.Shared.{shared_more}
use Rattle.cajita_simulation.proofs.Changes.{Changes, related_changed, closures_shaped}

-- what is past the end stays so where another one is last
slice_get-push-off : {X : Type 0} (xs : List X) (j : ℕ) (y : X) → j ≢ length xs → slice_get (xs ++ y ∷ []) j ≡ slice_get xs j
slice_get-push-off [] zero y ne = absurd (ne refl)
slice_get-push-off [] (suc j) y ne = refl
slice_get-push-off (z ∷ zs) zero y ne = refl
slice_get-push-off (z ∷ zs) (suc j) y ne = slice_get-push-off zs j y (λ e. ne (ap suc e))

-- the world's scopes

last_there : (m : ℕ) (x : Pairs) (scopes : ℕ → List Pairs) → with_last m x scopes m ≡ scopes m ++ x ∷ []
last_there m x scopes = let same : nat_eq m m ≡ true = grind (arith, nat_tests) in ap (λ b. cond b (scopes m ++ x ∷ []) (scopes m)) same

-- another scope of the world is what it was
last_other : (m : ℕ) (x : Pairs) (scopes : ℕ → List Pairs) (k n : ℕ) → n < length (scopes k) → (slice_get (with_last m x scopes k) n ≡ slice_get (scopes k) n) × (n < length (with_last m x scopes k))
last_other m x scopes k n lt = elim (nat_eq k m) as (λ b. (slice_get (cond b (scopes k ++ x ∷ []) (scopes k)) n ≡ slice_get (scopes k) n) × (n < length (cond b (scopes k ++ x ∷ []) (scopes k)))) [
  | true ↦ (slice_get-push-other (scopes k) n x lt, omega (arith, lt, length-append (scopes k) (x ∷ [])))
  | false ↦ (refl, lt)
]

-- a scope more

pub names_new : (owner : store.Owner) (names : store.Names) (s : Store) → names_at (store.with_scope owner names s) (length s.scopes) ≡ names
names_new owner names s = ap store.scope_at (slice_get-push s.scopes (record { owner = owner; names = names }))

pub names_other : (owner : store.Owner) (names : store.Names) (s : Store) (c : ℕ) → c ≢ length s.scopes → names_at (store.with_scope owner names s) c ≡ names_at s c
names_other owner names s c ne = ap store.scope_at (slice_get-push-off s.scopes c (record { owner = owner; names = names }) ne)

pub shaped_scope : (g : Tags) (t : ScopeTag) (owner : store.Owner) (names : store.Names) (s : Store) → Shaped g s (g ++ t ∷ []) (store.with_scope owner names s)
shaped_scope g t owner names s = record {
  count = omega (arith, length-append s.scopes (record { owner = owner; names = names } ∷ []));
  shape = λ c x lt. ap (λ l. is_some (name_value x l)) (names_other owner names s c (λ e. omega (arith, e, lt)));
  fixed = λ c lt. ap is_fixed (slice_get-push-other s.scopes c (record { owner = owner; names = names }) lt);
  codes = λ k code e. e;
  tags = λ c u e. slice_get-push-other g c t (slice_get_within g c u e) ∙ e;
}

pub scopes_are : (owner : store.Owner) (names : store.Names) (s : Store) → OwnNames owner → AreScopes s → AreScopes (store.with_scope owner names s)
scopes_are owner names s own are c =
    by_number c (length s.scopes) (IsScope (slice_get (store.with_scope owner names s).scopes c))
    (λ same. subst IsScope (sym (ap (slice_get (store.with_scope owner names s).scopes) same ∙ slice_get-push s.scopes (record { owner = owner; names = names }))) own)
    (λ other. subst IsScope (sym (slice_get-push-off s.scopes c (record { owner = owner; names = names }) other)) (are c))

-- the runtime's object is what is called so, where the new scope has no such name
pub scope_runtime : (owner : store.Owner) (names : store.Names) (s : Store) → is_some (name_value runtime_name names) ≡ false → ((c : ℕ) (e : EsValue) → name_value runtime_name (names_at s c) ≡ Some e → e ≡ es.Obj runtime_id) → (c : ℕ) (e : EsValue) → name_value runtime_name (names_at (store.with_scope owner names s) c) ≡ Some e → e ≡ es.Obj runtime_id
scope_runtime owner names s none was c e is =
    by_number c (length s.scopes) (e ≡ es.Obj runtime_id)
    (λ same. absurd (none_some (name_value runtime_name names) none (sym (ap (name_value runtime_name) (ap (names_at (store.with_scope owner names s)) same ∙ names_new owner names s)) ∙ is)))
    (λ other. was c e (sym (ap (name_value runtime_name) (names_other owner names s c other)) ∙ is))
  where
    none_some : (o : Option EsValue) → is_some o ≡ false → o ≡ Some e → ⊥
    none_some None b at = cc
    none_some (Some u) b at = cc

-- the new scopes of both sides: they have the same variables, what is known of the hidden names of the new one is so, and of the others what was known
pub record NewScopes (T T' : Temps) (pairs : Pairs) (owner : store.Owner) (names : store.Names) (s : Store) : Type 0 where
  pub same : ScopeIs s.heap pairs names
  pub own : OwnNames owner
  pub runtime : (e : EsValue) → name_value runtime_name names ≡ Some e → e ≡ es.Obj runtime_id
  pub here : (x : List ℕ) → is_hidden x ≡ true → SlotIs (store.with_scope owner names s) (length s.scopes) x (T' (length s.scopes) x)
  pub others : (c : ℕ) (x : List ℕ) → c ≢ length s.scopes → T' c x ≡ T c x

slot_other : (owner : store.Owner) (names : store.Names) (s : Store) (c : ℕ) (x : List ℕ) (t : Slot) → c ≢ length s.scopes → SlotIs s c x t → SlotIs (store.with_scope owner names s) c x t
slot_other owner names s c x unknown ne p = tt
slot_other owner names s c x declared ne p = (p.0, ap (name_value x) (names_other owner names s c ne) ∙ p.1)
slot_other owner names s c x (holds v) ne p = (p.0, ap (name_value x) (names_other owner names s c ne) ∙ p.1, p.2)
slot_other owner names s c x (keys ks) ne p = (p.0, ap (name_value x) (names_other owner names s c ne) ∙ p.1, p.2)

module _ {T T' : Temps} {pairs : Pairs} {owner : store.Owner} {names : store.Names} {g : Tags} {scopes : ℕ → List Pairs} {s : Store} (m : ℕ) (new : NewScopes T T' pairs owner names s) (old : ScopesAre T g scopes s) where
  abbrev newest : ScopeTag
  newest = tag_of_scope m (length (scopes m))

  abbrev tags : Tags
  tags = g ++ tag_of_scope m (length (scopes m)) ∷ []

  abbrev after : Store
  after = store.with_scope owner names s

  -- the newest of the new scope is its own
  tag_new : (t : ScopeTag) → slice_get tags (length s.scopes) ≡ Some t → t ≡ newest
  tag_new t e =
      let at : slice_get tags (length s.scopes) ≡ Some newest = ap (slice_get tags) (sym old.count) ∙ slice_get-push g newest in
      cc

  tag_old : (c : ℕ) (t : ScopeTag) → c ≢ length s.scopes → slice_get tags c ≡ Some t → slice_get g c ≡ Some t
  tag_old c t ne e = sym (slice_get-push-off g c newest (λ f. ne (f ∙ old.count))) ∙ e

  -- it is no older one
  tag_fresh : (c : ℕ) → slice_get g c ≡ Some newest → ⊥
  tag_fresh c e = let lt = old.known c m (length (scopes m)) e in omega (arith, lt)

  same_scopes : (c k n : ℕ) → slice_get tags c ≡ Some (tag_of_scope k n) → ScopeIs s.heap (scope_at (slice_get (with_last m pairs scopes k) n)) (names_at after c)
  same_scopes c k n e =
      by_number c (length s.scopes) (ScopeIs s.heap (scope_at (slice_get (with_last m pairs scopes k) n)) (names_at after c))
      (λ same.
      let is : tag_of_scope k n ≡ newest = tag_new (tag_of_scope k n) (ap (slice_get tags) (sym same) ∙ e) in
      let module_is : k ≡ m = ap (λ (t : ScopeTag). t.by) is in
      let number_is : n ≡ length (scopes m) = ap (λ (t : ScopeTag). t.number) is in
      let there : scope_at (slice_get (with_last m pairs scopes k) n) ≡ pairs = ap (λ a. scope_at (slice_get (with_last m pairs scopes a) n)) module_is ∙ ap (λ l. scope_at (slice_get l n)) (last_there m pairs scopes) ∙ ap (λ a. scope_at (slice_get (scopes m ++ pairs ∷ []) a)) number_is ∙ ap scope_at (slice_get-push (scopes m) pairs) in
      subst (λ p. ScopeIs s.heap p (names_at after c)) (sym there)
      (subst (λ q. ScopeIs s.heap pairs q) (sym (ap (names_at after) same ∙ names_new owner names s)) new.same))
      (λ other.
      let was = tag_old c (tag_of_scope k n) other e in
      let there = last_other m pairs scopes k n (old.known c k n was) in
      subst (λ p. ScopeIs s.heap (scope_at p) (names_at after c)) (sym there.0)
      (subst (λ q. ScopeIs s.heap (scope_at (slice_get (scopes k) n)) q) (sym (names_other owner names s c other)) (old.same c k n was)))

  once_more : (c d : ℕ) (t : ScopeTag) → slice_get tags c ≡ Some t → slice_get tags d ≡ Some t → c ≡ d
  once_more c d t e f =
      by_number c (length s.scopes) (c ≡ d)
      (λ here. by_number d (length s.scopes) (c ≡ d) (λ here'. here ∙ sym here') (λ other'. absurd (tag_fresh d (tag_old d t other' f ∙ ap (λ (u : ScopeTag). let q : Option ScopeTag = Some u in q) (tag_new t (ap (slice_get tags) (sym here) ∙ e))))))
      (λ other. by_number d (length s.scopes) (c ≡ d) (λ here'. absurd (tag_fresh c (tag_old c t other e ∙ ap (λ (u : ScopeTag). let q : Option ScopeTag = Some u in q) (tag_new t (ap (slice_get tags) (sym here') ∙ f))))) (λ other'. old.once c d t (tag_old c t other e) (tag_old d t other' f)))

  known_more : (c k n : ℕ) → slice_get tags c ≡ Some (tag_of_scope k n) → n < length (with_last m pairs scopes k)
  known_more c k n e =
      by_number c (length s.scopes) (n < length (with_last m pairs scopes k))
      (λ same.
      let is : tag_of_scope k n ≡ newest = tag_new (tag_of_scope k n) (ap (slice_get tags) (sym same) ∙ e) in
      let module_is : k ≡ m = ap (λ (t : ScopeTag). t.by) is in
      let number_is : n ≡ length (scopes m) = ap (λ (t : ScopeTag). t.number) is in
      subst (λ a. n < length (with_last m pairs scopes a)) (sym module_is)
      (subst (λ l. n < length l) (sym (last_there m pairs scopes)) (omega (arith, number_is, length-append (scopes m) (pairs ∷ [])))))
      (λ other. (last_other m pairs scopes k n (old.known c k n (tag_old c (tag_of_scope k n) other e))).1)

  temps_more : (c : ℕ) (x : List ℕ) → is_hidden x ≡ true → SlotIs after c x (T' c x)
  temps_more c x hidden =
      by_number c (length s.scopes) (SlotIs after c x (T' c x))
      (λ same. subst (λ a. SlotIs after a x (T' a x)) (sym same) (new.here x hidden))
      (λ other. subst (SlotIs after c x) (sym (new.others c x other)) (slot_other owner names s c x (T c x) other (old.temps c x hidden)))

  runtime_more : (c : ℕ) (e : EsValue) → name_value runtime_name (names_at after c) ≡ Some e → e ≡ es.Obj runtime_id
  runtime_more c e is =
      by_number c (length s.scopes) (e ≡ es.Obj runtime_id)
      (λ same. new.runtime e (sym (ap (name_value runtime_name) (ap (names_at after) same ∙ names_new owner names s)) ∙ is))
      (λ other. old.runtime c e (sym (ap (name_value runtime_name) (names_other owner names s c other)) ∙ is))

  pub scopes_more : ScopesAre T' (g ++ tag_of_scope m (length (scopes m)) ∷ []) (with_last m pairs scopes) (store.with_scope owner names s)
  scopes_more = record {
    same = same_scopes;
    once = once_more;
    known = known_more;
    count = length-append g (newest ∷ []) ∙ ap (λ n. n + 1) old.count ∙ sym (length-append s.scopes (record { owner = owner; names = names } ∷ []));
    temps = temps_more;
    runtime = runtime_more;
    are = scopes_are owner names s new.own old.are;
    shared = let l = length-append s.scopes (record { owner = owner; names = names } ∷ []) in shared_more s.heap (omega (arith, l)) s.shared old.shared;
  }

-- the relation with a scope more
pub related_scope : {rules : Rules} {T T' : Temps} {k : ℕ} {w : World} {z : List Item} {n : ℕ} {g : Tags} {s : Store} {y : Kept} {i : ℕ} {pairs : Pairs} {owner : store.Owner} {names : store.Names} (m : ℕ) → NewScopes T T' pairs owner names s → Related rules T k w z n g s y i → Related rules T' k (with_scope m pairs w) z n (g ++ tag_of_scope m (next_scope m w) ∷ []) (store.with_scope owner names s) y i
related_scope {w = w} {g = g} {s = s} {pairs = pairs} {owner = owner} {names = names} m new r = record {
  steps = r.steps;
  items = r.items;
  objects = r.objects;
  pages = pages_keep w (with_scope m pairs w) _ row_laws.keeps_refl no_node_refl (refl, refl, refl, refl) r.pages;
  closures = closures_shaped w.objects {g = g} {s = s} refl (shaped_scope g (tag_of_scope m (next_scope m w)) owner names s) r.scopes.are (scopes_are owner names s new.own r.scopes.are) r.closures;
  waiters = r.waiters;
  scopes = scopes_more m new r.scopes;
  globals = r.globals;
  kept = r.kept;
}

-- a function whose object has no name

few_first : (q p : ℕ) → q < first_count → (let x : Option ℕ = Some q in x) ≡ Some p → p < length first.list
few_first q p lt e = let f = up_few q p lt e in let many = first_many in omega (arith, f, many)

pub function_is_new : (code params maker prototype : ℕ) → IsNew first (function_object code params maker prototype)
function_is_new code params maker prototype = record {
  bare = refl;
  above = λ p e. few_first 1 p (omega arith) e;
  reads = λ k. rw (apart_too (codes "length") (read_mark k) refl (hidden_read k), apart_too (codes "prototype") (read_mark k) refl (hidden_read k)) refl;
  sets = λ k. rw (apart_too (codes "length") (set_mark k) refl (hidden_set k), apart_too (codes "prototype") (set_mark k) refl (hidden_set k)) refl;
}

pub prototype_is_new : (function : ℕ) → IsNew first (prototype_object function)
prototype_is_new function = record {
  bare = refl;
  above = λ p e. few_first 0 p (omega arith) e;
  reads = λ k. rw (apart_too (codes "constructor") (read_mark k) refl (hidden_read k)) refl;
  sets = λ k. rw (apart_too (codes "constructor") (set_mark k) refl (hidden_set k)) refl;
}

-- two objects without names

unmade : (m n : ℕ) → tag.None ≡ tag.Made m n → ⊥
unmade m n e = cc

pub two_keep : (h : Objects) (a b : heap.Object) → IsNew first a → IsNew first b → row_relation.Keeps h (with_object (with_object h a) b)
two_keep h a b new new' =
    let one : Keeps h 0 (with_object h a) 0 = record { objects = added_keeps h a (λ m n e. unmade m n (sym new.bare ∙ e)); more = omega arith } in
    let two : Keeps (with_object h a) 0 (with_object (with_object h a) b) 0 = record { objects = added_keeps (with_object h a) b (λ m n e. unmade m n (sym new'.bare ∙ e)); more = omega arith } in
    (keeps_trans one two).objects

pub two_no_node : (h : Objects) (a b : heap.Object) → IsNew first a → IsNew first b → row_relation.NoNewNode h (with_object (with_object h a) b)
two_no_node h a b new new' = no_node_trans (awaiting_no_node h a new.bare) (awaiting_no_node (with_object h a) b new'.bare)

function_changes : {rules : Rules} {T : Temps} {k : ℕ} {w : World} {z : List Item} {n : ℕ} {g : Tags} {s : Store} {y : Kept} {m : ℕ} (code params maker : ℕ) → Related rules T k w z n g s y m → Changes (page_of y) w s w (store.new_function code params maker s.heap) (suc (suc m))
function_changes {w = w} {s = s} {y = y} {m = m} code params maker r =
    let a = function_object code params maker (suc (length s.heap.list)) in
    let b = prototype_object (length s.heap.list) in
    let new = function_is_new code params maker (suc (length s.heap.list)) in
    let new' = prototype_is_new (length s.heap.list) in
    let keeps = two_keep s.heap a b new new' in
    subst (λ h. Changes (page_of y) w s w h (suc (suc m))) (sym (function_new code params maker s.heap)) (record {
      objects = objects_added w.objects (with_object s.heap a) b (objects_added w.objects s.heap a r.objects new) new';
      pages = pages_keep w w _ keeps (two_no_node s.heap a b new new') (refl, refl, refl, refl) r.pages;
      keeps = keeps;
      scopes = refl;
      older = λ m n f chain e. e;
      closed = closed_refl;
      waiters = λ f. f;
    })

pub shaped_code : (g : Tags) (code : Code) (s : Store) → Shaped g s g (record s { codes = s.codes ++ code ∷ [] })
shaped_code g code s = record { count = omega arith; shape = λ c x lt. refl; fixed = λ c lt. refl; codes = λ k q e. slice_get-push-other s.codes k code (slice_get_within s.codes k q e) ∙ e; tags = λ c t e. e }

slot_coded : (l : List Code) (s : Store) (c : ℕ) (x : List ℕ) (t : Slot) → SlotIs s c x t → SlotIs (record s { codes = l }) c x t
slot_coded l s c x unknown p = tt
slot_coded l s c x declared p = p
slot_coded l s c x (holds v) p = p
slot_coded l s c x (keys ks) p = p

-- other codes
pub scopes_coded : {T : Temps} {g : Tags} {scopes : ℕ → List Pairs} {s : Store} (l : List Code) → ScopesAre T g scopes s → ScopesAre T g scopes (record s { codes = l })
scopes_coded {s = s} l r = record { same = r.same; once = r.once; known = r.known; count = r.count; temps = λ c x hidden. slot_coded l s c x _ (r.temps c x hidden); runtime = r.runtime; are = λ c. r.are c; shared = r.shared }

-- a code more
pub related_code : {rules : Rules} {T : Temps} {k : ℕ} {w : World} {z : List Item} {n : ℕ} {g : Tags} {s : Store} {y : Kept} {m : ℕ} (code : Code) → Related rules T k w z n g s y m → Related rules T k w z n g (record s { codes = s.codes ++ code ∷ [] }) y m
related_code {w = w} {g = g} {s = s} code r = record {
  steps = r.steps;
  items = r.items;
  objects = r.objects;
  pages = r.pages;
  closures = closures_shaped w.objects {g = g} {s = s} refl (shaped_code g code s) r.scopes.are (λ c. r.scopes.are c) r.closures;
  waiters = r.waiters;
  scopes = scopes_coded (s.codes ++ code ∷ []) r.scopes;
  globals = r.globals;
  kept = r.kept;
}

-- the relation with such a function
pub related_function : {rules : Rules} {T : Temps} {j k : ℕ} {w : World} {z : List Item} {n : ℕ} {g : Tags} {s : Store} {y : Kept} {m : ℕ} (code : Code) (maker : ℕ) → suc (suc m) + k ≤ 64 * n → Related rules T j w z n g s y m → Related rules T k w z n g (with_code code maker s) y (suc (suc m))
related_function {s = s} code maker fits r = related_code code (related_changed (function_changes (length s.codes) (length code.params) maker r) (omega arith) fits r)
