-- A node changes, a root gets one more, and something waits for what happens to one.
use Rattle.std.proofs.Common.{◌≡◌, ◌≢◌, ℕ, suc, ◌<◌, true, false, List, [], ◌∷◌, ◌++◌, length, Option, Some, None, cond, refl, sym, ap, ◌∙◌, subst, inl, inr, arith}
use Rattle.std.specs.Prelude.{nat_eq, nat_lt, option_map}
use Rattle.std.proofs.lemmas.List.{length-append}
use Rattle.std.proofs.lemmas.Bool.Decides.{nat_tests}
use Rattle.es3_objects.specs.declared.value.Value.TheVariants as es
use Rattle.es3_objects.specs.declared.value.Tag.TheVariants as tag
use Rattle.es3_objects.specs.declared.value.Proto.TheVariants as proto
use Rattle.es3_heap.specs.Objects as heap
use Rattle.es3_heap.specs.Objects.{Objects, with_object}
use Rattle.es3_heap.specs.Making.{proto_id}
use Rattle.rows.specs.Names.{of_cajita, of_math, code_of}
use Rattle.rows.specs.Rows.{Native}
use Rattle.rows.specs.Document.{Node, Change}
use Rattle.cajita_meaning.specs.World.{Name, built_name, tools_name, facet_name, Value, undefined, object, Object, Handler, World, with_nodes}
use Rattle.cajita_meaning.specs.Doing as direct
use Rattle.heap_rows.specs.Natives.{tag_of_code}
use Rattle.heap_rows.specs.Doing as es3
use Rattle.heap_rows.specs.Doing.{facet_object}
use Rattle.row_simulation.specs.RowLaw.{AreWithin, IsFirst}
use Rattle.row_simulation.specs.Roots.{KeptIs}
use Rattle.row_simulation.proofs.Names.{name_there, facet_known}
use Rattle.row_simulation.proofs.Relation.{EsValue, tag_of_name, Named, Val, ObjectsAre, Keeps, val_keep, vals_keep}
use Rattle.row_simulation.proofs.Row.{shown, HandlersAre, PagesAre, by_value, keeps_refl, handlers_keep}
use Rattle.row_simulation.proofs.Changes.{by_number, cases_at, get-push, get-push-other}
use Rattle.row_simulation.proofs.Added.{added_keeps}
use Rattle.row_simulation.proofs.Fresh.{named_added}
pub use Rattle.row_simulation.proofs.Within.{less_is, IsChange, added_fits, changed_fits}

-- by whether it is the root
pub by_root : {A B : Type 0} (r root : ℕ) (a x : A) (b y : B) (P : A → B → Type 0) → (r ≡ root → P a b) → (r ≢ root → P x y) → P (cond (nat_eq r root) a x) (cond (nat_eq r root) b y)
by_root r root a x b y P same other = elim (nat_eq r root) as (λ c. nat_eq r root ≡ c → P (cond c a x) (cond c b y)) [
  | true ↦ λ e. same (grind (arith, nat_tests))
  | false ↦ λ e. other (λ f. grind (arith, nat_tests))
] refl

-- the object of a node that comes

facet_unmade : (root k m n : ℕ) → tag.Facet root k ≡ tag.Made m n → ⊥
facet_unmade root k m n e = cc

pub facet_apart : (root k r j : ℕ) → tag.Facet root k ≡ tag.Facet r j → (root ≡ r) × (k ≡ j)
facet_apart root k r j e = (cc, cc)

pub facet_keeps : (h : Objects) (root k : ℕ) → Keeps h (with_object h (facet_object root k))
facet_keeps h root k = added_keeps h (facet_object root k) (facet_unmade root k)

facet_above : (first : Objects) → IsFirst first → (p : ℕ) → (let q : Option ℕ = Some (proto_id proto.Node) in q) ≡ Some p → p < length first.list
facet_above first f p e = let n : 9 ≡ p = cc in omega (arith, n, f.some)

pub facet_added : {first : Objects} {places : Native → ℕ} {m : ℕ} {objects : ℕ → List Object} {h : Objects} → IsFirst first → ObjectsAre first places objects h m → (root k : ℕ) → ((i : ℕ) → Named h (facet_name root k) i → ⊥) → ObjectsAre first places objects (with_object h (facet_object root k)) m
facet_added {first = first} f o root k none = named_added o (facet_name root k) (facet_object root k) (record {
  known = facet_known root k;
  tagged = refl;
  fresh = none;
  is = refl;
  above = λ p e. facet_above first f p e;
  reads = λ j. refl;
  sets = λ j. refl;
  unmade = λ m n e. facet_unmade root k m n e;
})

pub facet_here : (h : Objects) (root k : ℕ) → Named (with_object h (facet_object root k)) (facet_name root k) (length h.list)
facet_here h root k = ap heap.tag_of (get-push h.list (facet_object root k))

-- the nodes of a root are others

module _ {first : Objects} {places : Native → ℕ} {m : ℕ} (h : Objects) (w : World) (g : es3.Page) (f : IsFirst first) (o : ObjectsAre first places w.objects h m) (p : PagesAre h w g) where
  abbrev AreNodes : ℕ → List Node → Type 0
  AreNodes root ms = IsChange (g.nodes root) ms

  -- as many as before
  pub as_many_are : (root : ℕ) (ms : List Node) → AreNodes root ms → length ms ≡ length (g.nodes root) → KeptIs first places m h (with_nodes root ms w) (record { heap = h; page = record { cells = g.cells; queues = g.queues; nodes = es3.with_of root ms g.nodes; facets = g.facets; handlers = g.handlers } })
  as_many_are root ms c long = record {
    objects = o;
    keeps = keeps_refl;
    pages = record {
      cells = p.cells;
      queues = p.queues;
      nodes = λ r. by_root r root ms (w.nodes r) ms (g.nodes r) (λ x y. x ≡ y) (λ same. refl) (λ other. p.nodes r);
      within = λ r. by_root r root ms (g.nodes r) ms (g.nodes r) (λ x y. AreWithin (length x) x) (λ same. c.within) (λ other. p.within r);
      facets = λ r k. by_root r root ms (g.nodes r) ms (g.nodes r) (λ x y. k < length x → Val h (object (facet_name r k)) (es3.facet_at (g.facets r) k)) (λ same lt. p.facets r k (let q = counted r same in omega (arith, lt, q))) (λ other. p.facets r k);
      as_many = λ r. by_root r root ms (g.nodes r) ms (g.nodes r) (λ x y. length (g.facets r) ≡ length x) (λ same. p.as_many r ∙ sym (counted r same)) (λ other. p.as_many r);
      known = λ r k i t. by_root r root ms (g.nodes r) ms (g.nodes r) (λ x y. k < length x) (λ same. let q = counted r same in let lt = p.known r k i t in omega (arith, lt, q)) (λ other. p.known r k i t);
      handlers = p.handlers;
    };
  }
    where
      counted : (r : ℕ) → r ≡ root → length ms ≡ length (g.nodes r)
      counted r same = long ∙ ap (λ x. length (g.nodes x)) (sym same)

  -- one more, which gets its object
  one_more_is : (root : ℕ) (ms : List Node) → AreNodes root ms → length ms ≡ suc (length (g.nodes root)) → KeptIs first places m h (with_nodes root ms w) (record {
    heap = with_object h (facet_object root (length (g.nodes root)));
    page = record { cells = g.cells; queues = g.queues; nodes = es3.with_of root ms g.nodes; facets = es3.with_of root (g.facets root ++ length h.list ∷ []) g.facets; handlers = g.handlers };
  })
  one_more_is root ms c long = record {
    objects = facet_added f o root count (λ i t. let lt = p.known root count i t in omega (arith, lt));
    keeps = keeps;
    pages = record {
      cells = λ x. val_keep keeps (w.cells x) (g.cells x) (p.cells x);
      queues = λ x. vals_keep keeps (w.queues x) (g.queues x) (p.queues x);
      nodes = λ r. by_root r root ms (w.nodes r) ms (g.nodes r) (λ x y. x ≡ y) (λ same. refl) (λ other. p.nodes r);
      within = λ r. by_root r root ms (g.nodes r) ms (g.nodes r) (λ x y. AreWithin (length x) x) (λ same. c.within) (λ other. p.within r);
      facets = λ r k. by_root r root ms (g.nodes r) places' (g.facets r) (λ x y. k < length x → Val h' (object (facet_name r k)) (es3.facet_at y k))
          (λ same lt. subst (λ r. Val h' (object (facet_name r k)) (es3.facet_at places' k)) (sym same) (facet_there k (omega (arith, lt, long))))
          (λ other lt. val_keep keeps (object (facet_name r k)) (es3.facet_at (g.facets r) k) (p.facets r k lt));
      as_many = λ r. by_root r root ms (g.nodes r) places' (g.facets r) (λ x y. length y ≡ length x) (λ same. let l = length-append (g.facets root) (length h.list ∷ []) in let q = p.as_many root in omega (arith, l, q, long)) (λ other. p.as_many r);
      known = λ r k i t. cases_at h.list (facet_object root count) i (λ q. heap.tag_of q ≡ tag.Facet r k → k < length (es3.with_of root ms g.nodes r)) (λ lt t. was r k (p.known r k i t)) (λ at t. new r k t) (λ t. absurd (name_there (facet_name r k) t)) t;
      handlers = λ r. handlers_keep keeps (w.handlers r) (g.handlers r) (p.handlers r);
    };
  }
    where
      count : ℕ
      count = length (g.nodes root)

      h' : Objects
      h' = with_object h (facet_object root (length (g.nodes root)))

      keeps : Keeps h (with_object h (facet_object root (length (g.nodes root))))
      keeps = facet_keeps h root (length (g.nodes root))

      places' : List ℕ
      places' = g.facets root ++ length h.list ∷ []

      was : (r k : ℕ) → k < length (g.nodes r) → k < length (es3.with_of root ms g.nodes r)
      was r k lt = by_root r root ms (g.nodes r) ms (g.nodes r) (λ x y. k < length x) (λ same. let q : length (g.nodes r) ≡ length (g.nodes root) = ap (λ x. length (g.nodes x)) same in omega (arith, lt, q, long)) (λ other. lt)

      new : (r k : ℕ) → tag.Facet root (length (g.nodes root)) ≡ tag.Facet r k → k < length (es3.with_of root ms g.nodes r)
      new r k e =
          let q = facet_apart root (length (g.nodes root)) r k e in
          by_root r root ms (g.nodes r) ms (g.nodes r) (λ x y. k < length x) (λ same. let z = q.1 in omega (arith, z, long)) (λ other. absurd (other (sym q.0)))

      facet_there : (k : ℕ) → k < suc (length (g.nodes root)) → Val (with_object h (facet_object root (length (g.nodes root)))) (object (facet_name root k)) (es3.facet_at (g.facets root ++ length h.list ∷ []) k)
      facet_there k lt = by_number k (length (g.facets root)) (Val h' (object (facet_name root k)) (es3.facet_at places' k))
          (λ same. subst (λ j. Val h' (object (facet_name root j)) (es3.facet_at places' j)) (sym same)
          (subst (λ q. Val h' (object (facet_name root (length (g.facets root)))) (es3.or_nothing (option_map es.Obj q))) (sym (get-push (g.facets root) (length h.list)))
          (subst (λ j. Named h' (facet_name root j) (length h.list)) (sym (p.as_many root)) (facet_here h root (length (g.nodes root))))))
          (λ other. let q = p.as_many root in
          subst (λ q. Val h' (object (facet_name root k)) (es3.or_nothing (option_map es.Obj q))) (sym (get-push-other (g.facets root) k (length h.list) (omega (arith, lt, q, other))))
          (val_keep keeps (object (facet_name root k)) (es3.facet_at (g.facets root) k) (p.facets root k (omega (arith, lt, q, other)))))

  pub renoded_is : (root : ℕ) (ms : List Node) → AreNodes root ms → KeptIs first places m h (with_nodes root ms w) (es3.renoded root ms h g)
  renoded_is root ms c = elim c.long as (λ q. KeptIs first places m h (with_nodes root ms w) (es3.renoded root ms h g)) [
    | inl same ↦ let fewer : nat_lt (length (g.nodes root)) (length ms) ≡ false = grind (arith, nat_tests) in rw fewer (as_many_are root ms c same)
    | inr more ↦ let longer : nat_lt (length (g.nodes root)) (length ms) ≡ true = grind (arith, nat_tests) in rw longer (one_more_is root ms c more)
  ]

  -- a node that changes, by what stands for it
  noded_at : (change : ℕ → List Node → List Node) → ((k : ℕ) (ns : List Node) → AreWithin (length ns) ns → IsChange ns (change k ns)) → (root k : ℕ) → KeptIs first places m h (with_nodes root (change k (w.nodes root)) w) (es3.renoded root (change k (g.nodes root)) h g)
  noded_at change fits root k =
      subst (λ ns. KeptIs first places m h (with_nodes root (change k ns) w) (es3.renoded root (change k (g.nodes root)) h g)) (sym (p.nodes root)) (renoded_is root (change k (g.nodes root)) (fits k (g.nodes root) (p.within root)))

  same_noded : KeptIs first places m h w (record { heap = h; page = g })
  same_noded = record { objects = o; keeps = keeps_refl; pages = p }

-- where a node changes

pub noding_is : {first : Objects} {places : Native → ℕ} {m : ℕ} (change : ℕ → List Node → List Node) → ((k : ℕ) (ns : List Node) → AreWithin (length ns) ns → IsChange ns (change k ns)) → (h : Objects) (w : World) (g : es3.Page) → IsFirst first → ObjectsAre first places w.objects h m → PagesAre h w g → (v : Value) (e : EsValue) → Val h v e → KeptIs first places m h (direct.noding v change w) (es3.noding_by (es3.named h e) change h g)
noding_is {first = first} {places = places} {m = m} change fits h w g f o p = by_value h (λ v e. KeptIs first places m h (direct.noding v change w) (es3.noding_by (es3.named h e) change h g)) same same (λ a. same) (λ n. same) (λ us. same) (λ n i q. rw q (by_name n))
  where
    same : KeptIs first places m h w (record { heap = h; page = g })
    same = same_noded h w g f o p

    by_code : (c : List ℕ) → KeptIs first places m h w (es3.noding_by (tag_of_code c) change h g)
    by_code [] = same
    by_code (n ∷ []) = same
    by_code (n ∷ k ∷ []) = same
    by_code (n ∷ k ∷ j ∷ c) = same

    by_name : (n : Name) → KeptIs first places m h (direct.noding (object n) change w) (es3.noding_by (tag_of_name n) change h g)
    by_name (facet_name root k) = noded_at h w g f o p change fits root k
    by_name (built_name k) = by_code (code_of k)
    by_name (tools_name of_cajita) = same
    by_name (tools_name of_math) = same
    by_name n = same

pub node_told_is : (h : Objects) (c : Change) (v : Value) (e : EsValue) → Val h v e → shown (direct.node_told v c) ≡ es3.node_told_by (es3.named h e) c
node_told_is h c = by_value h (λ v e. shown (direct.node_told v c) ≡ es3.node_told_by (es3.named h e) c) refl refl (λ a. refl) (λ n. refl) (λ us. refl) (λ n i q. rw q (by_name n))
  where
    by_code : (k : List ℕ) → [] ≡ es3.node_told_by (tag_of_code k) c
    by_code [] = refl
    by_code (n ∷ []) = refl
    by_code (n ∷ k ∷ []) = refl
    by_code (n ∷ k ∷ j ∷ l) = refl

    by_name : (n : Name) → shown (direct.node_told (object n) c) ≡ es3.node_told_by (tag_of_name n) c
    by_name (built_name f) = by_code (code_of f)
    by_name (tools_name of_cajita) = refl
    by_name (tools_name of_math) = refl
    by_name n = refl

-- where a root gets one more

pub record Added (first : Objects) (places : Native → ℕ) (m : ℕ) (h : Objects) (w : World) (k : es3.Kept) (v : Value) (e : EsValue) : Type 0 where
  pub noded : KeptIs first places m h w k
  pub new : Val k.heap v e

pub adding_is : {first : Objects} {places : Native → ℕ} {m : ℕ} (n : Node) → n.parent ≡ None → n.children ≡ [] → (h : Objects) (w : World) (g : es3.Page) → IsFirst first → ObjectsAre first places w.objects h m → PagesAre h w g → (v : Value) (e : EsValue) → Val h v e
    → Added first places m h (direct.noding v (λ k ns. ns ++ n ∷ []) w) (es3.noding_by (es3.named h e) (λ k ns. ns ++ n ∷ []) h g) (direct.new_node v w) (es3.new_node_by (es3.named h e) h)
adding_is {first = first} {places = places} {m = m} n up empty h w g f o p = by_value h IsAdded same same (λ a. same) (λ k. same) (λ us. same) (λ k i q. rw q (by_name k))
  where
    IsAdded : Value → EsValue → Type 0
    IsAdded v e = Added first places m h (direct.noding v (λ k ns. ns ++ n ∷ []) w) (es3.noding_by (es3.named h e) (λ k ns. ns ++ n ∷ []) h g) (direct.new_node v w) (es3.new_node_by (es3.named h e) h)

    same : Added first places m h w (record { heap = h; page = g }) undefined es.Undefined
    same = record { noded = same_noded h w g f o p; new = tt }

    by_code : (c : List ℕ) → Added first places m h w (es3.noding_by (tag_of_code c) (λ k ns. ns ++ n ∷ []) h g) undefined (es3.new_node_by (tag_of_code c) h)
    by_code [] = same
    by_code (a ∷ []) = same
    by_code (a ∷ b ∷ []) = same
    by_code (a ∷ b ∷ d ∷ c) = same

    -- the last node of the root is the one that came
    last : (root : ℕ) → Named (es3.renoded root (g.nodes root ++ n ∷ []) h g).heap (facet_name root (length (w.nodes root))) (length h.list)
    last root =
        let l = length-append (g.nodes root) (n ∷ []) in
        let longer : nat_lt (length (g.nodes root)) (length (g.nodes root ++ n ∷ [])) ≡ true = less_is (length (g.nodes root)) (length (g.nodes root ++ n ∷ [])) (omega (arith, l)) in
        rw longer (subst (λ j. Named (with_object h (facet_object root (length (g.nodes root)))) (facet_name root j) (length h.list)) (ap length (sym (p.nodes root))) (facet_here h root (length (g.nodes root))))

    by_name : (k : Name) → Added first places m h (direct.noding (object k) (λ k ns. ns ++ n ∷ []) w) (es3.noding_by (tag_of_name k) (λ k ns. ns ++ n ∷ []) h g) (direct.new_node (object k) w) (es3.new_node_by (tag_of_name k) h)
    by_name (facet_name root k) = record { noded = noded_at h w g f o p (λ k ns. ns ++ n ∷ []) (λ k ns a. added_fits n up empty ns a) root k; new = last root }
    by_name (built_name k) = by_code (code_of k)
    by_name (tools_name of_cajita) = same
    by_name (tools_name of_math) = same
    by_name k = same

-- where something waits

handlers_append : (h : Objects) (xs cs : List Handler) (ys ds : List es3.Handler) → HandlersAre h xs ys → HandlersAre h cs ds → HandlersAre h (xs ++ cs) (ys ++ ds)
handlers_append h [] cs [] ds p q = q
handlers_append h (x ∷ xs) cs (y ∷ ys) ds p q = (p.0, handlers_append h xs cs ys ds p.1 q)
handlers_append h _ cs _ ds p q = absurd p

pub listening_objects : (v : Value) (us : List ℕ) (u : Value) (w : World) → (direct.listening v us u w).objects ≡ w.objects
listening_objects (object (facet_name root k)) us u w = refl
listening_objects v us u w = refl

pub listening_is : (us : List ℕ) (h : Objects) (w : World) (g : es3.Page) → PagesAre h w g → (u : Value) (f : EsValue) → Val h u f → (v : Value) (e : EsValue) → Val h v e → PagesAre h (direct.listening v us u w) (es3.listening_by (es3.named h e) us f g)
listening_is us h w g p u f t = by_value h (λ v e. PagesAre h (direct.listening v us u w) (es3.listening_by (es3.named h e) us f g)) p p (λ a. p) (λ n. p) (λ us. p) (λ n i q. rw q (by_name n))
  where
    by_code : (c : List ℕ) → PagesAre h w (es3.listening_by (tag_of_code c) us f g)
    by_code [] = p
    by_code (n ∷ []) = p
    by_code (n ∷ k ∷ []) = p
    by_code (n ∷ k ∷ j ∷ c) = p

    by_name : (n : Name) → PagesAre h (direct.listening (object n) us u w) (es3.listening_by (tag_of_name n) us f g)
    by_name (facet_name root k) = record {
      cells = p.cells;
      queues = p.queues;
      nodes = p.nodes;
      within = p.within;
      facets = p.facets;
      as_many = p.as_many;
      known = p.known;
      handlers = λ r. by_root r root (w.handlers root ++ record { on = k; what = us; does = u } ∷ []) (w.handlers r) (g.handlers root ++ record { on = k; what = us; does = f } ∷ []) (g.handlers r) (λ x y. HandlersAre h x y)
          (λ same. handlers_append h (w.handlers root) _ (g.handlers root) _ (p.handlers root) (record { on = refl; what = refl; does = t }, tt)) (λ other. p.handlers r);
    }
    by_name (built_name k) = by_code (code_of k)
    by_name (tools_name of_cajita) = p
    by_name (tools_name of_math) = p
    by_name n = p
