-- What a change of objects leaves of the relation, and what is told.
use Rattle.std.proofs.Common.{Bool, ◌≡◌, ◌⊎◌, ℕ, ◌+◌, ◌*◌, ◌≤◌, List, [], ◌++◌, length, Option, Some, refl, sym, ap, ◌∙◌, subst, arith}
use Rattle.std.specs.Prelude.{slice_get, is_some}
use Rattle.std.proofs.lemmas.Option.{slice_get_within}
use Rattle.es3_objects.specs.declared.value.Class.TheVariants as class
use Rattle.es3_heap.specs.Objects as heap
use Rattle.es3_heap.specs.Objects.{Objects}
use Rattle.es3_heap.specs.Properties.{find}
use Rattle.es3_heap.specs.Making.{count_at}
use Rattle.es3_language.specs.Store.{Store, with_heap}
use Rattle.rows.specs.Nodes.{Rules}
use Rattle.cajita_tree.specs.Tree as c
use Rattle.cajita_meaning.specs.World.{made_name, Pairs, Object, a_closure, World}
use Rattle.cajita_meaning.specs.Direct.{Item}
use Rattle.heap_rows.specs.Marks.{simple_mark}
use Rattle.heap_rows.specs.Doing.{Page, Told, heard}
use Rattle.heap_rows.specs.Opening.{first, place_of}
use Rattle.page_natives.specs.Natives.{Kept, page_of, tells}
use Rattle.row_simulation.specs.Correspond as rows
use Rattle.row_simulation.specs.RowLaw.{shown, PagesAre}
use Rattle.row_simulation.proofs.Changes.{named_within}
use Rattle.row_simulation.proofs.Relation as row_relation
use Rattle.cajita_simulation.specs.Alike.{heard_by}
use Rattle.doc_views.specs.Came.{IsRuled}
use Rattle.tamed_dom.specs.Lent.{Lent}
use Rattle.node_rows.specs.Whole.{IsWhole}
use Rattle.cajita_simulation.specs.Related.{KnowsPage, IsBare}
use Rattle.cajita_simulation.proofs.Relation.{WaitersAre, RelAt, Named, ObjectsAre, Tags, AreScopes, Temps, Slot, unknown, declared, holds, keys, SlotIs, ScopesAre, Here, CodeIs, ClosuresAre, Related, Closed, Shaped, Stays, optval_keep, list_keep}
use Rattle.row_simulation.proofs.Quiet.{Quiet, quiet_keeps, quiet_no_node, objects_quiet}
use Rattle.row_simulation.proofs.Row.{pages_keep}
use Rattle.cajita_simulation.proofs.Told.{items_told, shown_quiet}
use Rattle.cajita_simulation.proofs.Shared.{shared_keep}
use Rattle.cajita_simulation.proofs.Scopes.{stands_stays, captured_stays}

-- objects changed on both sides, and correspond again when m' steps are taken, with a page that keeps this; no closure of a module came or went, and no scope of the world changed
pub record Changes (g : Page) (w : World) (s : Store) (w' : World) (h' : Objects) (m' : ℕ) : Type 0 where
  pub objects : ObjectsAre first place_of w'.objects h' m'
  pub pages : PagesAre h' w' g
  pub keeps : rows.Keeps s.heap h'
  pub scopes : w'.scopes ≡ w.scopes
  pub older : (m n : ℕ) (f : c.Tree c.func) (chain : List ℕ) → slice_get (w'.objects m) n ≡ Some (a_closure f chain) → slice_get (w.objects m) n ≡ Some (a_closure f chain)
  pub closed : Closed w w'
  pub waiters : WaitersAre w → WaitersAre w'

-- the natives still know where these are
pub knows_still : {rules : Rules} {y y' : Kept} → y'.runtime ≡ y.runtime → y'.imports ≡ y.imports → y'.dom ≡ y.dom → y'.answers ≡ y.answers → KnowsPage rules y → KnowsPage rules y'
knows_still {rules = rules} {y = y} {y' = y'} runtime imports dom answers k = record {
  runtime = runtime ∙ k.runtime;
  imports = ap length imports ∙ k.imports;
  whole = subst IsWhole (sym dom) k.whole;
  ruled = subst (λ (l : Lent). IsBare l.doc ⊎ IsRuled y'.answers rules) (sym dom) (subst (λ a. IsBare y.dom.doc ⊎ IsRuled a rules) (sym answers) k.ruled);
}

-- other objects, and the same scopes
pub shaped_heap : (g : Tags) (s : Store) (h' : Objects) → Shaped g s g (with_heap s h')
shaped_heap g s h' = record { count = omega arith; shape = λ c x lt. refl; fixed = λ c lt. refl; codes = λ k code e. e; tags = λ c t e. e }

-- a closure's code, where its object is what it was
pub code_stays : {by : ℕ} {g g' : Tags} {s s' : Store} {f : c.Tree c.func} {direct : List ℕ} {i : ℕ} → heap.object_at s'.heap i ≡ heap.object_at s.heap i → Shaped g s g' s' → AreScopes s → AreScopes s' → CodeIs by g s f direct i → CodeIs by g' s' f direct i
code_stays same shaped are are' p = record {
  number = p.number;
  callable = ap heap.callable_of same ∙ p.callable;
  chain = p.chain;
  code = shaped.codes p.number _ p.code;
  simple = ap (λ o. is_some (find simple_mark (heap.props_of o))) same ∙ p.simple;
  vars = p.vars;
  free = p.free;
  captured = captured_stays shaped are are' p.captured;
  guest = p.guest;
}

-- the objects are the same ones
pub closures_shaped : (objects : ℕ → List Object) {g g' : Tags} {s s' : Store} → s'.heap ≡ s.heap → Shaped g s g' s' → AreScopes s → AreScopes s' → ClosuresAre objects g s → ClosuresAre objects g' s'
closures_shaped objects same shaped are are' r = λ m n f chain known.
    let p = r m n f chain known in
    (p.0, λ i named. code_stays (ap (λ h. heap.object_at h i) same) shaped are are' (p.1 i (sym (ap (λ h. heap.tag_of (heap.object_at h i)) same) ∙ named)))

pub closure_class : {objects : List Object} {h : Objects} {n : ℕ} {f : c.Tree c.func} {chain : List ℕ} {o : heap.Object} → slice_get objects n ≡ Some (a_closure f chain) → rows.IsMade objects h n o → o.class ≡ class.Function
closure_class {h = h} {f = f} {chain = chain} {o = o} known p =
    let is = subst (λ q. rows.Is h q o) (same p.object (a_closure f chain) (sym p.known ∙ known)) p.is in
    is.class
  where
    same : (a b : Object) → (let q : Option Object = Some a in q) ≡ Some b → a ≡ b
    same a b e = cc

-- closures, where the objects changed and the world has the same ones
pub closures_kept : {objects : ℕ → List Object} {h' : Objects} {g : Tags} {s : Store} {m0 : ℕ} → rows.Keeps s.heap h' → AreScopes s → ObjectsAre first place_of objects s.heap m0 → ClosuresAre objects g s → ClosuresAre objects g (with_heap s h')
closures_kept {objects = world} {h' = h'} {g = g} {s = s} keeps are objects r = λ m n f chain known.
    let p = r m n f chain known in (
      p.0,
      λ i named.
          let less = slice_get_within (world m) n (a_closure f chain) known in
          let counted : count_at (slice_get s.heap.counts m) ≡ length (world m) = ap count_at (objects.count m p.0) in
          let was : Named s.heap (made_name m n) i = keeps.older m n i named (omega (arith, less, counted)) in
          let stands = objects.each (made_name m n) i was in
          let class : heap.class_of (heap.object_at s.heap i) ≡ class.Function = ap heap.class_of stands.there ∙ closure_class known stands.is in
          code_stays (keeps.functions i (named_within s.heap (made_name m n) i was) class) (shaped_heap g s h') are are (p.1 i was),
    )

closures_changed : {p : Page} {w w' : World} {h' : Objects} {g : Tags} {s : Store} {m m' : ℕ} → Changes p w s w' h' m' → AreScopes s → ObjectsAre first place_of w.objects s.heap m → ClosuresAre w.objects g s → ClosuresAre w'.objects g (with_heap s h')
closures_changed x are objects r = λ m n f chain known. closures_kept x.keeps are objects r m n f chain (x.older m n f chain known)

-- values of variables and of hidden names

slot_keep : (s : Store) (h' : Objects) (c : ℕ) (x : List ℕ) (q : Slot) → rows.Keeps s.heap h' → SlotIs s c x q → SlotIs (with_heap s h') c x q
slot_keep s h' c x unknown k p = tt
slot_keep s h' c x declared k p = p
slot_keep s h' c x (holds v) k p = (p.0, p.1, row_relation.val_keep k v p.0 p.2)
slot_keep s h' c x (keys ks) k p = (p.0, p.1, list_keep k ks p.0 p.2)

pub scopes_keep : {T : Temps} {g : Tags} {scopes : ℕ → List Pairs} {s : Store} {h' : Objects} → rows.Keeps s.heap h' → ScopesAre T g scopes s → ScopesAre T g scopes (with_heap s h')
scopes_keep {T = T} {s = s} {h' = h'} k r = record {
  same = λ c m n tag x guest. optval_keep {i = 0} {j = 0} (record { objects = k; more = omega arith }) _ _ (r.same c m n tag x guest);
  once = r.once;
  known = r.known;
  count = r.count;
  temps = λ c x hidden. slot_keep s h' c x (T c x) k (r.temps c x hidden);
  runtime = r.runtime;
  are = r.are;
  shared = shared_keep k (omega arith) s.shared r.shared;
}

pub stays_changed : {p : Page} {w w' : World} {h' : Objects} {s : Store} {m m' : ℕ} (g : Tags) → Changes p w s w' h' m' → m ≤ m' → Stays w g s m w' g (with_heap s h') m'
stays_changed {h' = h'} {s = s} g x le = record { heap = record { objects = x.keeps; more = le }; shaped = shaped_heap g s h'; closed = x.closed }

-- what natives keep may change too, and what is printed
pub related_settled : {rules : Rules} {T : Temps} {j k : ℕ} {w w' : World} {h' : Objects} {z z' : List Item} {n : ℕ} {g : Tags} {s : Store} {y y' : Kept} {m m' : ℕ} → Changes (page_of y') w s w' h' m' → KnowsPage rules y' → heard_by y' z' ≡ y'.told → m ≤ m' → m' + k ≤ 64 * n → Related rules T j w z n g s y m → Related rules T k w' z' n g (with_heap s h') y' m'
related_settled {T = T} {h' = h'} {g = g} {s = s} x knows items le fits r = record {
  steps = fits;
  items = items;
  objects = x.objects;
  pages = x.pages;
  closures = closures_changed x r.scopes.are r.objects r.closures;
  waiters = x.waiters r.waiters;
  scopes = subst (λ q. ScopesAre T g q (with_heap s h')) (sym x.scopes) (scopes_keep x.keeps r.scopes);
  globals = r.globals;
  kept = knows;
}

pub rel_settled : {form : Bool} {H : Here} {T : Temps} {j k : ℕ} {w w' : World} {h' : Objects} {z z' : List Item} {n : ℕ} {g : Tags} {s : Store} {y y' : Kept} {m m' : ℕ} → Changes (page_of y') w s w' h' m' → KnowsPage H.rules y' → heard_by y' z' ≡ y'.told → m ≤ m' → m' + k ≤ 64 * n → RelAt form H T j w z n g s y m → RelAt form H T k w' z' n g (with_heap s h') y' m'
rel_settled {form = form} {H = H} {h' = h'} {g = g} {s = s} x knows items le fits r = record {
  all = related_settled x knows items le fits r.all;
  here = stands_stays form H (shaped_heap g s h') r.all.scopes.are r.all.scopes.are r.here;
}

pub related_changed : {rules : Rules} {T : Temps} {j k : ℕ} {w w' : World} {h' : Objects} {z : List Item} {n : ℕ} {g : Tags} {s : Store} {y : Kept} {m m' : ℕ} → Changes (page_of y) w s w' h' m' → m ≤ m' → m' + k ≤ 64 * n → Related rules T j w z n g s y m → Related rules T k w' z n g (with_heap s h') y m'
related_changed x le fits r = related_settled x r.kept r.items le fits r

pub rel_changed : {form : Bool} {H : Here} {T : Temps} {j k : ℕ} {w w' : World} {h' : Objects} {z : List Item} {n : ℕ} {g : Tags} {s : Store} {y : Kept} {m m' : ℕ} → Changes (page_of y) w s w' h' m' → m ≤ m' → m' + k ≤ 64 * n → RelAt form H T j w z n g s y m → RelAt form H T k w' z n g (with_heap s h') y m'
rel_changed x le fits r = rel_settled x r.all.kept r.all.items le fits r

-- objects without names change
quiet_changes : {rules : Rules} {T : Temps} {k : ℕ} {w : World} {z : List Item} {n : ℕ} {g : Tags} {s : Store} {y : Kept} {m : ℕ} {h' : Objects} → Quiet first s.heap h' → Related rules T k w z n g s y m → Changes (page_of y) w s w h' m
quiet_changes {w = w} q r =
    let keeps = quiet_keeps q in
    record {
      objects = objects_quiet q r.objects;
      pages = pages_keep w w _ keeps (quiet_no_node q) (refl, refl, refl, refl) r.pages;
      keeps = keeps;
      scopes = refl;
      older = λ m n f chain e. e;
      closed = Rattle.cajita_simulation.proofs.Relation.closed_refl;
      waiters = λ f. f;
    }

pub rel_quiet : {form : Bool} {H : Here} {T : Temps} {k : ℕ} {w : World} {z : List Item} {n : ℕ} {g : Tags} {s : Store} {y : Kept} {m : ℕ} {h' : Objects} → Quiet first s.heap h' → RelAt form H T k w z n g s y m → RelAt form H T k w z n g (with_heap s h') y m
rel_quiet q r = rel_changed (quiet_changes q r.all) (omega arith) r.all.steps r

pub stays_quiet : {w : World} {s : Store} {m : ℕ} {h' : Objects} (g : Tags) → Quiet first s.heap h' → Stays w g s m w g (with_heap s h') m
stays_quiet {s = s} {h' = h'} g q = record { heap = record { objects = quiet_keeps q; more = omega arith }; shaped = shaped_heap g s h'; closed = Rattle.cajita_simulation.proofs.Relation.closed_refl }

-- what is told that no page tells

pub related_told : {rules : Rules} {T : Temps} {k : ℕ} {w : World} {z z' : List Item} {n : ℕ} {g : Tags} {s : Store} {y : Kept} {m : ℕ} → shown z' ≡ shown z → Related rules T k w z n g s y m → Related rules T k w z' n g s y m
related_told {y = y} same r = record { steps = r.steps; items = ap (heard y.touching) same ∙ r.items; objects = r.objects; pages = r.pages; closures = r.closures; waiters = r.waiters; scopes = r.scopes; globals = r.globals; kept = r.kept }

pub rel_told : {form : Bool} {H : Here} {T : Temps} {k : ℕ} {w : World} {z : List Item} {n : ℕ} {g : Tags} {s : Store} {y : Kept} {m : ℕ} (more : List Item) → shown more ≡ [] → RelAt form H T k w z n g s y m → RelAt form H T k w (z ++ more) n g s y m
rel_told {z = z} more quiet r = record { all = related_told (shown_quiet z more quiet) r.all; here = r.here }

-- what both sides tell
pub rel_tells : {form : Bool} {H : Here} {T : Temps} {k : ℕ} {w : World} {z : List Item} {n : ℕ} {g : Tags} {s : Store} {y : Kept} {m : ℕ} (is : List Item) (items : List Told) → shown is ≡ items → RelAt form H T k w z n g s y m → RelAt form H T k w (z ++ is) n g s (tells items y) m
rel_tells {z = z} {y = y} is items same r = record {
  all = record { steps = r.all.steps; items = items_told y z is items same r.all.items; objects = r.all.objects; pages = r.all.pages; closures = r.all.closures; waiters = r.all.waiters; scopes = r.all.scopes; globals = r.all.globals; kept = knows_still refl refl refl refl r.all.kept };
  here = r.here;
}
