-- What persists from one related state to a later one, and the steps that are in hand.
use Rattle.std.proofs.Common.{Bool, ◌≡◌, ℕ, suc, ◌+◌, ◌*◌, ◌≤◌, ◌<◌, List, [], ◌∷◌, length, Option, Some, None, refl, ap, ◌∙◌, arith}
use Rattle.std.specs.Prelude.{slice_get, is_some}
use Rattle.std.proofs.lemmas.Option.{slice_get_within}
use Rattle.es3_objects.specs.declared.value.Value.TheVariants as es
use Rattle.es3_heap.specs.Objects as heap
use Rattle.es3_heap.specs.Objects.{Objects}
use Rattle.es3_language.specs.Store as store
use Rattle.es3_language.specs.Store.{Store, name_value}
use Rattle.es3_language.specs.Arguments.{is_fixed}
use Rattle.rows.specs.Nodes.{Rules}
use Rattle.cajita_tree.specs.Tree as c
use Rattle.cajita_meaning.specs.World.{made_name, Value, object, Object, a_closure, World}
use Rattle.cajita_meaning.specs.Direct.{Item}
use Rattle.page_natives.specs.Natives.{Kept}
pub use Rattle.row_simulation.specs.Correspond.{EsValue, Named, Val, Vals, ObjectsAre}
use Rattle.row_simulation.specs.Correspond as rows
use Rattle.row_simulation.specs.RowLaw.{IsList}
use Rattle.row_simulation.proofs.Relation as row_relation
use Rattle.row_simulation.proofs.Row as row_laws
pub use Rattle.cajita_simulation.specs.Guest.{Names}
pub use Rattle.cajita_simulation.specs.Scopes.{ScopeTag, tag_of_scope, Tags, Chained, OptVal, names_at, ScopeIs, OwnNames, IsScope, AreScopes, Slot, unknown, declared, holds, keys, Temps, no_temps, SlotIs, SharedAre, ScopesAre}
pub use Rattle.cajita_simulation.specs.Related.{IsClosure, AreClosures, WaitersAre, Turn, Here, env_of, Within, Place, Captured, In, CodeIs, ClosuresAre, Related, Between, StandsIn, RelAt, Rel}

-- of the objects: what a row leaves, and steps that only grow
pub record Keeps (a : Objects) (i : ℕ) (b : Objects) (j : ℕ) : Type 0 where
  pub objects : rows.Keeps a b
  pub more : i ≤ j

-- of the scopes: which names each has, and whether they may be written; tags and code stay
pub record Shaped (g : Tags) (s : Store) (g' : Tags) (s' : Store) : Type 0 where
  pub count : length s.scopes ≤ length s'.scopes
  pub shape : (c : ℕ) (x : List ℕ) → c < length s.scopes → is_some (name_value x (names_at s' c)) ≡ is_some (name_value x (names_at s c))
  pub fixed : (c : ℕ) → c < length s.scopes → is_fixed (slice_get s'.scopes c) ≡ is_fixed (slice_get s.scopes c)
  pub codes : (k : ℕ) (code : store.Code) → slice_get s.codes k ≡ Some code → slice_get s'.codes k ≡ Some code
  pub tags : (c : ℕ) (t : ScopeTag) → slice_get g c ≡ Some t → slice_get g' c ≡ Some t

-- of the world: closures
pub record Closed (w w' : World) : Type 0 where
  pub closures : (m n : ℕ) (f : c.Tree c.func) (chain : List ℕ) → slice_get (w.objects m) n ≡ Some (a_closure f chain) → slice_get (w'.objects m) n ≡ Some (a_closure f chain)

pub record Stays (w : World) (g : Tags) (s : Store) (i : ℕ) (w' : World) (g' : Tags) (s' : Store) (j : ℕ) : Type 0 where
  pub heap : Keeps s.heap i s'.heap j
  pub shaped : Shaped g s g' s'
  pub closed : Closed w w'

pub same_keeps : {a : Objects} → rows.Keeps a a
same_keeps = row_laws.keeps_refl

pub keeps_refl : {a : Objects} {i : ℕ} → Keeps a i a i
keeps_refl = record { objects = same_keeps; more = omega arith }

pub keeps_trans : {a b c : Objects} {i j k : ℕ} → Keeps a i b j → Keeps b j c k → Keeps a i c k
keeps_trans p q = record { objects = row_laws.keeps_trans p.objects q.objects; more = omega (arith, p.more, q.more) }

pub keeps_step : {a : Objects} {i j : ℕ} → i ≤ j → Keeps a i a j
keeps_step le = record { objects = same_keeps; more = le }

pub keeps_before : {a b : Objects} {i j : ℕ} → Keeps a (suc i) b j → Keeps a i b j
keeps_before k = record { objects = k.objects; more = omega (arith, k.more) }

pub shaped_refl : {g : Tags} {s : Store} → Shaped g s g s
shaped_refl = record { count = omega arith; shape = λ c x lt. refl; fixed = λ c lt. refl; codes = λ k code e. e; tags = λ c t e. e }

pub shaped_trans : {f g h : Tags} {a b c : Store} → Shaped f a g b → Shaped g b h c → Shaped f a h c
shaped_trans p q = record {
  count = omega (arith, p.count, q.count);
  shape = λ n x lt. q.shape n x (omega (arith, lt, p.count)) ∙ p.shape n x lt;
  fixed = λ n lt. q.fixed n (omega (arith, lt, p.count)) ∙ p.fixed n lt;
  codes = λ k code e. q.codes k code (p.codes k code e);
  tags = λ c t e. q.tags c t (p.tags c t e);
}

pub closed_refl : {w : World} → Closed w w
closed_refl = record { closures = λ m n f chain e. e }

pub stays_refl : {w : World} {g : Tags} {s : Store} {i : ℕ} → Stays w g s i w g s i
stays_refl = record { heap = keeps_refl; shaped = shaped_refl; closed = closed_refl }

pub stays_trans : {u v w : World} {f g h : Tags} {a b c : Store} {i j k : ℕ} → Stays u f a i v g b j → Stays v g b j w h c k → Stays u f a i w h c k
stays_trans p q = record { heap = keeps_trans p.heap q.heap; shaped = shaped_trans p.shaped q.shaped; closed = record { closures = λ m n f chain e. q.closed.closures m n f chain (p.closed.closures m n f chain e) } }

pub stays_step : {w : World} {g : Tags} {s : Store} {i j : ℕ} → i ≤ j → Stays w g s i w g s j
stays_step le = record { heap = keeps_step le; shaped = shaped_refl; closed = closed_refl }

pub stays_before : {w w' : World} {g g' : Tags} {s s' : Store} {i j : ℕ} → Stays w g s (suc i) w' g' s' j → Stays w g s i w' g' s' j
stays_before k = record { heap = keeps_before k.heap; shaped = k.shaped; closed = k.closed }

pub val_keep : {a b : Objects} {i j : ℕ} → Keeps a i b j → (v : Value) (e : EsValue) → Val a v e → Val b v e
val_keep k v e p = row_relation.val_keep k.objects v e p

-- an array of texts that has no name stays as it is
pub list_keep : {a b : Objects} → rows.Keeps a b → (ks : List (List ℕ)) (e : EsValue) → IsList a ks e → IsList b ks e
list_keep {a = a} k ks (es.Obj i) p = k.bare i (slice_get_within a.list i _ p) (ap heap.tag_of p) (ap heap.class_of p) ∙ p
list_keep k ks _ p = absurd p

pub optval_keep : {a b : Objects} {i j : ℕ} → Keeps a i b j → (v : Option Value) (e : Option EsValue) → OptVal a v e → OptVal b v e
optval_keep k None None p = tt
optval_keep k (Some v) (Some e) p = val_keep k v e p
optval_keep k _ _ p = absurd p

-- of closures that wait: closures that were there are there

pub closure_kept : (a b : ℕ → List Object) → ((m n : ℕ) (f : c.Tree c.func) (chain : List ℕ) → slice_get (a m) n ≡ Some (a_closure f chain) → slice_get (b m) n ≡ Some (a_closure f chain)) → (v : Value) → IsClosure a v → IsClosure b v
closure_kept a b k (object (made_name m n)) is = (is.0, is.1, k m n is.0 is.1 is.2)
closure_kept a b k (object o) is = absurd is
closure_kept a b k v is = absurd is

pub closures_wait : (a b : ℕ → List Object) → ((m n : ℕ) (f : c.Tree c.func) (chain : List ℕ) → slice_get (a m) n ≡ Some (a_closure f chain) → slice_get (b m) n ≡ Some (a_closure f chain)) → (vs : List Value) → AreClosures a vs → AreClosures b vs
closures_wait a b k [] are = tt
closures_wait a b k (v ∷ vs) are = (closure_kept a b k v are.0, closures_wait a b k vs are.1)

-- steps in hand

pub objects_step : {first : Objects} {places : Rattle.rows.specs.Rows.Native → ℕ} {objects : ℕ → List Object} {h : Objects} {i j : ℕ} → i ≤ j → ObjectsAre first places objects h i → ObjectsAre first places objects h j
objects_step le o = record { each = o.each; once = o.once; natives = o.natives; reads = o.reads; sets = o.sets; above = o.above; count = o.count; few = λ n. let f = o.few n in omega (arith, f, le); opened = o.opened; unnamed = o.unnamed; large = o.large }

pub related_steps : {rules : Rules} {T : Temps} {j k : ℕ} {w : World} {z : List Item} {n n' : ℕ} {g : Tags} {s : Store} {y : Kept} {m m' : ℕ} → m ≤ m' → m' + k ≤ 64 * n' → Related rules T j w z n g s y m → Related rules T k w z n' g s y m'
related_steps le fits r = record { steps = fits; items = r.items; objects = objects_step le r.objects; pages = r.pages; closures = r.closures; waiters = r.waiters; scopes = r.scopes; globals = r.globals; kept = r.kept }

pub rel_steps : {form : Bool} {H : Here} {T : Temps} {j k : ℕ} {w : World} {z : List Item} {n n' : ℕ} {g : Tags} {s : Store} {y : Kept} {m m' : ℕ} → m ≤ m' → m' + k ≤ 64 * n' → RelAt form H T j w z n g s y m → RelAt form H T k w z n' g s y m'
rel_steps le fits r = record { all = related_steps le fits r.all; here = r.here }

pub rel_less : {form : Bool} {H : Here} {T : Temps} {j k : ℕ} {w : World} {z : List Item} {n : ℕ} {g : Tags} {s : Store} {y : Kept} {m : ℕ} → j ≤ k → RelAt form H T k w z n g s y m → RelAt form H T j w z n g s y m
rel_less le r = rel_steps (omega arith) (omega (arith, le, r.all.steps)) r

-- nothing is known any more of hidden names, and no step is in hand
pub related_between : {rules : Rules} {T : Temps} {k : ℕ} {w : World} {z : List Item} {n : ℕ} {g : Tags} {s : Store} {y : Kept} {m : ℕ} → Related rules T k w z n g s y m → Between rules w z n g s y m
related_between r = record {
  steps = omega (arith, r.steps);
  items = r.items;
  objects = r.objects;
  pages = r.pages;
  closures = r.closures;
  waiters = r.waiters;
  scopes = record { same = r.scopes.same; once = r.scopes.once; known = r.scopes.known; count = r.scopes.count; temps = λ c x hidden. tt; runtime = r.scopes.runtime; are = r.scopes.are; shared = r.scopes.shared };
  globals = r.globals;
  kept = r.kept;
}

-- forty more
abbrev pub more : ℕ → ℕ
more k = suc (suc (suc (suc (suc (suc (suc (suc (suc (suc (suc (suc (suc (suc (suc (suc (suc (suc (suc (suc (suc (suc (suc (suc (suc (suc (suc (suc (suc (suc (suc (suc (suc (suc (suc (suc (suc (suc (suc (suc k)))))))))))))))))))))))))))))))))))))))

-- both take a step
pub rel_both : {form : Bool} {H : Here} {T : Temps} {k : ℕ} {w : World} {z : List Item} {n : ℕ} {g : Tags} {s : Store} {y : Kept} {m : ℕ} → RelAt form H T k w z n g s y m → RelAt form H T (more k) w z (suc n) g s y (suc m)
rel_both r = rel_steps (omega arith) (omega (arith, r.all.steps)) r

-- the interpreter takes one
pub rel_pay : {form : Bool} {H : Here} {T : Temps} {k : ℕ} {w : World} {z : List Item} {n : ℕ} {g : Tags} {s : Store} {y : Kept} {m : ℕ} → RelAt form H T (suc k) w z n g s y m → RelAt form H T k w z n g s y (suc m)
rel_pay r = rel_steps (omega arith) (omega (arith, r.all.steps)) r

-- the direct meaning takes one
pub rel_tick : {form : Bool} {H : Here} {T : Temps} {k : ℕ} {w : World} {z : List Item} {n : ℕ} {g : Tags} {s : Store} {y : Kept} {m : ℕ} → RelAt form H T k w z n g s y m → RelAt form H T k w z (suc n) g s y m
rel_tick r = rel_steps (omega arith) (omega (arith, r.all.steps)) r
