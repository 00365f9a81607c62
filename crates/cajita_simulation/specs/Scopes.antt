-- The scopes of several modules, which the interpreter has in one list and the direct meaning in a list for each module: each scope of the interpreter has a
-- tag, and what is known of a scope is known by its number in the interpreter's list.
use Rattle.std.specs.Prelude.{◌≡◌, ℕ, ◌<◌, true, false, List, [], ◌∷◌, length, Option, Some, None, slice_get, if◌then◌else◌}
use Rattle.caja_units.specs.Units.{is_hidden}
use Rattle.es3_objects.specs.declared.value.Value.TheVariants as es
use Rattle.es3_heap.specs.Objects.{Objects}
use Rattle.es3_language.specs.Store as store
use Rattle.es3_language.specs.Store.{Store, name_value}
use Rattle.es3_language.specs.Arguments.{is_arguments}
use Rattle.cajita_rewrite.specs.Rewrite.{runtime_name, arguments_copy}
use Rattle.cajita_meaning.specs.World.{Value, Pairs, value_at, scope_at}
use Rattle.heap_rows.specs.Opening.{first, runtime_id}
use Rattle.row_simulation.specs.Correspond.{EsValue, Val, IsPlain}
use Rattle.row_simulation.specs.RowLaw.{IsList}

-- the module that a scope belongs to, and its number among those of that module
pub record ScopeTag : Type 0 where
  pub by : ℕ
  pub number : ℕ

abbrev pub tag_of_scope : ℕ → ℕ → ScopeTag
tag_of_scope m n = record { by = m; number = n }

-- of each scope of the interpreter, in order
abbrev pub Tags : Type 0
Tags = List ScopeTag

-- the same scopes around a form of the module m, on both sides
abbrev pub Chained : Tags → ℕ → List ℕ → List ℕ → Type 0
Chained tags m [] [] = Unit {0}
Chained tags m (n ∷ ns) (c ∷ cs) = (slice_get tags c ≡ Some (tag_of_scope m n)) × Chained tags m ns cs
Chained tags m _ _ = ⊥

-- values that may be absent
abbrev pub OptVal : Objects → Option Value → Option EsValue → Type 0
OptVal h None None = Unit {0}
OptVal h (Some v) (Some e) = Val h v e
OptVal h _ _ = ⊥

abbrev pub names_at : Store → ℕ → store.Names
names_at s c = store.scope_at (slice_get s.scopes c)

-- the name of a variable in the interpreter: `arguments` stands there under a name of the rewriting's own
abbrev pub stored_name : List ℕ → List ℕ
stored_name x = if is_arguments x then arguments_copy else x

-- a variable has the same value on both sides
abbrev pub ScopeIs : Objects → Pairs → store.Names → Type 0
ScopeIs h names names' = (x : List ℕ) → is_hidden x ≡ false → OptVal h (value_at x names) (name_value (stored_name x) names')

-- 12.10: a scope that has names of its own, and not those of an object
abbrev pub OwnNames : store.Owner → Type 0
OwnNames (store.with_object_of o) = ⊥
OwnNames _ = Unit {0}

abbrev pub IsScope : Option store.Scope → Type 0
IsScope None = Unit {0}
IsScope (Some scope) = OwnNames scope.owner

-- no scope is that of a `with`
abbrev pub AreScopes : Store → Type 0
AreScopes s = (c : ℕ) → IsScope (slice_get s.scopes c)

-- what is known of a hidden name of the rewriting in a scope: nothing; that it is declared; that it holds what corresponds to a value; that it holds a new array of
-- these texts, which has no name
pub data Slot : Type 0 where
  unknown : Slot
  declared : Slot
  holds : Value → Slot
  keys : List (List ℕ) → Slot

-- by the number of a scope and the name
abbrev pub Temps : Type 0
Temps = ℕ → List ℕ → Slot

-- nothing is known of any
abbrev pub no_temps : Temps
no_temps c x = unknown

abbrev pub SlotIs : Store → ℕ → List ℕ → Slot → Type 0
SlotIs s c x unknown = Unit {0}
SlotIs s c x declared = (e : EsValue) × (name_value x (names_at s c) ≡ Some e)
SlotIs s c x (holds v) = (e : EsValue) × (name_value x (names_at s c) ≡ Some e) × Val s.heap v e
SlotIs s c x (keys ks) = (e : EsValue) × (name_value x (names_at s c) ≡ Some e) × IsList s.heap ks e

-- 10.1.8: the arguments objects whose items have the values of parameters: none has a name, and each belongs to a scope that is there
abbrev pub SharedAre : Objects → ℕ → List store.Shared → Type 0
SharedAre h n [] = Unit {0}
SharedAre h n (a ∷ rest) = IsPlain first h a.object × (a.scope < n) × SharedAre h n rest

-- each scope is the world's scope of its tag, and no other has that tag; what is known of hidden names is so; and nothing but the runtime's object is called so
pub record ScopesAre (T : Temps) (g : Tags) (scopes : ℕ → List Pairs) (s : Store) : Type 0 where
  pub same : (c m n : ℕ) → slice_get g c ≡ Some (tag_of_scope m n) → ScopeIs s.heap (scope_at (slice_get (scopes m) n)) (names_at s c)
  pub once : (c d : ℕ) (t : ScopeTag) → slice_get g c ≡ Some t → slice_get g d ≡ Some t → c ≡ d
  pub known : (c m n : ℕ) → slice_get g c ≡ Some (tag_of_scope m n) → n < length (scopes m)
  pub count : length g ≡ length s.scopes
  pub temps : (c : ℕ) (x : List ℕ) → is_hidden x ≡ true → SlotIs s c x (T c x)
  pub runtime : (c : ℕ) (e : EsValue) → name_value runtime_name (names_at s c) ≡ Some e → e ≡ es.Obj runtime_id
  pub are : AreScopes s
  pub shared : SharedAre s.heap (length s.scopes) s.shared
