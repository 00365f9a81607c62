-- When the world of the direct meaning and the store of the interpreter are related, with the steps that both took.
use Rattle.std.specs.Prelude.{◌≡◌, ◌⊎◌, ℕ, ◌+◌, ◌*◌, ◌≤◌, ◌<◌, Bool, true, false, List, [], ◌∷◌, length, Some, slice_get, is_some}
use Rattle.caja_units.specs.Units.{is_hidden}
use Rattle.es3_objects.specs.declared.value.FuncKind.TheVariants as kind
use Rattle.es3_heap.specs.Objects as heap
use Rattle.es3_heap.specs.Objects.{Objects}
use Rattle.es3_heap.specs.Properties.{own}
use Rattle.es3_language.specs.Store.{Store, name_value}
use Rattle.es3_language.specs.Hoisting.{code_of}
use Rattle.es3_language.specs.Arguments.{is_fixed}
use Rattle.es3_language.specs.References.{slot, resolve}
use Rattle.es3_language.specs.Meaning as Target
use Rattle.cajita_tree.specs.Tree as c
use Rattle.rows.specs.Nodes.{Rules}
use Rattle.cajita_rewrite.specs.Rewrite.{rewritten, runtime_name}
use Rattle.cajita_meaning.specs.World.{made_name, Value, object, Object, a_closure, World}
use Rattle.cajita_meaning.specs.Direct.{Item, Around}
use Rattle.heap_rows.specs.Marks.{simple_mark}
use Rattle.heap_rows.specs.Opening.{first, place_of, globals_id, runtime_id}
use Rattle.page_natives.specs.Natives.{Kept, page_of}
use Rattle.doc_nodes.specs.Rows.{Doc}
use Rattle.doc_views.specs.Seen.{nodes_seen}
use Rattle.doc_views.specs.Came.{IsRuled}
use Rattle.node_rows.specs.Whole.{IsWhole}
use Rattle.row_simulation.specs.Correspond.{Named, ObjectsAre}
use Rattle.row_simulation.specs.RowLaw.{PagesAre}
use Rattle.cajita_simulation.specs.Guest.{Names, Guest}
use Rattle.cajita_simulation.specs.Alike.{heard_by}
use Rattle.cajita_simulation.specs.Scopes.{Tags, Chained, Temps, no_temps, names_at, ScopesAre}

-- a turn: whether it is the load of a module, and so a program in the interpreter, or a call; and the objects in the interpreter when it began
pub record Turn : Type 0 where
  pub load : Bool
  pub began : Objects

-- where a form stands: what is the same for its page, and for its turn; its surroundings and its module; the scopes around it in the interpreter; the names that it may
-- read and those that it may write; the scope of the activation, which has the temporaries; the object that is `this` in the interpreter
pub record Here : Type 0 where
  pub rules : Rules
  pub turn : Turn
  pub around : Around
  pub by : ℕ
  pub chain : List ℕ
  pub vars : Names
  pub free : Names
  pub act : ℕ
  pub this : ℕ

abbrev pub env_of : Here → Target.Env
env_of H = record { chain = H.chain; calls = H.around.calls; by = H.by; this = H.this }

-- where names are found: facts that no change takes away

abbrev pub Within : List ℕ → ℕ → Type 0
Within [] n = Unit {0}
Within (c ∷ cs) n = (c < n) × Within cs n

-- a name is found in a scope, in which it may be written where it is one that may be
pub record Place (free : Names) (chain : List ℕ) (s : Store) (x : List ℕ) : Type 0 where
  pub scope : ℕ
  pub below : scope < length s.scopes
  pub at : resolve chain s x ≡ slot scope x
  pub written : free x ≡ true → is_fixed (slice_get s.scopes scope) ≡ false

-- along a chain the names are found, and the runtime's object; it is the module's chain on the other side
pub record Captured (vars free : Names) (by : ℕ) (g : Tags) (direct chain : List ℕ) (s : Store) : Type 0 where
  pub chained : Chained g by direct chain
  pub within : Within chain (length s.scopes)
  pub names : (x : List ℕ) → vars x ≡ true → Place free chain s x
  pub runtime : ℕ
  pub runtime_below : runtime < length s.scopes
  pub runtime_at : resolve chain s runtime_name ≡ slot runtime runtime_name
  pub runtime_bound : is_some (name_value runtime_name (names_at s runtime)) ≡ true

-- and an activation whose hidden names are found in it
pub record In (H : Here) (g : Tags) (s : Store) : Type 0 where
  pub captured : Captured H.vars H.free H.by g H.around.chain H.chain s
  pub act : H.act < length s.scopes
  pub written : is_fixed (slice_get s.scopes H.act) ≡ false
  pub temps : (x : List ℕ) → is_hidden x ≡ true → is_some (name_value x (names_at s H.act)) ≡ true → resolve H.chain s x ≡ slot H.act x

-- a closure's code is the rewriting of its function, in the scopes that are those around the closure, along which its free names are found; and it has the mark
-- of a function that may be called by itself
pub record CodeIs (by : ℕ) (g : Tags) (s : Store) (f : c.Tree c.func) (direct : List ℕ) (i : ℕ) : Type 0 where
  pub number : ℕ
  pub callable : heap.callable_of (heap.object_at s.heap i) ≡ Some (record { kind = kind.Code number; maker = by })
  pub chain : List ℕ
  pub code : slice_get s.codes number ≡ Some (code_of (rewritten false c.func 0 f) chain)
  pub simple : is_some (own s.heap i simple_mark) ≡ true
  pub vars : Names
  pub free : Names
  pub captured : Captured vars free by g direct chain s
  pub guest : Guest vars free c.func f

-- a closure is of a module that the counts of names know, and where its name is an object's, so is its code
abbrev pub ClosuresAre : (ℕ → List Object) → Tags → Store → Type 0
ClosuresAre objects g s = (m n : ℕ) (f : c.Tree c.func) (chain : List ℕ) → slice_get (objects m) n ≡ Some (a_closure f chain) → (m < 64) × ((i : ℕ) → Named s.heap (made_name m n) i → CodeIs m g s f chain i)

-- no root of a document has a node
abbrev pub IsBare : Doc → Type 0
IsBare d = (root : ℕ) → nodes_seen d root ≡ []

-- the natives of a page know where its runtime is, and have a place for what each module may import; what is lent of its document is whole, and where a root has nodes, they change
-- by the rules of the rows
pub record KnowsPage (rules : Rules) (y : Kept) : Type 0 where
  pub runtime : y.runtime ≡ runtime_id
  pub imports : length y.imports ≡ 64
  pub whole : IsWhole y.dom
  pub ruled : IsBare y.dom.doc ⊎ IsRuled y.answers rules

-- a closure of a module; each that waits is one
abbrev pub IsClosure : (ℕ → List Object) → Value → Type 0
IsClosure objects (object (made_name m n)) = (f : c.Tree c.func) × (chain : List ℕ) × (slice_get (objects m) n ≡ Some (a_closure f chain))
IsClosure objects v = ⊥

abbrev pub AreClosures : (ℕ → List Object) → List Value → Type 0
AreClosures objects [] = Unit {0}
AreClosures objects (v ∷ vs) = IsClosure objects v × AreClosures objects vs

abbrev pub WaitersAre : World → Type 0
WaitersAre w = (m : ℕ) → AreClosures w.objects (w.queues m)

-- all of both sides but the place where a form stands, under the rules of a page: what is told is the same, objects, closures, scopes and what a page keeps beside them correspond; and
-- of 64 steps of the interpreter for each of the direct meaning, k are in hand
pub record Related (rules : Rules) (T : Temps) (k : ℕ) (w : World) (z : List Item) (n : ℕ) (g : Tags) (s : Store) (y : Kept) (m : ℕ) : Type 0 where
  pub steps : m + k ≤ 64 * n
  pub items : heard_by y z ≡ y.told
  pub objects : ObjectsAre first place_of w.objects s.heap m
  pub pages : PagesAre s.heap w (page_of y)
  pub closures : ClosuresAre w.objects g s
  pub waiters : WaitersAre w
  pub scopes : ScopesAre T g w.scopes s
  pub globals : s.globals ≡ globals_id
  pub kept : KnowsPage rules y

-- between two turns nothing is known of temporaries, and no step is in hand
abbrev pub Between : Rules → World → List Item → ℕ → Tags → Store → Kept → ℕ → Type 0
Between rules w z n g s y m = Related rules no_temps 0 w z n g s y m

-- between two turns of a page, after d deeds, which took no steps of their own: each has room for names as a step of the direct meaning and 64 of the interpreter have
abbrev pub BetweenTurns : Rules → ℕ → World → List Item → ℕ → Tags → Store → Kept → ℕ → Type 0
BetweenTurns rules d w z n g s y m = Between rules w z (n + d) g s y (m + 64 * d)

-- a form stands in its scopes; what the page itself calls stands in none
abbrev pub StandsIn : Bool → Here → Tags → Store → Type 0
StandsIn true H g s = In H g s
StandsIn false H g s = Unit {0}

-- at the place of a call, which a form makes or the page
pub record RelAt (form : Bool) (H : Here) (T : Temps) (k : ℕ) (w : World) (z : List Item) (n : ℕ) (g : Tags) (s : Store) (y : Kept) (m : ℕ) : Type 0 where
  pub all : Related H.rules T k w z n g s y m
  pub here : StandsIn form H g s

-- at the place where a form stands
abbrev pub Rel : Here → Temps → ℕ → World → List Item → ℕ → Tags → Store → Kept → ℕ → Type 0
Rel H T k w z n g s y m = RelAt true H T k w z n g s y m
