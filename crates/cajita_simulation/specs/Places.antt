-- Where the objects stand that a page begins with, and where the load of a module begins.
use Rattle.std.specs.Prelude.{◌≡◌, ℕ, ◌+◌, ◌<◌, false, List, [], ◌∷◌, ◌++◌, length, map}
use Rattle.caja_units.specs.Units.{is_hidden}
use Rattle.es3_heap.specs.Objects.{Objects}
use Rattle.es3_heap.specs.Properties.{own, value_of}
use Rattle.es3_language.specs.Store.{Store, with_heap}
use Rattle.doc_nodes.specs.Rows.{Doc, nodes_of}
use Rattle.rows.specs.Document.{Node}
use Rattle.rows.specs.Names.{Tools}
use Rattle.rows.specs.Nodes.{Rules}
use Rattle.cajita_meaning.specs.World.{tools_name, own_name, cell_name, facet_name, Value, undefined, Pairs, World}
use Rattle.cajita_meaning.specs.Imports.{fixed_imports, imports_among}
use Rattle.cajita_meaning.specs.Direct.{Item}
use Rattle.heap_rows.specs.Opening.{place_of_tools}
use Rattle.page_natives.specs.Natives.{Kept, imports_of, importing}
use Rattle.module_loader.specs.Turns.{say_place, cell_place, with_imports_of}
use Rattle.row_simulation.specs.Correspond.{EsValue, Named, Val, Vals}
use Rattle.cajita_simulation.specs.Scopes.{Tags}
use Rattle.cajita_simulation.specs.Related.{BetweenTurns}
use Rattle.cajita_simulation.specs.Sides.{Lasts}

-- a root of a document has its first node
abbrev pub HasRoot : Doc → ℕ → Type 0
HasRoot d root = 0 < length (nodes_of d.roots root)

-- nothing was done, and each root has these nodes
abbrev pub world_of : (ℕ → List Node) → World
world_of nodes = record { objects = λ m. []; scopes = λ m. []; cells = λ c. undefined; queues = λ m. []; revoked = λ m. []; nodes = nodes; handlers = λ root. [] }

-- with so many modules, so many cells and a document: the records `cajita` and `Math`, each module's own `say` and `later`, each cell's record, and the object of each root
pub record PagePlaces (modules cells : ℕ) (d : Doc) (h : Objects) : Type 0 where
  pub tools : (t : Tools) → Named h (tools_name t) (place_of_tools t)
  pub says : (m : ℕ) → m < modules → Named h (own_name m 0) (say_place m)
  pub delays : (m : ℕ) → m < modules → Named h (own_name m 1) (say_place m + 1)
  pub records : (c : ℕ) → c < cells → Named h (cell_name c 0) (cell_place modules c)
  pub roots : (root : ℕ) → HasRoot d root → (i : ℕ) × Named h (facet_name root 0) i

-- what the module `by` may import stands where the natives of a page have it, with values that correspond
pub record ImportsAre (h : Objects) (y : Kept) (by : ℕ) (names : List (List ℕ)) (vs : List Value) : Type 0 where
  pub there : imports_of by y < length h.list
  pub values : Vals h vs (map (λ k. value_of (own h (imports_of by y) k)) names)

-- what a module is granted corresponds, name by name, and no name is one that the rewriting or the interpreter uses itself
abbrev pub GrantsAre : Objects → Pairs → List (List ℕ × EsValue) → Type 0
GrantsAre h [] [] = Unit {0}
GrantsAre h ((x, v) ∷ ps) ((k, e) ∷ qs) = (x ≡ k) × (is_hidden x ≡ false) × Val h v e × GrantsAre h ps qs
GrantsAre h _ _ = ⊥

-- the store with what a module may import, and the natives with its place
abbrev pub load_store : ℕ → List (List ℕ × EsValue) → Store → Store
load_store m qs s = with_heap s (with_imports_of m qs s.heap)

abbrev pub load_kept : ℕ → Store → Kept → Kept
load_kept m s y = importing m (length s.heap.list) y

-- there both sides are related still, what has a name keeps it, and what the module m imports corresponds: of these names the fixed ones and those that it is granted
pub record LoadBegins (rules : Rules) (m : ℕ) (names : List (List ℕ)) (ps : Pairs) (qs : List (List ℕ × EsValue)) (d : ℕ) (w : World) (z : List Item) (n : ℕ) (g : Tags) (s : Store) (y : Kept) (i : ℕ) : Type 0 where
  pub between : BetweenTurns rules d w z n g (load_store m qs s) (load_kept m s y) i
  pub lasts : Lasts s.heap (load_store m qs s).heap
  pub imports : ImportsAre (load_store m qs s).heap (load_kept m s y) m names (imports_among (fixed_imports m ++ ps) names)
