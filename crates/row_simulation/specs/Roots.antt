-- What it is that nodes come to a page with their objects.
use Rattle.std.specs.Prelude.{◌≡◌, ℕ, suc, ◌≤◌, List, [], ◌∷◌, length}
use Rattle.es3_heap.specs.Objects.{Objects}
use Rattle.rows.specs.Rows.{Native}
use Rattle.rows.specs.Document.{Node}
use Rattle.cajita_meaning.specs.World.{World, with_nodes}
use Rattle.heap_rows.specs.Doing.{Page, Kept}
use Rattle.heap_rows.specs.Opening.{with_roots}
use Rattle.heap_rows.specs.Roots.{page_with_roots}
use Rattle.row_simulation.specs.Correspond.{ObjectsAre, Keeps}
use Rattle.row_simulation.specs.RowLaw.{AreWithin, PagesAre}

-- objects and what the page keeps correspond, where they have changed and all persists
pub record KeptIs (first : Objects) (places : Native → ℕ) (m : ℕ) (h : Objects) (w : World) (k : Kept) : Type 0 where
  pub objects : ObjectsAre first places w.objects k.heap m
  pub keeps : Keeps h k.heap
  pub pages : PagesAre k.heap w k.page

-- in a world: the nodes of each root, from a root on
abbrev pub world_with_roots : ℕ → List (List Node) → World → World
world_with_roots root [] w = w
world_with_roots root (ns ∷ rest) w = world_with_roots (suc root) rest (with_nodes root ns w)

-- the parents and the children of each root's nodes are among them
abbrev pub AreRoots : List (List Node) → Type 0
AreRoots [] = Unit {0}
AreRoots (ns ∷ rest) = AreWithin (length ns) ns × AreRoots rest

-- the roots from this one on get their nodes, where they had none
abbrev pub RootsLaw : Objects → (Native → ℕ) → Type 0
RootsLaw first places =
    (root : ℕ) (roots : List (List Node)) (w : World) (h : Objects) (g : Page) (m : ℕ) → AreRoots roots → ObjectsAre first places w.objects h m → PagesAre h w g → ((r : ℕ) → root ≤ r → g.nodes r ≡ [])
    → KeptIs first places m h (world_with_roots root roots w) (record { heap = with_roots root roots h; page = page_with_roots root (length h.list) roots g })
