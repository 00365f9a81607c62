-- When two pages, each with its document, agree on a group of modules: they do the same with it. All else may differ.
use Rattle.std.specs.Prelude.{◌≡◌, ◌⊎◌, ℕ, List, [], ◌∷◌, map, slice_get, Some, Contains}
use Rattle.html_grammar.specs.Trees.{many, Tree}
use Rattle.doc_nodes.specs.Rows.{Doc}
use Rattle.doc_views.specs.Seen.{nodes_seen}
use Rattle.rows.specs.Document.{Node}
use Rattle.page_manifest.specs.Page.{Granted, the_cell, the_root, Grants, Module, Page}
use Rattle.page_roots.specs.Roots.{roots_of, number_in}
use Rattle.page_documents.specs.Documents.{page_doc}
use Rattle.reach_report.specs.Pages.{page_groups}
use Rattle.cell_numbers.specs.Names.{SameNumber}

-- the module of this number
abbrev pub IsAt : Page → ℕ → Module → Type 0
IsAt p i m = slice_get p.modules i ≡ Some m

-- the names of its modules, in the order in which they are loaded
abbrev pub module_names : Page → List (List ℕ)
module_names p = map (λ (m : Module). m.name) p.modules

-- the same is granted: a cell by its name, a root by its id, the result of a module by that module's number, and a plain value by itself
abbrev pub SameGranted : Page → Page → Granted → Granted → Type 0
SameGranted p q (the_cell c) (the_cell e) = SameNumber p.cells q.cells c e
SameGranted p q t u = t ≡ u

-- under the same names in the same order
abbrev pub AllSameGranted : Page → Page → Grants → Grants → Type 0
AllSameGranted p q [] [] = Unit {0}
AllSameGranted p q ((x, t) ∷ gs) ((y, u) ∷ hs) = (x ≡ y) × SameGranted p q t u × AllSameGranted p q gs hs
AllSameGranted p q gs hs = ⊥

-- two modules have the same language and the same source, and are granted the same
pub record ModulesAgree (p q : Page) (m n : Module) : Type 0 where
  pub language : m.language ≡ n.language
  pub source : m.source ≡ n.source
  pub grants : AllSameGranted p q m.grants n.grants

-- what is granted, under some name
abbrev pub IsGrantedIn : {T : Type 0} → T → List (List ℕ × T) → Type 0
IsGrantedIn t [] = ⊥
IsGrantedIn t ((x, h) ∷ gs) = (h ≡ t) ⊎ IsGrantedIn t gs

-- the element with this id is a root of the group: one of its modules is granted it
pub record IsRootOf (p : Page) (g : List ℕ) (id : List ℕ) : Type 0 where
  pub by : ℕ
  pub member : Contains g by
  pub its_module : Module
  pub at : IsAt p by its_module
  pub granted : IsGrantedIn (the_root id) its_module.grants

-- the nodes of the root with an id, in a document of the page
abbrev pub root_nodes : Page → Doc → List ℕ → List Node
root_nodes p d id = nodes_seen d (number_in (roots_of p) id)

-- two pages agree on a group: their embedders' rules have the same table, and URLs are joined to the same base; the events are the same, and so are the names of the modules; it is a group of the one page and of the other; each of its modules agrees with itself in the other page;
-- and each of its roots has the same nodes at the beginning, whatever number it has, and whatever else stands in the document
pub record AgreeOn (p : Page) (ts : Tree many) (q : Page) (us : Tree many) (g : List ℕ) : Type 0 where
  pub rule : p.rule ≡ q.rule
  pub base : p.base ≡ q.base
  pub events : p.events ≡ q.events
  pub names : module_names p ≡ module_names q
  pub here : Contains (page_groups p) g
  pub there : Contains (page_groups q) g
  pub modules : (i : ℕ) (m n : Module) → Contains g i → IsAt p i m → IsAt q i n → ModulesAgree p q m n
  pub nodes : (id : List ℕ) → IsRootOf p g id → root_nodes p (page_doc p ts) id ≡ root_nodes q (page_doc q us) id
