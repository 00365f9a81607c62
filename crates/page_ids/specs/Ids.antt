-- The nodes that the ids of a page name: each is the one node of the granted roots that has the id.
use Rattle.std.specs.Prelude.{◌≡◌, ℕ, ◌<◌, true, List, length, All, Ok, codes}
use Rattle.html_grammar.specs.Trees.{many, Tree}
use Rattle.es3_tokens.specs.Tokens.{is_one_of}
use Rattle.doc_nodes.specs.Rows.{Doc}
use Rattle.doc_tree.specs.Cleaned.{from_clean}
use Rattle.doc_views.specs.Seen.{nodes_seen}
use Rattle.rows.specs.Document.{node_at, attribute}
use Rattle.rows.specs.Nodes.{has_id}
use Rattle.event_script.specs.Events.{Asked, a_call, a_click, an_input, a_tick}
use Rattle.page_manifest.specs.Page.{Page}
use Rattle.page_roots.specs.Roots.{roots_of, granted_roots, number_in}
use Rattle.page_binding.specs.Bound.{bind}
use Rattle.page_binding.specs.Nodes.{node_of}

-- the node k of a root has this id
abbrev pub HasId : Doc → List ℕ → ℕ → ℕ → Type 0
HasId d id root k = (k < length (nodes_seen d root)) × (has_id id (attribute (codes "id") (node_at (nodes_seen d root) k).attributes) ≡ true)

-- this root is granted, its node k has this id, and no other node of a root has it
pub record IsTheNode (p : Page) (d : Doc) (id : List ℕ) (root k : ℕ) : Type 0 where
  pub granted : root < length (granted_roots p)
  pub has : HasId d id root k
  pub only : (r j : ℕ) → HasId d id r j → (r ≡ root) × (j ≡ k)

-- an event on a node is done on the one node that has its id, in the root of which it is told; and a text is put into an `input`
abbrev pub IsAtNode : Page → Doc → Asked → Type 0
IsAtNode p d (a_call m key args) = Unit {0}
IsAtNode p d (a_click id) = IsTheNode p d id (node_of d id).0 (node_of d id).1
IsAtNode p d (an_input id us) = IsTheNode p d id (node_of d id).0 (node_of d id).1 × ((node_at (nodes_seen d (node_of d id).0) (node_of d id).1).tag ≡ codes "input")
IsAtNode p d (a_tick m) = Unit {0}

-- an id that is granted is that of the first node of its root
pub record IdsAreNodes (p : Page) (d : Doc) : Type 0 where
  pub roots : (id : List ℕ) → is_one_of id (granted_roots p) ≡ true → IsTheNode p d id (number_in (roots_of p) id) 0
  pub events : All (IsAtNode p d) p.events

-- so it is in the document of each page whose ids are found
abbrev pub BoundIdsAreNodes : Type 0
BoundIdsAreNodes = (p : Page) (ts : Tree many) (ids : List (List ℕ)) → bind p ts ≡ Ok ids → IdsAreNodes p (from_clean (granted_roots p) ts)
