-- What the rows of a page see of what is lent of its document.
use Rattle.std.specs.Prelude.{◌≡◌, ℕ, ◌&&◌, List, [], ◌∷◌, ◌++◌, Option, Some, None, map, nat_eq, codes, if◌then◌else◌}
use Rattle.caja_units.specs.Units.{same_units}
use Rattle.es3_objects.specs.declared.value.Value.{Value}
use Rattle.doc_nodes.specs.Rows.{Doc, owner_of, nodes_of}
use Rattle.doc_views.specs.Seen.{nodes_seen}
use Rattle.dom_facets.specs.Facets.{facet_at}
use Rattle.dom_handlers.specs.declared.kinds.EventKind.{EventKind}
use Rattle.dom_handlers.specs.declared.kinds.EventKind.TheVariants.{Click, Input}
use Rattle.dom_handlers.specs.declared.kinds.Handler.{Handler as Kept}
use Rattle.heap_rows.specs.Doing.{Handler, Page}
use Rattle.tamed_dom.specs.Lent.{Lent}

-- the place of an object; 0 where there is none
abbrev pub place_or : Option ℕ → ℕ
place_or None = 0
place_or (Some o) = o

abbrev pub facet_seen : List (Option ℕ) → ℕ → ℕ
facet_seen fs n = place_or (facet_at fs n)

-- the objects of a root's nodes, in the order of their numbers
abbrev pub facets_seen : Doc → List (Option ℕ) → ℕ → List ℕ
facets_seen d fs r = map (facet_seen fs) (nodes_of d.roots r)

-- what happens, by its name
abbrev pub kind_name : EventKind → List ℕ
kind_name Click = codes "click"
kind_name Input = codes "input"

-- a handler of a root's node, by the node's number there
abbrev pub seen_at : ℕ → Option (ℕ × ℕ) → Kept → List Handler
seen_at r None x = []
seen_at r (Some o) x = if nat_eq o.0 r then record { on = o.1; what = kind_name x.kind; does = x.function } ∷ [] else []

abbrev pub handlers_seen : Doc → List Kept → ℕ → List Handler
handlers_seen d [] r = []
handlers_seen d (x ∷ hs) r = seen_at r (owner_of d x.node) x ++ handlers_seen d hs r

-- the whole page: its cells and queues are none of the document
abbrev pub page_seen : (ℕ → Value) → (ℕ → List Value) → Lent → Page
page_seen cells queues z = record { cells = cells; queues = queues; nodes = nodes_seen z.doc; facets = facets_seen z.doc z.facets; handlers = handlers_seen z.doc z.handlers }

-- two pages keep the same
pub record AreSame (g h : Page) : Type 0 where
  pub cells : (c : ℕ) → g.cells c ≡ h.cells c
  pub queues : (m : ℕ) → g.queues m ≡ h.queues m
  pub nodes : (root : ℕ) → g.nodes root ≡ h.nodes root
  pub facets : (root : ℕ) → g.facets root ≡ h.facets root
  pub handlers : (root : ℕ) → g.handlers root ≡ h.handlers root

-- what is called when this happens to a node, in the order in which it was registered
abbrev pub listeners : ℕ → List ℕ → List Handler → List Value
listeners n what [] = []
listeners n what (h ∷ hs) = if nat_eq h.on n && same_units h.what what then h.does ∷ listeners n what hs else listeners n what hs
