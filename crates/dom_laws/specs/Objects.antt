-- The objects that stand for nodes are those that the rows of a page speak of: made as these make them, in the same order.
use Rattle.std.specs.Prelude.{◌≡◌, ℕ, zero, suc, ◌+◌, List, Option, Some, length, map}
use Rattle.es3_heap.specs.Objects.{Objects, with_object}
use Rattle.rows.specs.Document.{Node}
use Rattle.heap_rows.specs.Doing.{facet_object}
use Rattle.heap_rows.specs.Opening.{with_roots}
use Rattle.doc_nodes.specs.Rows.{Doc, owner_of, nodes_of}
use Rattle.doc_laws.specs.Owned.{Owned}
use Rattle.doc_laws.specs.Reached.{Reached}
use Rattle.dom_facets.specs.Facets.{facet_at, new_facet}
use Rattle.tamed_dom.specs.Lent.{begun}
use Rattle.dom_laws.specs.Fits.{HasNoNodes}

-- a new object for a node of a root
abbrev pub NewObject : Type 0
NewObject = (n root k : ℕ) (d : Doc) (h : Objects) (fs : List (Option ℕ)) → owner_of d n ≡ Some (root, k) → (new_facet n d h fs).heap ≡ with_object h (facet_object root k)

-- where a page begins, whatever its nodes are in the rows' words
abbrev pub BeginsAsRows : Type 0
BeginsAsRows = (d : Doc) (h : Objects) (nss : List (List Node)) → Owned d → map length nss ≡ map length d.roots → (begun (length d.roots) d h).heap ≡ with_roots 0 nss h

-- how many nodes the roots before one have
abbrev pub nodes_before : ℕ → Doc → ℕ
nodes_before zero d = 0
nodes_before (suc r) d = nodes_before r d + length (nodes_of d.roots r)

-- each object is kept for its node
abbrev pub BeginsInOrder : Type 0
BeginsInOrder = (d : Doc) (h : Objects) (n r k : ℕ) → Reached d → HasNoNodes h → owner_of d n ≡ Some (r, k) → facet_at (begun (length d.roots) d h).lent.facets n ≡ Some (length h.list + nodes_before r d + k)
