-- What is kept of a page's document for its modules.
use Rattle.std.specs.Prelude.{ℕ, List, [], Option, Some, None, length, nat_lt, if◌then◌else◌}
use Rattle.es3_objects.specs.declared.value.Value.{Value}
use Rattle.es3_objects.specs.declared.value.Value.TheVariants as v
use Rattle.es3_heap.specs.Objects.{Objects}
use Rattle.doc_nodes.specs.Rows.{Doc, node_with}
use Rattle.node_deeds.specs.declared.told.Change.{Change}
use Rattle.node_deeds.specs.Told.{Deed}
use Rattle.dom_facets.specs.Facets as facets
use Rattle.dom_handlers.specs.declared.kinds.EventKind.{EventKind}
use Rattle.dom_handlers.specs.declared.kinds.Handler.{Handler}
use Rattle.dom_handlers.specs.Handlers.{registered}

-- the document; for each node the object that stands for it, where there is one; what is called when something happens to nodes, in the order of registration; the line of the last change, until it is taken
pub record Lent : Type 0 where
  pub doc : Doc
  pub facets : List (Option ℕ)
  pub handlers : List Handler
  pub change : Option Change

-- no node has an object or a handler
abbrev pub new_lent : Doc → Lent
new_lent d = record { doc = d; facets = []; handlers = []; change = None }

-- the line of the last change is gone
abbrev pub told : Lent → Lent
told z = record { doc = z.doc; facets = z.facets; handlers = z.handlers; change = None }

abbrev pub with_facets : List (Option ℕ) → Lent → Lent
with_facets fs z = record { doc = z.doc; facets = fs; handlers = z.handlers; change = z.change }

-- what a deed leaves
abbrev pub with_deed : Deed → Lent → Lent
with_deed e z = record { doc = e.doc; facets = z.facets; handlers = z.handlers; change = e.change }

-- a handler is registered behind all others
abbrev pub with_handler : EventKind → Value → ℕ → Lent → Lent
with_handler k f n z = record { doc = z.doc; facets = z.facets; handlers = registered n k f z.handlers; change = z.change }

-- the object of a node, made where there is none
pub record Facet : Type 0 where
  pub object : ℕ
  pub heap : Objects
  pub lent : Lent

abbrev pub facet : ℕ → Objects → Lent → Facet
facet n h z = let f = facets.facet n z.doc h z.facets in record { object = f.object; heap = f.heap; lent = with_facets f.facets z }

-- the object of a root's node, by the node's number there, where there is one
abbrev pub as_value : Option ℕ → Value
as_value None = v.Undefined
as_value (Some o) = v.Obj o

abbrev pub object_in : Option ℕ → Lent → Value
object_in None z = v.Undefined
object_in (Some n) z = as_value (facets.facet_at z.facets n)

abbrev pub object_of : ℕ → ℕ → Lent → Value
object_of root k z = object_in (node_with z.doc root k) z

-- the store, with what is lent
pub record Held : Type 0 where
  pub heap : Objects
  pub lent : Lent

-- where a page begins: each node of so many first roots has its object, those of one root behind those of the root before
abbrev pub begun : ℕ → Doc → Objects → Held
begun roots d h = let m = facets.root_facets roots d (facets.made_with h []) in record { heap = m.heap; lent = with_facets m.facets (new_lent d) }

-- a new object for a node
abbrev pub with_object_of : ℕ → Objects → Lent → Held
with_object_of n h z = let f = facets.new_facet n z.doc h z.facets in record { heap = f.heap; lent = with_facets f.facets z }

-- a node that is made has its object from its beginning: there were so many nodes, and what is done to a document makes one more at most
unfoldable pub grown : ℕ → Objects → Lent → Held
grown n h z = if nat_lt n (length z.doc.rows) then with_object_of n h z else record { heap = h; lent = z }
