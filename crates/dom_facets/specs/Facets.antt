-- The objects that stand for the nodes of a document: one for a node, made with the page or with the node.
use Rattle.std.specs.Prelude.{ℕ, zero, suc, List, [], ◌∷◌, Option, Some, None, length, slice_index_or}
use Rattle.es3_objects.specs.declared.value.Value.{Value}
use Rattle.es3_objects.specs.declared.value.Value.TheVariants as v
use Rattle.es3_objects.specs.declared.value.Class.TheVariants as class
use Rattle.es3_objects.specs.declared.value.Tag.{Tag}
use Rattle.es3_objects.specs.declared.value.Tag.TheVariants as tag
use Rattle.es3_objects.specs.declared.value.Proto.TheVariants as proto
use Rattle.es3_heap.specs.Objects.{Objects, object_at, tag_of}
use Rattle.es3_heap.specs.Making.{proto_id, made, tagged}
use Rattle.doc_nodes.specs.Rows.{Doc, owner_of, nodes_of, node_with}
use Rattle.dom_facets.specs.Places.{put_at}

-- the object of a node, by the node's number
abbrev pub facet_at : List (Option ℕ) → ℕ → Option ℕ
facet_at fs n = slice_index_or fs n None

abbrev pub with_facet : ℕ → ℕ → List (Option ℕ) → List (Option ℕ)
with_facet n o fs = put_at None n (Some o) fs

-- its name: the root of the node, and the node's number there
abbrev pub facet_tag : Option (ℕ × ℕ) → Tag
facet_tag None = tag.None
facet_tag (Some o) = tag.Facet o.0 o.1

-- an object, with the store and the objects of nodes that there are then
pub record Facet : Type 0 where
  pub object : ℕ
  pub heap : Objects
  pub facets : List (Option ℕ)

-- a new one: it is of class Node, and has the prototype of nodes
abbrev pub new_facet : ℕ → Doc → Objects → List (Option ℕ) → Facet
new_facet n d h fs = record {
  object = length h.list;
  heap = tagged (made class.Node (Some (proto_id proto.Node)) h) (length h.list) (facet_tag (owner_of d n));
  facets = with_facet n (length h.list) fs;
}

abbrev pub facet_or_new : Option ℕ → ℕ → Doc → Objects → List (Option ℕ) → Facet
facet_or_new None n d h fs = new_facet n d h fs
facet_or_new (Some o) n d h fs = record { object = o; heap = h; facets = fs }

-- the object of a node, made where there is none
abbrev pub facet : ℕ → Doc → Objects → List (Option ℕ) → Facet
facet n d h fs = facet_or_new (facet_at fs n) n d h fs

-- values of nodes in their order, with the store and the objects of nodes that there are then
pub record Facets : Type 0 where
  pub values : List Value
  pub heap : Objects
  pub facets : List (Option ℕ)

unfoldable pub facets : List ℕ → Doc → Objects → List (Option ℕ) → Facets
facets [] d h fs = record { values = []; heap = h; facets = fs }
facets (n ∷ ns) d h fs =
    let f = facet n d h fs in
    let rest = facets ns d f.heap f.facets in
    record { values = v.Obj f.object ∷ rest.values; heap = rest.heap; facets = rest.facets }

-- the store with the objects of nodes that there are then
pub record Made : Type 0 where
  pub heap : Objects
  pub facets : List (Option ℕ)

abbrev pub made_with : Objects → List (Option ℕ) → Made
made_with h fs = record { heap = h; facets = fs }

abbrev pub with_new : Option ℕ → Doc → Made → Made
with_new None d m = m
with_new (Some n) d m = let f = new_facet n d m.heap m.facets in record { heap = f.heap; facets = f.facets }

-- new objects for so many first nodes of a root, in the order of their numbers
unfoldable pub node_facets : ℕ → ℕ → Doc → Made → Made
node_facets root zero d m = m
node_facets root (suc k) d m = with_new (node_with d root k) d (node_facets root k d m)

-- for the nodes of so many first roots, one root after another
unfoldable pub root_facets : ℕ → Doc → Made → Made
root_facets zero d m = m
root_facets (suc r) d m = node_facets r (length (nodes_of d.roots r)) d (root_facets r d m)

-- the node that a name stands for, and that a value does
abbrev pub node_in_tag : Doc → Tag → Option ℕ
node_in_tag d (tag.Facet root number) = node_with d root number
node_in_tag d t = None

abbrev pub node_of : Objects → Doc → Value → Option ℕ
node_of h d (v.Obj o) = node_in_tag d (tag_of (object_at h o))
node_of h d x = None
