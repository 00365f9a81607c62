-- The document: a list of rows, a row a node. A node is the number of its row, from 0, and no row is ever taken away.
use Rattle.std.specs.Prelude.{ℕ, zero, suc, Bool, true, false, ◌||◌, List, [], ◌∷◌, Option, Some, None, length, slice_get, nat_eq, nat_lt, codes, if◌then◌else◌, position}
use Rattle.caja_units.specs.Units.{same_units}
use Rattle.doc_nodes.specs.declared.node.Parent.{Parent}
use Rattle.doc_nodes.specs.declared.node.Parent.TheVariants.{Detached, Node}
use Rattle.doc_nodes.specs.declared.node.NewNode.{NewNode}
use Rattle.doc_nodes.specs.declared.node.NewNode.TheVariants.{Element, Text}
use Rattle.html_tree.specs.declared.Attr.{Attr}

-- a node: where it stands, what stands under it, in order, what it is, and its attributes, in order
pub record Row : Type 0 where
  pub parent : Parent
  pub children : List ℕ
  pub content : NewNode
  pub attrs : List Attr

-- all nodes; what stands under the document itself, in order; to which granted root each node belongs and with which number; and the nodes of each root by their numbers
pub record Doc : Type 0 where
  pub rows : List Row
  pub top : List ℕ
  pub owners : List (Option (ℕ × ℕ))
  pub roots : List (List ℕ)

abbrev pub row_at : Doc → ℕ → Option Row
row_at d n = slice_get d.rows n

abbrev pub has : Doc → ℕ → Bool
has d n = nat_lt n (length d.rows)

-- a part of a row, or of none
abbrev pub parent_in : Option Row → Parent
parent_in None = Detached
parent_in (Some r) = r.parent

abbrev pub children_in : Option Row → List ℕ
children_in None = []
children_in (Some r) = r.children

abbrev pub owner_in : Option (Option (ℕ × ℕ)) → Option (ℕ × ℕ)
owner_in None = None
owner_in (Some o) = o

-- the root of a node, and its number there
abbrev pub owner_of : Doc → ℕ → Option (ℕ × ℕ)
owner_of d n = owner_in (slice_get d.owners n)

abbrev pub nodes_in : Option (List ℕ) → List ℕ
nodes_in None = []
nodes_in (Some ns) = ns

-- the nodes of a root by their numbers
abbrev pub nodes_of : List (List ℕ) → ℕ → List ℕ
nodes_of roots r = nodes_in (slice_get roots r)

-- the node of a root with this number there
abbrev pub node_with : Doc → ℕ → ℕ → Option ℕ
node_with d r k = slice_get (nodes_of d.roots r) k

abbrev pub tag_in_content : NewNode → Option (List ℕ)
tag_in_content (Element tag) = Some tag
tag_in_content (Text us) = None

abbrev pub text_in_content : NewNode → Option (List ℕ)
text_in_content (Element tag) = None
text_in_content (Text us) = Some us

abbrev pub tag_in : Option Row → Option (List ℕ)
tag_in None = None
tag_in (Some r) = tag_in_content r.content

abbrev pub text_in : Option Row → Option (List ℕ)
text_in None = None
text_in (Some r) = text_in_content r.content

abbrev pub is_named : List ℕ → Attr → Bool
is_named name a = same_units a.name name

-- the value of the first attribute of a name
abbrev pub value_at : List ℕ → List Attr → Option (List ℕ)
value_at name [] = None
value_at name (a ∷ rest) = if is_named name a then Some a.value else value_at name rest

-- a text has no attribute
abbrev pub attr_in_content : NewNode → List ℕ → List Attr → Option (List ℕ)
attr_in_content (Element tag) name attrs = value_at name attrs
attr_in_content (Text us) name attrs = None

abbrev pub attr_in : Option Row → List ℕ → Option (List ℕ)
attr_in None name = None
attr_in (Some r) name = attr_in_content r.content name r.attrs

-- a parent that is a node
abbrev pub node_in : Parent → Option ℕ
node_in (Node p) = Some p
node_in p = None

abbrev pub parent_of : Doc → ℕ → Option ℕ
parent_of d n = node_in (parent_in (row_at d n))

abbrev pub child_of : Doc → ℕ → ℕ → Option ℕ
child_of d n place = slice_get (children_in (row_at d n)) place

-- whether a value is there and is these units
abbrev pub is_value : List ℕ → Option (List ℕ) → Bool
is_value us None = false
is_value us (Some v) = same_units v us

-- whether a row has this id
abbrev pub has_id : List ℕ → Row → Bool
has_id id r = is_value id (value_at (codes "id") r.attrs)

-- the first row that has the id
abbrev pub find_id : Doc → List ℕ → Option ℕ
find_id d id = position (has_id id) d.rows

-- whether c is p, or above it by so many steps at most
abbrev pub climbs : ℕ → Doc → ℕ → Option ℕ → Bool
climbs k d c None = false
climbs zero d c (Some p) = false
climbs (suc k) d c (Some p) = nat_eq p c || climbs k d c (parent_of d p)

-- whether nothing stands under a node
abbrev pub is_leaf : Doc → ℕ → Bool
is_leaf d n = nat_eq (length (children_in (row_at d n))) 0

-- whether c is p or stands above it: what has no child is above nothing, and a chain of parents is no longer than the rows are many
abbrev pub is_at_or_above : Doc → ℕ → ℕ → Bool
is_at_or_above d c p = if is_leaf d c then nat_eq p c else climbs (length d.rows) d c (Some p)

-- whether two owners are of one root, or there is neither
abbrev pub same_root : Option (ℕ × ℕ) → Option (ℕ × ℕ) → Bool
same_root None None = true
same_root (Some a) (Some b) = nat_eq a.0 b.0
same_root a b = false

-- whether a node is a granted root
abbrev pub is_granted : Option (ℕ × ℕ) → Bool
is_granted None = false
is_granted (Some o) = nat_eq o.1 0
