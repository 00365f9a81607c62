-- The nodes of a granted root, as the rows of a module see them: by their numbers in the root.
use Rattle.std.specs.Prelude.{◌≡◌, ℕ, ◌+◌, ◌<◌, List, [], ◌∷◌, Option, Some, None, length, map, slice_get, codes, if◌then◌else◌}
use Rattle.std.specs.Option.{option_map}
use Rattle.html_tree.specs.declared.Attr.{Attr}
use Rattle.doc_nodes.specs.declared.node.NewNode.{NewNode}
use Rattle.doc_nodes.specs.declared.node.NewNode.TheVariants.{Element, Text}
use Rattle.doc_nodes.specs.Rows.{Row, Doc, row_at, parent_in, node_in, children_in, owner_in, owner_of, nodes_of, tag_in, text_in, attr_in, is_granted, is_at_or_above}
use Rattle.doc_nodes.specs.Changes.{is_child}
use Rattle.doc_laws.specs.Reached.{Reached}
use Rattle.node_deeds.specs.Walk as walk
use Rattle.node_deeds.specs.Deeds.{tag_or_text, text_or_empty, number_in, lent_parent, first_with, texts}
use Rattle.rows.specs.Rows.{null, held}
use Rattle.rows.specs.Document.{Node, node_at, of_parent, below, at_and_above, text_of, attribute}
use Rattle.rows.specs.Branches.{parents, with_ids}
use Rattle.rows.specs.Nodes.{is_in, has_id, of_id}
use Rattle.doc_views.specs.Clear.{IsClear}

-- the number of a node in its root; 0 for what belongs to none
abbrev pub number_at : List (Option (ℕ × ℕ)) → ℕ → ℕ
number_at owners n = number_in (owner_in (slice_get owners n))

abbrev pub local : Doc → ℕ → ℕ
local d n = number_at d.owners n

abbrev pub pair_of : Attr → List ℕ × List ℕ
pair_of a = (a.name, a.value)

-- a text has no attribute
abbrev pub pairs_in_content : NewNode → List Attr → List (List ℕ × List ℕ)
pairs_in_content (Element tag) attrs = map pair_of attrs
pairs_in_content (Text us) attrs = []

abbrev pub pairs_in : Option Row → List (List ℕ × List ℕ)
pairs_in None = []
pairs_in (Some x) = pairs_in_content x.content x.attrs

-- what is above a granted root is nothing
abbrev pub parent_seen : Option (ℕ × ℕ) → Option Row → Option ℕ
parent_seen o x = if is_granted o then None else node_in (parent_in x)

-- a row, with what the owners of all nodes say of it and of those around it
abbrev pub node_from : List (Option (ℕ × ℕ)) → ℕ → Option Row → Node
node_from owners n x = record {
  tag = tag_or_text (tag_in x);
  text = text_or_empty (text_in x);
  attributes = pairs_in x;
  parent = option_map (number_at owners) (parent_seen (owner_in (slice_get owners n)) x);
  children = map (number_at owners) (children_in x);
}

abbrev pub node_seen : Doc → ℕ → Node
node_seen d n = node_from d.owners n (row_at d n)

abbrev pub nodes_seen : Doc → ℕ → List Node
nodes_seen d r = map (node_seen d) (nodes_of d.roots r)

-- the node n of the document is the one with the number k in the root r
abbrev pub Stands : Doc → ℕ → ℕ → ℕ → Type 0
Stands d n r k = ◌≡◌ {A = Option (ℕ × ℕ)} (owner_of d n) (Some (r, k))

-- nodes of the document by their numbers in a root
abbrev pub AllStand : Doc → ℕ → List ℕ → List ℕ → Type 0
AllStand d r [] [] = Unit {0}
AllStand d r (n ∷ ns) (k ∷ ks) = Stands d n r k × AllStand d r ns ks
AllStand d r ns ks = ⊥

-- the first of some nodes with an id
abbrev pub first_of : List ℕ → List Node → List ℕ → Option ℕ
first_of id ns [] = None
first_of id ns (k ∷ ks) = if has_id id (attribute (codes "id") (node_at ns k).attributes) then Some k else first_of id ns ks

-- a node by its number
abbrev pub NodeIsSeen : Type 0
NodeIsSeen = (d : Doc) (n r k : ℕ) → Reached d → Stands d n r k → (k < length (nodes_seen d r)) × (node_at (nodes_seen d r) k ≡ node_seen d n)

-- as many as the root has
abbrev pub CountIsSeen : Type 0
CountIsSeen = (d : Doc) (r : ℕ) → length (nodes_seen d r) ≡ length (nodes_of d.roots r)

-- those around it, by their numbers
abbrev pub ParentsAreSeen : Type 0
ParentsAreSeen = (d : Doc) (n r k : ℕ) → Reached d → Stands d n r k → parents (nodes_seen d r) k ≡ of_parent (λ p. local d p ∷ []) (lent_parent d n)

abbrev pub NumbersAreSeen : Type 0
NumbersAreSeen = (d : Doc) (n r k : ℕ) → Reached d → Stands d n r k → (node_at (nodes_seen d r) k).children ≡ map (local d) (children_in (row_at d n))

-- they are of the root
abbrev pub ParentIsSeen : Type 0
ParentIsSeen = (d : Doc) (n r k p : ℕ) → Reached d → Stands d n r k → lent_parent d n ≡ Some p → Stands d p r (local d p)

abbrev pub ChildrenAreSeen : Type 0
ChildrenAreSeen = (d : Doc) (n r k : ℕ) → Reached d → Stands d n r k → AllStand d r (children_in (row_at d n)) (node_at (nodes_seen d r) k).children

abbrev pub AttributeIsSeen : Type 0
AttributeIsSeen = (d : Doc) (n : ℕ) (name : List ℕ) → attribute name (node_seen d n).attributes ≡ attr_in (row_at d n) name

abbrev pub BelowIsSeen : Type 0
BelowIsSeen = (d : Doc) (n r k : ℕ) → Reached d → IsClear d → Stands d n r k → below (nodes_seen d r) k ≡ map (local d) (walk.at_and_below d n)

abbrev pub TextIsSeen : Type 0
TextIsSeen = (d : Doc) (n r k : ℕ) → Reached d → IsClear d → Stands d n r k → text_of (nodes_seen d r) k ≡ texts d (walk.at_and_below d n)

abbrev pub FirstIsSeen : Type 0
FirstIsSeen = (d : Doc) (n r k : ℕ) (id : List ℕ) → Reached d → IsClear d → Stands d n r k
    → first_of id (nodes_seen d r) (below (nodes_seen d r) k) ≡ option_map (local d) (first_with id d (walk.at_and_below d n))

abbrev pub AboveIsSeen : Type 0
AboveIsSeen = (d : Doc) (n c r k j : ℕ) → Reached d → IsClear d → Stands d n r k → Stands d c r j
    → is_in j (at_and_above (length (nodes_seen d r)) (nodes_seen d r) k) ≡ is_at_or_above d c n

abbrev pub ChildIsSeen : Type 0
ChildIsSeen = (d : Doc) (n c r k j : ℕ) → Reached d → Stands d n r k → Stands d c r j → is_in j (node_at (nodes_seen d r) k).children ≡ is_child d n c

-- what a row answers by an id, of nodes whose handles begin with b: nothing, or the handle of the first
abbrev pub AnswerById : Type 0
AnswerById = (id : List ℕ) (ns : List Node) (b : ℕ) (ks : List ℕ)
    → (first_of id ns ks ≡ None → of_id id (with_ids ns b ks) ≡ null)
    × ((k : ℕ) → first_of id ns ks ≡ Some k → (i : ℕ) × (◌≡◌ {A = Option ℕ} (slice_get ks i) (Some k)) × (of_id id (with_ids ns b ks) ≡ held (b + i)))
