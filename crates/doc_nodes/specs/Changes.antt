-- What may be done to a document: each change is a function on the list of rows.
use Rattle.std.specs.Prelude.{ℕ, Bool, false, ◌&&◌, not, List, [], ◌∷◌, ◌++◌, Option, Some, None, Result, Ok, Err, length, replicate, slice_set, nat_eq, position, codes, if◌then◌else◌}
use Rattle.std.specs.List as List
use Rattle.caja_units.specs.Units.{same_units}
use Rattle.doc_nodes.specs.declared.node.Parent.{Parent}
use Rattle.doc_nodes.specs.declared.node.Parent.TheVariants as parent
use Rattle.doc_nodes.specs.declared.node.NewNode.{NewNode}
use Rattle.doc_nodes.specs.declared.node.NewNode.TheVariants.{Element, Text}
use Rattle.html_tree.specs.declared.Attr.{Attr}
use Rattle.doc_nodes.specs.declared.node.DocError.{DocError}
use Rattle.doc_nodes.specs.declared.node.DocError.TheVariants.{NoNode, Cycle, OtherRoot}
use Rattle.doc_nodes.specs.Rows.{Row, Doc, row_at, has, parent_in, children_in, owner_of, nodes_of, is_named, value_at, same_root, is_at_or_above, node_in}

-- the document with another row in the place of one, which f makes of it
abbrev pub edited_row : Doc → ℕ → (Row → Row) → Option Row → Doc
edited_row d n f None = d
edited_row d n f (Some r) = record { rows = slice_set d.rows n (f r); top = d.top; owners = d.owners; roots = d.roots }

abbrev pub edited : Doc → ℕ → (Row → Row) → Doc
edited d n f = edited_row d n f (row_at d n)

abbrev pub placed : Parent → Row → Row
placed p r = record { parent = p; children = r.children; content = r.content; attrs = r.attrs }

abbrev pub over : List ℕ → Row → Row
over ns r = record { parent = r.parent; children = ns; content = r.content; attrs = r.attrs }

abbrev pub holding : NewNode → Row → Row
holding c r = record { parent = r.parent; children = r.children; content = c; attrs = r.attrs }

abbrev pub marked : List Attr → Row → Row
marked attrs r = record { parent = r.parent; children = r.children; content = r.content; attrs = attrs }

abbrev pub without_at : Option ℕ → List ℕ → List ℕ
without_at None xs = xs
without_at (Some i) xs = List.remove xs i

-- a list without the first place of a number in it
abbrev pub without : ℕ → List ℕ → List ℕ
without n xs = without_at (position (nat_eq n) xs) xs

-- a node stands last under another
abbrev pub with_child : ℕ → ℕ → Doc → Doc
with_child p c d = edited d p (λ r. over (r.children ++ c ∷ []) r)

-- a node stands last in a list: of the document itself, or under a node
abbrev pub listed : Parent → ℕ → Doc → Doc
listed parent.Detached c d = d
listed parent.Document c d = record { rows = d.rows; top = d.top ++ c ∷ []; owners = d.owners; roots = d.roots }
listed (parent.Node p) c d = with_child p c d

abbrev pub with_parent : ℕ → Parent → Doc → Doc
with_parent n p d = edited d n (placed p)

-- a node leaves the list that it stands in
abbrev pub left : Parent → ℕ → Doc → Doc
left parent.Detached c d = d
left parent.Document c d = record { rows = d.rows; top = without c d.top; owners = d.owners; roots = d.roots }
left (parent.Node p) c d = edited d p (λ r. over (without c r.children) r)

-- c becomes the last child of p, and leaves its old parent
abbrev pub moved : ℕ → ℕ → Doc → Doc
moved p c d = with_parent c (parent.Node p) (left (parent_in (row_at d c)) c (with_child p c d))

-- why a node isn't appended, the first cause
abbrev pub append_refused : Doc → ℕ → ℕ → Option DocError
append_refused d p c =
    if not (has d p && has d c) then Some NoNode
    else if not (same_root (owner_of d p) (owner_of d c)) then Some OtherRoot
    else if is_at_or_above d c p then Some Cycle
    else None

-- a change, unless it is refused
abbrev pub unless : Option DocError → Doc → Result Doc DocError
unless None d = Ok d
unless (Some e) d = Err e

abbrev pub append : ℕ → ℕ → Doc → Result Doc DocError
append p c d = unless (append_refused d p c) (moved p c d)

abbrev pub is_node : ℕ → Option ℕ → Bool
is_node p None = false
is_node p (Some q) = nat_eq q p

-- whether c stands under p
abbrev pub is_child : Doc → ℕ → ℕ → Bool
is_child d p c = is_node p (node_in (parent_in (row_at d c)))

-- c leaves p and is detached
abbrev pub taken : ℕ → ℕ → Doc → Doc
taken p c d = with_parent c parent.Detached (left (parent.Node p) c d)

abbrev pub remove : ℕ → ℕ → Doc → Result Doc DocError
remove p c d = if has d p && has d c && is_child d p c then Ok (taken p c d) else Err NoNode

-- the value of an attribute that is there, in its place, or a new last attribute
abbrev pub with_value : List ℕ → List ℕ → List Attr → List Attr
with_value name v [] = record { name = name; value = v } ∷ []
with_value name v (a ∷ rest) = if is_named name a then record { name = a.name; value = v } ∷ rest else a ∷ with_value name v rest

abbrev pub set_attr : ℕ → List ℕ → List ℕ → Doc → Result Doc DocError
set_attr n name v d = if has d n then Ok (edited d n (λ r. marked (with_value name v r.attrs) r)) else Err NoNode

-- the next owner of a root, or none: a node's number is that of the nodes of the root before it
abbrev pub next_owner : List (List ℕ) → Option ℕ → Option (ℕ × ℕ)
next_owner roots None = None
next_owner roots (Some r) = Some (r, length (nodes_of roots r))

-- the node is the root's next
abbrev pub with_owned : Option ℕ → ℕ → List (List ℕ) → List (List ℕ)
with_owned None n roots = roots
with_owned (Some r) n roots = slice_set roots r (nodes_of roots r ++ n ∷ [])

-- a new node, the last row: where it stands, the root that it belongs to, what it is, and its attributes
abbrev pub with_node : Parent → Option ℕ → NewNode → List Attr → Doc → Doc
with_node p root c attrs d = record {
  rows = d.rows ++ record { parent = p; children = []; content = c; attrs = attrs } ∷ [];
  top = d.top;
  owners = d.owners ++ next_owner d.roots root ∷ [];
  roots = with_owned root (length d.rows) d.roots;
}

abbrev pub create : ℕ → NewNode → Doc → Doc
create root c d = with_node parent.Detached (Some root) c [] d

abbrev pub root_in : Option (ℕ × ℕ) → Option ℕ
root_in None = None
root_in (Some o) = Some o.0

-- these nodes are detached
abbrev pub freed : List ℕ → Doc → Doc
freed [] d = d
freed (n ∷ ns) d = freed ns (with_parent n parent.Detached d)

-- a new text is an element's only child, and the children that it had are detached
abbrev pub refilled : ℕ → List ℕ → Doc → Doc
refilled n us d =
    let e = with_node (parent.Node n) (root_in (owner_of d n)) (Text us) [] d in
    freed (children_in (row_at e n)) (edited e n (over (length d.rows ∷ [])))

abbrev pub filled : ℕ → List ℕ → NewNode → Doc → Doc
filled n us (Element tag) d = refilled n us d
filled n us (Text old) d = edited d n (holding (Text us))

abbrev pub with_text : ℕ → List ℕ → Option Row → Doc → Result Doc DocError
with_text n us None d = Err NoNode
with_text n us (Some r) d = Ok (filled n us r.content d)

abbrev pub set_text : ℕ → List ℕ → Doc → Result Doc DocError
set_text n us d = with_text n us (row_at d n) d

-- a document without nodes
abbrev pub empty : ℕ → Doc
empty count = record { rows = []; top = []; owners = []; roots = replicate count [] }

-- the root of an id among those of the granted roots
abbrev pub granted : List (List ℕ) → Option (List ℕ) → Option ℕ
granted ids None = None
granted ids (Some id) = position (λ granted. same_units granted id) ids

abbrev pub or_around : Option ℕ → Option ℕ → Option ℕ
or_around around None = around
or_around around (Some r) = Some r

-- the root that an element with these attributes belongs to: the granted one that has its id, or else the one around it
abbrev pub root_at : List (List ℕ) → Option ℕ → List Attr → Option ℕ
root_at ids around attrs = or_around around (granted ids (value_at (codes "id") attrs))

-- a new node, the last row, which stands last in the list of its parent
abbrev pub joined : Parent → Option ℕ → NewNode → List Attr → Doc → Doc
joined p root c attrs d = listed p (length d.rows) (with_node p root c attrs d)
