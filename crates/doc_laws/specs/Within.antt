-- What a change at a node of a granted root leaves: all that isn't of this root.
use Rattle.std.specs.Prelude.{◌≡◌, ◌≢◌, ℕ, ◌<◌, ◌≤◌, false, List, Some, Ok, length}
use Rattle.doc_nodes.specs.declared.node.NewNode.{NewNode}
use Rattle.doc_nodes.specs.Rows.{Doc, row_at, owner_of, is_granted, nodes_of}
use Rattle.doc_nodes.specs.Changes.{append, remove, set_attr, set_text, create, root_in}
use Rattle.doc_laws.specs.Owned.{IsRoot}
use Rattle.doc_laws.specs.Reached.{Reached}

-- the rows of all other nodes, what stands under the document itself, and the numbers of other roots stay; what is new is of the root
pub record IsWithin (r : ℕ) (d e : Doc) : Type 0 where
  pub rows : (m : ℕ) → m < length d.rows → root_in (owner_of d m) ≢ Some r → row_at e m ≡ row_at d m
  pub top : e.top ≡ d.top
  pub numbers : (q : ℕ) → q ≢ r → nodes_of e.roots q ≡ nodes_of d.roots q
  pub new : (m : ℕ) → length d.rows ≤ m → m < length e.rows → root_in (owner_of e m) ≡ Some r

-- p is of the root r, and c isn't a granted root
abbrev pub AppendWithin : Type 0
AppendWithin = (p c r : ℕ) (d e : Doc) → Reached d → root_in (owner_of d p) ≡ Some r → is_granted (owner_of d c) ≡ false → append p c d ≡ Ok e → IsWithin r d e

abbrev pub RemoveWithin : Type 0
RemoveWithin = (p c r : ℕ) (d e : Doc) → Reached d → root_in (owner_of d p) ≡ Some r → remove p c d ≡ Ok e → IsWithin r d e

abbrev pub SetAttrWithin : Type 0
SetAttrWithin = (n r : ℕ) (name v : List ℕ) (d e : Doc) → Reached d → root_in (owner_of d n) ≡ Some r → set_attr n name v d ≡ Ok e → IsWithin r d e

abbrev pub SetTextWithin : Type 0
SetTextWithin = (n r : ℕ) (us : List ℕ) (d e : Doc) → Reached d → root_in (owner_of d n) ≡ Some r → set_text n us d ≡ Ok e → IsWithin r d e

abbrev pub CreateWithin : Type 0
CreateWithin = (r : ℕ) (c : NewNode) (d : Doc) → Reached d → IsRoot d (Some r) → IsWithin r d (create r c d)
