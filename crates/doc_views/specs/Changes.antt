-- What each change of a node of a granted root is among the nodes of the root.
use Rattle.std.specs.Prelude.{◌≡◌, ◌≢◌, ℕ, ◌++◌, false, List, [], ◌∷◌, Option, Some, Ok}
use Rattle.doc_nodes.specs.declared.node.NewNode.TheVariants.{Element, Text}
use Rattle.doc_nodes.specs.Rows.{Doc, owner_of, row_at, tag_in, is_granted}
use Rattle.doc_nodes.specs.Changes.{append, remove, set_attr, set_text, create}
use Rattle.doc_laws.specs.Owned.{Grows}
use Rattle.doc_laws.specs.Reached.{Reached}
use Rattle.doc_laws.specs.Within.{IsWithin}
use Rattle.rows.specs.Document.{changed, sets_attribute, sets_text, appends, removes, text_node, element}
use Rattle.doc_views.specs.Seen.{nodes_seen, Stands}
use Rattle.doc_views.specs.Clear.{IsClear}

-- of an element
abbrev pub SetAttrIsSeen : Type 0
SetAttrIsSeen = (d e : Doc) (n r k : ℕ) (tag name v : List ℕ) → Reached d → Stands d n r k → ◌≡◌ {A = Option (List ℕ)} (tag_in (row_at d n)) (Some tag) → set_attr n name v d ≡ Ok e
    → nodes_seen e r ≡ changed (sets_attribute name v) k (nodes_seen d r)

abbrev pub SetTextIsSeen : Type 0
SetTextIsSeen = (d e : Doc) (n r k : ℕ) (us : List ℕ) → Reached d → IsClear d → Stands d n r k → set_text n us d ≡ Ok e → nodes_seen e r ≡ changed (sets_text us) k (nodes_seen d r)

-- c isn't the first of the root
abbrev pub AppendIsSeen : Type 0
AppendIsSeen = (d e : Doc) (p c r k j : ℕ) → Reached d → Stands d p r k → Stands d c r j → is_granted (owner_of d c) ≡ false → append p c d ≡ Ok e → nodes_seen e r ≡ changed (appends j) k (nodes_seen d r)

abbrev pub RemoveIsSeen : Type 0
RemoveIsSeen = (d e : Doc) (p c r k j : ℕ) → Reached d → IsClear d → Stands d p r k → Stands d c r j → remove p c d ≡ Ok e → nodes_seen e r ≡ changed (removes j) k (nodes_seen d r)

-- of a root that has a node
abbrev pub CreateElementIsSeen : Type 0
CreateElementIsSeen = (d : Doc) (n r k : ℕ) (tag : List ℕ) → Reached d → Stands d n r k → nodes_seen (create r (Element tag) d) r ≡ nodes_seen d r ++ element tag ∷ []

abbrev pub CreateTextIsSeen : Type 0
CreateTextIsSeen = (d : Doc) (n r k : ℕ) (us : List ℕ) → Reached d → Stands d n r k → nodes_seen (create r (Text us) d) r ≡ nodes_seen d r ++ text_node us ∷ []

-- the nodes of other roots stay, where what changes is of one root
abbrev pub OthersAreSeen : Type 0
OthersAreSeen = (r s : ℕ) (d e : Doc) → Reached d → Grows d e → IsWithin r d e → s ≢ r → nodes_seen e s ≡ nodes_seen d s
