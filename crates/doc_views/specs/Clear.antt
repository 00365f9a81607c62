-- What else holds of a document whose nodes are seen by root.
use Rattle.std.specs.Prelude.{◌≡◌, ℕ, true, false, List, [], Option, Some, None, Ok}
use Rattle.caja_units.specs.Units.{same_units}
use Rattle.html_grammar.specs.Trees.{many, Tree}
use Rattle.html_kept.specs.Table.{Answers}
use Rattle.html_kept.specs.OfTable.{OfTable}
use Rattle.html_tree.specs.declared.Attr.{Attr}
use Rattle.doc_nodes.specs.declared.node.NewNode.{NewNode}
use Rattle.doc_nodes.specs.declared.node.NewNode.TheVariants.{Element, Text}
use Rattle.doc_nodes.specs.Rows.{Row, Doc, row_at, owner_of, parent_of, tag_in, is_granted}
use Rattle.doc_nodes.specs.Changes.{set_attr}
use Rattle.doc_tree.specs.Cleaned.{from_clean}
use Rattle.doc_laws.specs.Reached.{IsGrantable}
use Rattle.rows.specs.Document.{text_tag}

-- the attributes that a text has
abbrev pub stray_in_content : NewNode → List Attr → List Attr
stray_in_content (Element tag) attrs = []
stray_in_content (Text us) attrs = attrs

abbrev pub stray_in : Option Row → List Attr
stray_in None = []
stray_in (Some x) = stray_in_content x.content x.attrs

-- no element is named as a text is, no text has attributes, and no granted root stands under a node of a root
pub record IsClear (d : Doc) : Type 0 where
  pub named : (n : ℕ) (tag : List ℕ) → ◌≡◌ {A = Option (List ℕ)} (tag_in (row_at d n)) (Some tag) → same_units tag text_tag ≡ false
  pub texts : (n : ℕ) → stray_in (row_at d n) ≡ []
  pub first : (n p : ℕ) → is_granted (owner_of d n) ≡ true → ◌≡◌ {A = Option ℕ} (parent_of d n) (Some p) → ◌≡◌ {A = Option (ℕ × ℕ)} (owner_of d p) None

-- so it is where an element has another value of an attribute
abbrev pub SetAttrKeepsClear : Type 0
SetAttrKeepsClear = (d e : Doc) (n : ℕ) (tag name v : List ℕ) → IsClear d → ◌≡◌ {A = Option (List ℕ)} (tag_in (row_at d n)) (Some tag) → set_attr n name v d ≡ Ok e → IsClear e

-- so it is of the document of cleaned HTML, and each deed keeps it
abbrev pub CleanIsClear : Type 0
CleanIsClear = (a : Answers) (ids : List (List ℕ)) (ts : Tree many) → IsGrantable ids ts → OfTable a many ts → IsClear (from_clean ids ts)
