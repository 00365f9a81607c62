-- How a document is written: as HTML is, and what stands under the document itself alone.
use Rattle.std.specs.Prelude.{ℕ, zero, suc, List, [], ◌∷◌, ◌++◌, Option, Some, None, length, if◌then◌else◌}
use Rattle.html_grammar.specs.Tables.{is_in, void}
use Rattle.html_tree.specs.declared.Attr.{Attr}
use Rattle.html_tree.specs.Views.{attrs_of}
use Rattle.html_kept.specs.Printed.{printed_text, start_tag, end_tag}
use Rattle.doc_nodes.specs.declared.node.NewNode.{NewNode}
use Rattle.doc_nodes.specs.declared.node.NewNode.TheVariants.{Element, Text}
use Rattle.doc_nodes.specs.Rows.{Row, Doc, row_at}

-- what a node begins with: a tag with its attributes, or the whole text
abbrev pub opening_of : NewNode → List Attr → List ℕ
opening_of (Element tag) attrs = start_tag tag (attrs_of attrs)
opening_of (Text us) attrs = printed_text us

-- a tag without content has no end tag
abbrev pub ending_of : NewNode → List ℕ
ending_of (Element tag) = if is_in void tag then [] else end_tag tag
ending_of (Text us) = []

-- what is shown under a node: nothing under a text, nor under a tag without content
abbrev pub under_content : NewNode → List ℕ → List ℕ
under_content (Element tag) ns = if is_in void tag then [] else ns
under_content (Text us) ns = []

abbrev pub opening : Option Row → List ℕ
opening None = []
opening (Some r) = opening_of r.content r.attrs

abbrev pub ending : Option Row → List ℕ
ending None = []
ending (Some r) = ending_of r.content

abbrev pub shown_in : Option Row → List ℕ
shown_in None = []
shown_in (Some r) = under_content r.content r.children

abbrev pub shown : Doc → ℕ → List ℕ
shown d n = shown_in (row_at d n)

-- nodes with what is under them, by so many levels at most
unfoldable pub printed : ℕ → Doc → List ℕ → List ℕ
printed zero d ns = []
printed (suc k) d [] = []
printed (suc k) d (n ∷ ns) = (opening (row_at d n) ++ (printed k d (shown d n) ++ ending (row_at d n))) ++ printed (suc k) d ns

-- a chain of parents is no longer than the rows are many
abbrev pub print : Doc → List ℕ
print d = printed (length d.rows) d d.top
