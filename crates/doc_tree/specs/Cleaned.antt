-- The document that cleaned HTML gives: rows in document order, each last in the list of its parent.
use Rattle.std.specs.Prelude.{ℕ, List, [], Option, None, length, map}
use Rattle.html_grammar.specs.Tags as t
use Rattle.html_grammar.specs.Trees.{Sort, one, many, Tree, text_node, element, none, more}
use Rattle.html_tree.specs.declared.Attr.{Attr}
use Rattle.doc_nodes.specs.declared.node.Parent.{Parent}
use Rattle.doc_nodes.specs.declared.node.Parent.TheVariants.{Document, Node}
use Rattle.doc_nodes.specs.declared.node.NewNode.TheVariants.{Element, Text}
use Rattle.doc_nodes.specs.Rows.{Doc}
use Rattle.doc_nodes.specs.Changes.{empty, root_at, joined}

abbrev pub attr_from : t.Attr → Attr
attr_from x = record { name = x.name; value = x.value }

abbrev pub attrs_from : List t.Attr → List Attr
attrs_from xs = map attr_from xs

-- trees become nodes under a parent, in the root around them
abbrev pub add : List (List ℕ) → (s : Sort) → Tree s → Parent → Option ℕ → Doc → Doc
add ids _ (text_node us) p around d = joined p around (Text us) [] d
add ids _ (element tag xs ts) p around d =
    let root = root_at ids around (attrs_from xs) in
    add ids many ts (Node (length d.rows)) root (joined p root (Element tag) (attrs_from xs) d)
add ids _ none p around d = d
add ids _ (more t ts) p around d = add ids many ts p around (add ids one t p around d)

-- the granted roots are the elements that have these ids
abbrev pub from_clean : List (List ℕ) → Tree many → Doc
from_clean ids ts = add ids many ts Document None (empty (length ids))
