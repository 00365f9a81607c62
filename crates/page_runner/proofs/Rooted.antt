-- The document of cleaned HTML has a root for each id that it is made with.
use Rattle.std.proofs.Common.{◌≡◌, ℕ, List, [], ◌∷◌, ◌++◌, length, Option, Some, None, refl, ◌∙◌}
use Rattle.std.proofs.lemmas.List.{length-replicate, length-set}
use Rattle.html_grammar.specs.Trees.{Sort, one, many, Tree, text_node, element, none, more}
use Rattle.html_tree.specs.declared.Attr.{Attr}
use Rattle.doc_nodes.specs.declared.node.Parent.{Parent}
use Rattle.doc_nodes.specs.declared.node.Parent.TheVariants.{Detached, Document, Node}
use Rattle.doc_nodes.specs.declared.node.NewNode.{NewNode}
use Rattle.doc_nodes.specs.declared.node.NewNode.TheVariants.{Element, Text}
use Rattle.doc_nodes.specs.Rows.{Row, Doc, row_at, nodes_of}
use Rattle.doc_nodes.specs.Changes.{empty, edited_row, over, listed, with_owned, with_node, joined, root_at}
use Rattle.doc_tree.specs.Cleaned.{attrs_from, add, from_clean}

owned_long : (root : Option ℕ) (n : ℕ) (roots : List (List ℕ)) → length (with_owned root n roots) ≡ length roots
owned_long None n roots = refl
owned_long (Some r) n roots = length-set roots r (nodes_of roots r ++ n ∷ [])

edited_long : (d : Doc) (n : ℕ) (f : Row → Row) (o : Option Row) → length (edited_row d n f o).roots ≡ length d.roots
edited_long d n f None = refl
edited_long d n f (Some r) = refl

listed_long : (p : Parent) (c : ℕ) (d : Doc) → length (listed p c d).roots ≡ length d.roots
listed_long Detached c d = refl
listed_long Document c d = refl
listed_long (Node p) c d = edited_long d p (λ r. over (r.children ++ c ∷ []) r) (row_at d p)

joined_long : (p : Parent) (root : Option ℕ) (c : NewNode) (attrs : List Attr) (d : Doc) → length (joined p root c attrs d).roots ≡ length d.roots
joined_long p root c attrs d = listed_long p (length d.rows) (with_node p root c attrs d) ∙ owned_long root (length d.rows) d.roots

add_long : (ids : List (List ℕ)) (s : Sort) (t : Tree s) (p : Parent) (around : Option ℕ) (d : Doc) → length (add ids s t p around d).roots ≡ length d.roots
add_long ids _ (text_node us) p around d = joined_long p around (Text us) [] d
add_long ids _ (element tag xs ts) p around d =
    let attrs = attrs_from xs in
    let root = root_at ids around attrs in
    add_long ids many ts (Node (length d.rows)) root (joined p root (Element tag) attrs d) ∙ joined_long p root (Element tag) attrs d
add_long ids _ none p around d = refl
add_long ids _ (more t ts) p around d = add_long ids many ts p around (add ids one t p around d) ∙ add_long ids one t p around d

pub clean_rooted : (ids : List (List ℕ)) (ts : Tree many) → length (from_clean ids ts).roots ≡ length ids
clean_rooted ids ts = add_long ids many ts Document None (empty (length ids)) ∙ length-replicate (length ids) []
