-- What the program's trees are in the definition.
use Rattle.std.specs.Prelude.{List, [], ◌∷◌, map}
use Rattle.html_grammar.specs.Tags as t
use Rattle.html_grammar.specs.Trees as h
use Rattle.html_tree.specs.declared.Attr.{Attr}
use Rattle.html_tree.specs.declared.Html.{Html}
use Rattle.html_tree.specs.declared.Html.TheBlock as b

abbrev pub attr_of : Attr → t.Attr
attr_of a = record { name = a.name; value = a.value }

abbrev pub attrs_of : List Attr → List t.Attr
attrs_of xs = map attr_of xs

abbrev mutual
  pub tree : Html → h.Tree h.one
  tree (b.Text us) = h.text_node us
  tree (b.Element' n xs shape ts) = h.element n (attrs_of xs.items) (row_of ts)

  -- a row of nodes as a vector has them
  pub row_of : {m : _} → b.Row_of-Html m → h.Tree h.many
  row_of b.end_of-Html = h.none
  row_of (b.more_of-Html x xs) = h.more (tree x) (row_of xs)

abbrev pub trees : List Html → h.Tree h.many
trees [] = h.none
trees (x ∷ xs) = h.more (tree x) (trees xs)
