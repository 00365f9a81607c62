-- The views of trees with rows of nodes in them.
use Rattle.std.proofs.Common.{◌≡◌, ℕ, List, [], ◌∷◌, ◌++◌, refl, ap, rules}
use Rattle.std.specs.Global.{Vec}
use Rattle.html_tree.specs.declared.Attr.{Attr}
use Rattle.html_tree.specs.declared.Html.{Html, the_lemmas}
use Rattle.html_tree.specs.declared.Html.TheBlock as b
use Rattle.html_tree.specs.declared.Html.TheVariants as e
use Rattle.html_grammar.specs.Trees as h
use Rattle.html_tree.specs.Views as v

pub row_is : {m : _} (xs : b.Row_of-Html m) → v.row_of xs ≡ v.trees (b.items-the_row-Html m xs)
row_is b.end_of-Html = refl
row_is (b.more_of-Html x xs) = ap (h.more (v.tree x)) (row_is xs)

pub view_element : (n : List ℕ) (xs : Vec Attr) (ts : Vec Html) → v.tree (e.Element n xs ts) ≡ h.element n (v.attrs_of xs.items) (v.trees ts.items)
view_element n xs ts = search (rules, the_lemmas, row_is)

pub trees_push : (xs : List Html) (x : Html) → v.trees (xs ++ x ∷ []) ≡ h.snoc (v.trees xs) (v.tree x)
trees_push [] x = refl
trees_push (y ∷ xs) x = ap (h.more (v.tree y)) (trees_push xs x)
