-- Trees that are added one after another, and an element that is added with what stands under it.
use Rattle.std.proofs.Common.{◌≡◌, ℕ, suc, ◌+◌, ◌<◌, ◌≤◌, List, [], ◌∷◌, Option, length, drop, get_or, refl, sym, ap, ◌∙◌, add-one}
use Rattle.std.proofs.Math.Seq.{drop-cons}
use Rattle.std.proofs.lemmas.List.{drop_all}
use Rattle.html_grammar.specs.Trees.{Tree, one, many, element}
use Rattle.html_tree.specs.declared.Attr.{Attr}
use Rattle.html_tree.specs.declared.Html.{Html}
use Rattle.html_tree.specs.Views.{tree, trees, attrs_of}
use Rattle.doc_nodes.specs.declared.node.Parent.{Parent}
use Rattle.doc_nodes.specs.declared.node.Parent.TheVariants.{Node}
use Rattle.doc_nodes.specs.declared.node.NewNode.TheVariants.{Element}
use Rattle.doc_nodes.specs.Rows.{Doc}
use Rattle.doc_nodes.specs.Changes.{root_at, joined}
use Rattle.doc_tree.specs.Cleaned.{attrs_from, add}

pub next_added : (ids : List (List ℕ)) (s : List Html) (i : ℕ) (x : Html) (p : Parent) (around : Option ℕ) (d : Doc) → i < length s → x ≡ get_or s i x → add ids many (trees (drop i s)) p around d ≡ add ids many (trees (drop (i + 1) s)) p around (add ids one (tree x) p around d)
next_added ids s i x p around d less is =
    ap (λ ts. add ids many (trees ts) p around d) (drop-cons s i x less) ∙ ap (λ y. add ids many (trees (drop (suc i) s)) p around (add ids one (tree y) p around d)) (sym is)
    ∙ ap (λ j. add ids many (trees (drop j s)) p around (add ids one (tree x) p around d)) (sym (add-one i))

pub none_added : (ids : List (List ℕ)) (s : List Html) (i : ℕ) (p : Parent) (around : Option ℕ) (d : Doc) → length s ≤ i → add ids many (trees (drop i s)) p around d ≡ d
none_added ids s i p around d past = ap (λ ts. add ids many (trees ts) p around d) (drop_all i s past)

attrs_kept : (xs : List Attr) → attrs_from (attrs_of xs) ≡ xs
attrs_kept [] = refl
attrs_kept (x ∷ xs) = ap (λ ys. x ∷ ys) (attrs_kept xs)

pub element_added : (ids : List (List ℕ)) (p node : Parent) (around root : Option ℕ) (d j : Doc) (tag : List ℕ) (xs ys : List Attr) (ts us : Tree many) (t : Tree one) → t ≡ element tag (attrs_of xs) ts → us ≡ ts → ys ≡ xs → node ≡ Node (length d.rows) → root ≡ root_at ids around ys → j ≡ joined p (root_at ids around ys) (Element tag) ys d → add ids many us node root j ≡ add ids one t p around d
element_added ids p node around root d j tag xs ys ts us t is under attrs at in_root join =
    rw (is, under, at, join, in_root, attrs) (sym (ap (λ zs. add ids many ts (Node (length d.rows)) (root_at ids around zs) (joined p (root_at ids around zs) (Element tag) zs d)) (attrs_kept xs)))
