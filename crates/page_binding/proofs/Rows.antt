-- Trees one after another, and an element with what stands in it.
use Rattle.std.proofs.Common.{◌≡◌, ℕ, suc, ◌+◌, ◌<◌, ◌≤◌, List, [], ◌∷◌, Option, Ok, length, drop, get_or, refl, sym, ap, ◌∙◌, add-one}
use Rattle.std.specs.Prelude.{codes}
use Rattle.std.proofs.lemmas.List.{drop_all, at_drop_more}
use Rattle.html_grammar.specs.Trees.{Tree, one, many, element}
use Rattle.html_tree.specs.declared.Attr.{Attr}
use Rattle.html_tree.specs.declared.Html.{Html}
use Rattle.html_tree.specs.Views.{tree, trees, attrs_of}
use Rattle.doc_nodes.specs.Rows.{value_at}
use Rattle.doc_tree.specs.Cleaned.{attrs_from}
use Rattle.page_manifest.specs.Faults.{chain}
use Rattle.page_roots.specs.Roots.{Roots}
use Rattle.page_binding.specs.Table.{Table, entered, walked}

pub next_walked : (roots : Roots) (s : List Html) (i : ℕ) (x : Html) (least : ℕ) (t : Table) → i < length s → x ≡ get_or s i x
    → walked roots many (trees (drop i s)) least t ≡ chain (walked roots one (tree x) least t) (walked roots many (trees (drop (i + 1) s)) least)
next_walked roots s i x least t less is =
    at_drop_more (λ l. walked roots many (trees l) least t) s i x less
    ∙ ap (λ y. chain (walked roots one (tree y) least t) (walked roots many (trees (drop (i + 1) s)) least)) (sym is)

pub none_walked : (roots : Roots) (s : List Html) (i : ℕ) (least : ℕ) (t : Table) → length s ≤ i → walked roots many (trees (drop i s)) least t ≡ Ok t
none_walked roots s i least t past = ap (λ ts. walked roots many (trees ts) least t) (drop_all i s past)

attrs_kept : (xs : List Attr) → attrs_from (attrs_of xs) ≡ xs
attrs_kept [] = refl
attrs_kept (x ∷ xs) = ap (λ ys. x ∷ ys) (attrs_kept xs)

pub element_walked : (roots : Roots) (tag : List ℕ) (xs ys : List Attr) (ts us : Tree many) (x : Tree one) (least : ℕ) (t : Table) → x ≡ element tag (attrs_of xs) ts → us ≡ ts → ys ≡ xs
    → walked roots one x least t ≡ chain (entered roots tag (value_at (codes "id") ys) least t) (λ r. walked roots many us r.0 r.1)
element_walked roots tag xs ys ts us x least t is under attrs =
    ap (λ y. walked roots one y least t) is
    ∙ ap (λ zs. chain (entered roots tag (value_at (codes "id") zs) least t) (λ r. walked roots many ts r.0 r.1)) (attrs_kept xs ∙ sym attrs)
    ∙ ap (λ vs. chain (entered roots tag (value_at (codes "id") ys) least t) (λ r. walked roots many vs r.0 r.1)) (sym under)
