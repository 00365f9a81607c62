-- The attributes of a list, one after another.
use Rattle.std.proofs.Common.{◌≡◌, ℕ, suc, ◌+◌, ◌<◌, List, ◌∷◌, sym, ap, ◌∙◌, length, drop, get_or, add-one}
use Rattle.std.proofs.Math.Seq.{drop-cons}
use Rattle.html_tree.specs.declared.Attr.{Attr}
use Rattle.html_tree.specs.Views.{attr_of, attrs_of}

pub next_attr : (s : List Attr) (i : ℕ) (x : Attr) → i < length s → x ≡ get_or s i x → attrs_of (drop i s) ≡ attr_of x ∷ attrs_of (drop (i + 1) s)
next_attr s i x lt e =
    ap attrs_of (drop-cons s i x lt) ∙ ap (λ y. attr_of y ∷ attrs_of (drop (suc i) s)) (sym e) ∙ ap (λ j. attr_of x ∷ attrs_of (drop j s)) (sym (add-one i))
