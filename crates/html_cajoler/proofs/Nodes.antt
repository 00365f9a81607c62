-- The nodes of a list, one after another.
use Rattle.std.proofs.Common.{◌≡◌, ℕ, suc, ◌+◌, ◌<◌, ◌≤◌, List, [], ◌++◌, sym, ap, ◌∙◌, length, drop, get_or, add-one}
use Rattle.std.proofs.Math.Seq.{drop-cons}
use Rattle.std.proofs.lemmas.List.{drop_all}
use Rattle.std.proofs.Common.{false, append_assoc}
use Rattle.std.specs.Prelude.{if◌then◌else◌}
use Rattle.html_grammar.specs.Tables.{is_in, void}
use Rattle.html_grammar.specs.Tags.{Attr}
use Rattle.html_grammar.specs.Trees.{Tree, one, many, element, none, more}
use Rattle.html_kept.specs.Printed.{printed, start_tag, end_tag}
use Rattle.html_tree.specs.declared.Html.{Html}
use Rattle.html_tree.specs.Views.{tree, trees}

pub next_node : (s : List Html) (i : ℕ) (x : Html) → i < length s → x ≡ get_or s i x → trees (drop i s) ≡ more (tree x) (trees (drop (i + 1) s))
next_node s i x lt e =
    ap trees (drop-cons s i x lt) ∙ ap (λ y. more (tree y) (trees (drop (suc i) s))) (sym e) ∙ ap (λ j. more (tree x) (trees (drop j s))) (sym (add-one i))

pub no_node : (s : List Html) (i : ℕ) → length s ≤ i → trees (drop i s) ≡ none
no_node s i le = ap trees (drop_all i s le)

-- an element with an end tag, written part by part
pub element_written : (out a b c n : List ℕ) (xs : List Attr) (ts : Tree many) → a ≡ out ++ start_tag n xs → b ≡ a ++ printed many ts → c ≡ b ++ end_tag n → is_in void n ≡ false → c ≡ out ++ printed one (element n xs ts)
element_written out a b c n xs ts e f g v =
    g ∙ ap (λ (x : List ℕ). x ++ end_tag n) (f ∙ ap (λ (x : List ℕ). x ++ printed many ts) e)
    ∙ append_assoc (out ++ start_tag n xs) (printed many ts) (end_tag n) ∙ append_assoc out (start_tag n xs) (printed many ts ++ end_tag n)
    ∙ ap (λ b. out ++ (start_tag n xs ++ (if b then [] else printed many ts ++ end_tag n))) (sym v)
