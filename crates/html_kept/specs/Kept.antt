-- What is kept of trees of HTML.
use Rattle.std.specs.Prelude.{ℕ, List, [], ◌∷◌, ◌++◌, Option, Some, None, if◌then◌else◌}
use Rattle.html_grammar.specs.Tables.{is_in}
use Rattle.html_grammar.specs.Tags.{Attr}
use Rattle.html_grammar.specs.Trees.{Sort, one, many, Tree, text_node, element, none, more}
use Rattle.html_kept.specs.Table.{dropped, listed, Answers, attr_value}

-- an attribute with the value that is kept, before others
abbrev pub with_value : List ℕ → Option (List ℕ) → List Attr → List Attr
with_value x None ys = ys
with_value x (Some us) ys = record { name = x; value = us } ∷ ys

-- what is kept of the attributes of the element n, in order
abbrev pub kept_attrs : Answers → List ℕ → List Attr → List Attr
kept_attrs a n [] = []
kept_attrs a n (x ∷ xs) = with_value x.name (attr_value a n x.name x.value) (kept_attrs a n xs)

-- a text before what is kept of what follows: texts side by side are joined, and empty ones dropped
abbrev pub joined : List ℕ → Tree many → Tree many
joined [] r = r
joined (c ∷ us) none = more (text_node (c ∷ us)) none
joined (c ∷ us) (more (text_node vs) r) = more (text_node (c ∷ us ++ vs)) r
joined (c ∷ us) (more (element n xs ts) r) = more (text_node (c ∷ us)) (more (element n xs ts) r)

-- what is kept of trees before what is kept of what follows, r
abbrev pub kept : Answers → (s : Sort) → Tree s → Tree many → Tree many
kept a _ (text_node us) r = joined us r
kept a _ (element n xs ts) r =
    if is_in dropped n then r
    else if is_in listed n then more (element n (kept_attrs a n xs) (kept a many ts none)) r
    else kept a many ts r
kept a _ none r = r
kept a _ (more t ts) r = kept a one t (kept a many ts r)

-- what is kept of a document
abbrev pub cleaned : Answers → Tree many → Tree many
cleaned a ts = kept a many ts none
