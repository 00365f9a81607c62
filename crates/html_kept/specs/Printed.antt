-- How trees of HTML are written: in UTF-8, with references for `&`, `<` and `>`, and in values for `"`.
use Rattle.std.specs.Prelude.{ℕ, Bool, ◌&&◌, ◌||◌, not, List, [], ◌∷◌, ◌++◌, nat_eq, codes, if◌then◌else◌}
use Rattle.std.specs.List.{flat_map}
use Rattle.caja_units.specs.Utf8.{utf8_of}
use Rattle.html_grammar.specs.Tables.{is_in, void}
use Rattle.html_grammar.specs.Tags.{Attr}
use Rattle.html_grammar.specs.Trees.{Sort, one, many, Tree, text_node, element, none, more}

-- a byte of a text
abbrev pub shown : ℕ → List ℕ
shown b = if nat_eq b 38 then codes "&amp;" else if nat_eq b 60 then codes "&lt;" else if nat_eq b 62 then codes "&gt;" else b ∷ []

-- a byte of a value
abbrev pub shown_value : ℕ → List ℕ
shown_value b = if nat_eq b 34 then codes "&quot;" else shown b

abbrev pub printed_text : List ℕ → List ℕ
printed_text us = flat_map shown (utf8_of us)

abbrev pub printed_value : List ℕ → List ℕ
printed_value us = flat_map shown_value (utf8_of us)

-- neither `<` nor `>`
abbrev pub is_no_mark : ℕ → Bool
is_no_mark b = not (nat_eq b 60 || nat_eq b 62)

-- nor `"`
abbrev pub is_no_quote : ℕ → Bool
is_no_quote b = not (nat_eq b 34) && is_no_mark b

abbrev pub printed_attr : Attr → List ℕ
printed_attr x = codes " " ++ (utf8_of x.name ++ (codes "=\"" ++ (printed_value x.value ++ codes "\"")))

abbrev pub printed_attrs : List Attr → List ℕ
printed_attrs xs = flat_map printed_attr xs

abbrev pub start_tag : List ℕ → List Attr → List ℕ
start_tag n xs = codes "<" ++ (utf8_of n ++ (printed_attrs xs ++ codes ">"))

abbrev pub end_tag : List ℕ → List ℕ
end_tag n = codes "</" ++ (utf8_of n ++ codes ">")

-- tags without content have no end tag
abbrev pub printed : (s : Sort) → Tree s → List ℕ
printed _ (text_node us) = printed_text us
printed _ (element n xs ts) = start_tag n xs ++ (if is_in void n then [] else printed many ts ++ end_tag n)
printed _ none = []
printed _ (more t ts) = printed one t ++ printed many ts
