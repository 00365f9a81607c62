-- Which elements are kept and which attributes, on which elements and with which values.
use Rattle.std.specs.Prelude.{ℕ, List, [], ◌∷◌, Bool, true, false, ◌&&◌, ◌||◌, not, nat_eq, nat_le, nat_lt, Option, Some, None, length, codes, if◌then◌else◌}
use Rattle.std.specs.List.{list_all}
use Rattle.caja_units.specs.Units.{same_units}
use Rattle.html_grammar.specs.Characters.{is_letter, is_digit, begins}
use Rattle.html_grammar.specs.Tables.{is_in}

-- elements that are dropped with their content
abbrev pub dropped : List (List ℕ)
dropped = codes "script" ∷ codes "style" ∷ codes "object" ∷ codes "applet" ∷ codes "iframe" ∷ codes "frameset" ∷ codes "noscript" ∷ codes "title" ∷ []

-- elements that are kept; of all others the content alone is kept
abbrev pub listed : List (List ℕ)
listed =
    codes "a" ∷ codes "b" ∷ codes "blockquote" ∷ codes "br" ∷ codes "button" ∷ codes "code" ∷ codes "div" ∷ codes "em" ∷ codes "h1" ∷ codes "h2" ∷ codes "h3" ∷ codes "h4"
    ∷ codes "h5" ∷ codes "h6" ∷ codes "hr" ∷ codes "i" ∷ codes "img" ∷ codes "input" ∷ codes "label" ∷ codes "li" ∷ codes "ol" ∷ codes "p" ∷ codes "pre" ∷ codes "span"
    ∷ codes "strong" ∷ codes "table" ∷ codes "tbody" ∷ codes "td" ∷ codes "th" ∷ codes "thead" ∷ codes "tr" ∷ codes "u" ∷ codes "ul" ∷ []

-- what an attribute's value may be
pub data Values : Type 0 where
  any word words language size : Values
  one_of : List (List ℕ) → Values
  -- what the rule for URLs answers
  link image : Values

-- an attribute, the elements on which it is kept, and its values
pub record Row : Type 0 where
  pub attr : List ℕ
  -- all elements where none is named
  pub on : List (List ℕ)
  pub values : Values

abbrev pub row : List ℕ → List (List ℕ) → Values → Row
row a o v = record { attr = a; on = o; values = v }

abbrev pub rows : List Row
rows =
    row (codes "id") [] word
    ∷ row (codes "class") [] words
    ∷ row (codes "title") [] any
    ∷ row (codes "alt") (codes "img" ∷ []) any
    ∷ row (codes "value") (codes "input" ∷ codes "button" ∷ []) any
    ∷ row (codes "name") (codes "input" ∷ codes "a" ∷ []) any
    ∷ row (codes "lang") [] language
    ∷ row (codes "dir") [] (one_of (codes "ltr" ∷ codes "rtl" ∷ []))
    ∷ row (codes "href") (codes "a" ∷ []) link
    ∷ row (codes "src") (codes "img" ∷ []) image
    ∷ row (codes "width") (codes "img" ∷ []) size
    ∷ row (codes "height") (codes "img" ∷ []) size
    ∷ row (codes "size") (codes "input" ∷ []) size
    ∷ row (codes "colspan") (codes "td" ∷ codes "th" ∷ []) size
    ∷ row (codes "rowspan") (codes "td" ∷ codes "th" ∷ []) size
    ∷ row (codes "type") (codes "input" ∷ []) (one_of (codes "text" ∷ codes "button" ∷ codes "checkbox" ∷ []))
    ∷ []

-- what stands in a word behind its first letter
abbrev pub is_word_part : ℕ → Bool
is_word_part c = is_letter c || is_digit c || nat_eq c 45 || nat_eq c 95

-- a letter, then letters, digits, `-` and `_`
abbrev pub is_word : List ℕ → Bool
is_word us = begins is_letter us && list_all is_word_part us

-- such words, with one space between them. b: a word begins here
abbrev pub are_words : Bool → List ℕ → Bool
are_words b [] = not b
are_words true (c ∷ us) = is_letter c && are_words false us
are_words false (c ∷ us) = if nat_eq c 32 then are_words true us else is_word_part c && are_words false us

abbrev pub is_language_part : ℕ → Bool
is_language_part c = is_letter c || nat_eq c 45

-- letters and `-`, one at least
abbrev pub is_language : List ℕ → Bool
is_language us = nat_lt 0 (length us) && list_all is_language_part us

-- one to four digits
abbrev pub is_size : List ℕ → Bool
is_size us = nat_lt 0 (length us) && nat_le (length us) 4 && list_all is_digit us

-- the rule for URLs: what stands in place of a URL as a link, and as an image, and nothing where it is dropped
pub record Answers : Type 0 where
  pub for_link : List ℕ → Option (List ℕ)
  pub for_image : List ℕ → Option (List ℕ)

-- the rule that drops every URL
abbrev pub no_urls : Answers
no_urls = record { for_link = λ us. None; for_image = λ us. None }

abbrev pub if_so : Bool → List ℕ → Option (List ℕ)
if_so b us = if b then Some us else None

-- the value that is kept of a value, if one is
abbrev pub kept_value : Answers → Values → List ℕ → Option (List ℕ)
kept_value a any us = Some us
kept_value a word us = if_so (is_word us) us
kept_value a words us = if_so (are_words true us) us
kept_value a language us = if_so (is_language us) us
kept_value a size us = if_so (is_size us) us
kept_value a (one_of ws) us = if_so (is_in ws us) us
kept_value a link us = a.for_link us
kept_value a image us = a.for_image us

-- whether a row is about elements of this name
abbrev pub is_on : List (List ℕ) → List ℕ → Bool
is_on [] n = true
is_on (m ∷ ms) n = is_in (m ∷ ms) n

-- the value that is kept of the attribute x on the element n, by the row with its name
abbrev pub value_in : List Row → Answers → List ℕ → List ℕ → List ℕ → Option (List ℕ)
value_in [] a n x us = None
value_in (r ∷ rs) a n x us = if same_units x r.attr then (if is_on r.on n then kept_value a r.values us else None) else value_in rs a n x us

abbrev pub attr_value : Answers → List ℕ → List ℕ → List ℕ → Option (List ℕ)
attr_value a n x us = value_in rows a n x us
