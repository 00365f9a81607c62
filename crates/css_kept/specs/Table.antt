-- Which properties are kept, with which values.
use Rattle.std.specs.Prelude.{ℕ, ◌-◌, List, [], ◌∷◌, ◌++◌, Bool, true, false, ◌&&◌, ◌||◌, not, nat_eq, nat_le, nat_lt, Option, Some, None, length, take, drop, codes, if◌then◌else◌}
use Rattle.std.specs.List.{list_all, prefix_len, starts_with}
use Rattle.caja_units.specs.Units.{same_units}
use Rattle.css_grammar.specs.Characters.{Class, class, space, digit, is_hex}
use Rattle.css_grammar.specs.Sheets.{Text}

unfoldable pub is_in : List Text → Text → Bool
is_in [] s = false
is_in (x ∷ xs) s = if same_units s x then true else is_in xs s

-- the rule for URLs: what stands in place of a URL of a sheet, and nothing where it is dropped
pub record Answers : Type 0 where
  pub for_style : Text → Option Text

-- the rule that drops every URL
abbrev pub no_urls : Answers
no_urls = record { for_style = λ u. None }

-- what the values of a property may be
pub data Values : Type 0 where
  colour image a_length : Values
  -- one to four lengths
  lengths : Values
  one_of : List Text → Values

pub record Row : Type 0 where
  pub property : Text
  pub values : Values

abbrev pub row : Text → Values → Row
row p v = record { property = p; values = v }

-- properties of CSS 2.1, 8 (boxes), 9 and 10 (display, width, height), 14 (colours), 15 (fonts) and 16 (text)
abbrev pub rows : List Row
rows =
    row (codes "color") colour
    ∷ row (codes "background-color") colour
    ∷ row (codes "border-color") colour
    ∷ row (codes "background-image") image
    ∷ row (codes "margin") lengths
    ∷ row (codes "padding") lengths
    ∷ row (codes "margin-top") a_length
    ∷ row (codes "margin-right") a_length
    ∷ row (codes "margin-bottom") a_length
    ∷ row (codes "margin-left") a_length
    ∷ row (codes "padding-top") a_length
    ∷ row (codes "padding-right") a_length
    ∷ row (codes "padding-bottom") a_length
    ∷ row (codes "padding-left") a_length
    ∷ row (codes "width") a_length
    ∷ row (codes "height") a_length
    ∷ row (codes "font-size") a_length
    ∷ row (codes "border-width") a_length
    ∷ row (codes "font-weight") (one_of (codes "normal" ∷ codes "bold" ∷ []))
    ∷ row (codes "font-style") (one_of (codes "normal" ∷ codes "italic" ∷ []))
    ∷ row (codes "text-align") (one_of (codes "left" ∷ codes "right" ∷ codes "center" ∷ codes "justify" ∷ []))
    ∷ row (codes "text-decoration") (one_of (codes "none" ∷ codes "underline" ∷ []))
    ∷ row (codes "display") (one_of (codes "none" ∷ codes "block" ∷ codes "inline" ∷ []))
    ∷ row (codes "border-style") (one_of (codes "none" ∷ codes "solid" ∷ codes "dotted" ∷ codes "dashed" ∷ []))
    ∷ []

abbrev pub colours : List Text
colours =
    codes "black" ∷ codes "silver" ∷ codes "gray" ∷ codes "white" ∷ codes "maroon" ∷ codes "red" ∷ codes "purple" ∷ codes "fuchsia"
    ∷ codes "green" ∷ codes "lime" ∷ codes "olive" ∷ codes "yellow" ∷ codes "navy" ∷ codes "blue" ∷ codes "teal" ∷ codes "aqua" ∷ []

abbrev pub is_hex_digit : ℕ → Bool
is_hex_digit c = is_hex (class c)

-- `#` and 3 or 6 hexadecimal digits (4.3.6)
abbrev pub is_hash : Text → Bool
is_hash [] = false
is_hash (c ∷ s) = nat_eq c 35 && list_all is_hex_digit s && (nat_eq (length s) 3 || nat_eq (length s) 6)

-- a name of the 16 of HTML 4.01, or `#` and digits
abbrev pub is_colour : Text → Bool
is_colour v = is_in colours v || is_hash v

abbrev pub units : List Text
units = codes "px" ∷ codes "em" ∷ codes "ex" ∷ codes "pt" ∷ codes "%" ∷ []

abbrev pub is_digit_class : Class → Bool
is_digit_class digit = true
is_digit_class _ = false

abbrev pub is_digit : ℕ → Bool
is_digit c = is_digit_class (class c)

-- how many decimal digits stand first
abbrev pub digits : Text → ℕ
digits v = prefix_len is_digit v

-- a point, digits, and a unit
abbrev pub is_fraction : Text → Bool
is_fraction [] = false
is_fraction (c ∷ s) = nat_eq c 46 && nat_lt 0 (digits s) && is_in units (drop (digits s) s)

-- `0`; or digits, a unit, and between them maybe a point and digits (4.3.2, 4.3.3)
abbrev pub is_length : Text → Bool
is_length v = same_units v (codes "0") || (nat_lt 0 (digits v) && (is_in units (drop (digits v) v) || is_fraction (drop (digits v) v)))

-- ---- URLs (4.3.4)

abbrev pub is_space_class : Class → Bool
is_space_class (space h) = true
is_space_class _ = false

abbrev pub is_space : ℕ → Bool
is_space c = is_space_class (class c)

abbrev pub reversed : Text → Text → Text
reversed [] r = r
reversed (c ∷ s) r = reversed s (c ∷ r)

-- without white space at the beginning, and at both ends
abbrev pub trimmed_front : Text → Text
trimmed_front s = drop (prefix_len is_space s) s

abbrev pub trimmed : Text → Text
trimmed s = reversed (trimmed_front (reversed (trimmed_front s) [])) []

-- whether this unit stands nowhere in a text
abbrev pub is_without : ℕ → Text → Bool
is_without q s = list_all (λ c. not (nat_eq c q)) s

-- without the quotes, where it is one text in quotes
abbrev pub unquoted : Text → Text
unquoted [] = []
unquoted (q ∷ s) =
    let m = take (length s - 1) s in
    if (nat_eq q 34 || nat_eq q 39) && same_units (m ++ q ∷ []) s && is_without q m then m else q ∷ s

-- the URL that stands between the parentheses of `url(..)`
abbrev pub link : Text → Text
link v = let s = drop 4 v in unquoted (trimmed (take (length s - 1) s))

-- an answer in double quotes, where it has none itself
abbrev pub printed_link : Option Text → Option (List Text)
printed_link None = None
printed_link (Some u) = if is_without 34 u then Some ((codes "url(\"" ++ u ++ codes "\")") ∷ []) else None

-- ---- values

abbrev pub if_so : Bool → List Text → Option (List Text)
if_so b vs = if b then Some vs else None

-- whether there is one value, which passes
abbrev pub one : (Text → Bool) → List Text → Bool
one p (v ∷ []) = p v
one p _ = false

-- `none`, or what the rule answers for a URL
abbrev pub image_of : Answers → List Text → Option (List Text)
image_of a (v ∷ []) = if same_units v (codes "none") then Some (v ∷ []) else if starts_with nat_eq v (codes "url(") then printed_link (a.for_style (link v)) else None
image_of a _ = None

-- the values that are kept of values, if they are
abbrev pub kept_values : Answers → Values → List Text → Option (List Text)
kept_values a colour vs = if_so (one is_colour vs) vs
kept_values a image vs = image_of a vs
kept_values a a_length vs = if_so (one is_length vs) vs
kept_values a lengths vs = if_so (nat_lt 0 (length vs) && nat_le (length vs) 4 && list_all is_length vs) vs
kept_values a (one_of ws) vs = if_so (one (is_in ws) vs) vs

-- by the row with the property's name
abbrev pub values_in : List Row → Answers → Text → List Text → Option (List Text)
values_in [] a n vs = None
values_in (r ∷ rs) a n vs = if same_units n r.property then kept_values a r.values vs else values_in rs a n vs
