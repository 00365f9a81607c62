-- What is so of every answer.
use Rattle.std.specs.Prelude.{◌≡◌, ◌⊎◌, ℕ, List, ◌++◌, true, Option, option_map, Ok, codes, ◌<◌, length}
use Rattle.std.specs.Str.{all_scalars}
use Rattle.url.specs.Ascii.{number_sign, question_mark}
use Rattle.url.specs.Input.{trim_c0_control_and_space, strip_tabs_and_new_lines, split_once, lowercase}
use Rattle.url.specs.Parts.{Parts, serialize}
use Rattle.url.specs.Parser.{parse_url, split_scheme}
use Rattle.caja_units.specs.Utf8.{units_of_chars, utf8_of}
use Rattle.url_rule.specs.declared.ask.UriKind.{UriKind}
use Rattle.url_rule.specs.Table.{Row}
use Rattle.url_rule.specs.Reading.{may_be_named}

-- the text of a URL that the text names and that may be named
abbrev pub IsNamed : List Row → UriKind → Option Parts → List ℕ → List ℕ → Type 0
IsNamed rows k base us vs = (u : Parts) × (parse_url base (utf8_of us) ≡ Ok u) × (may_be_named rows k u ≡ true) × (vs ≡ serialize u)

-- `http://` or `https://`, and more
abbrev pub IsOfWeb : List ℕ → Type 0
IsOfWeb vs = (rest : List ℕ) × (0 < length rest) × ((vs ≡ codes "http://" ++ rest) ⊎ (vs ≡ codes "https://" ++ rest))

-- the units are those of characters: no surrogate stands alone
abbrev pub OfChars : List ℕ → Type 0
OfChars us = (cs : List ℕ) × (us ≡ units_of_chars cs) × (all_scalars cs ≡ true)

-- URL Standard, 4.4: what is read of a text: without controls and spaces at its ends, and without tabs and line ends anywhere
abbrev pub read_of : List ℕ → List ℕ
read_of us = strip_tabs_and_new_lines (trim_c0_control_and_space (utf8_of us))

-- the scheme with which a text begins, put in lower case, where it begins with one, before any `#` or `?`
abbrev pub scheme_of : List ℕ → Option (List ℕ)
scheme_of us = option_map (λ s. lowercase s.0) (split_scheme (split_once question_mark (split_once number_sign (read_of us)).0).0)
