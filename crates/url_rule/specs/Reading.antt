-- What a rule answers for a text that names a URL.
use Rattle.std.specs.Prelude.{ℕ, List, Bool, false, ◌&&◌, ◌||◌, not, nat_eq, nat_le, nat_lt, length, drop, slice_index, bytes_eq, codes, Option, Some, None, Result, Ok, Err, if◌then◌else◌}
use Rattle.std.specs.List.{list_all}
use Rattle.url.specs.declared.error.ParseError.{ParseError}
use Rattle.url.specs.Host.{host_text}
use Rattle.url.specs.Parts.{Parts, host_or_empty, has_host, serialize}
use Rattle.url.specs.Parser.{parse_url}
use Rattle.caja_units.specs.Utf8.{utf8_of}
use Rattle.url_rule.specs.declared.ask.UriKind.{UriKind}
use Rattle.url_rule.specs.declared.ask.UriKind.TheVariants.{Link, Image, Style}
use Rattle.url_rule.specs.Table.{Row, allows}

-- a letter, a digit, `-` or `_`
abbrev pub is_name_part : ℕ → Bool
is_name_part c = (nat_le 97 c && nat_le c 122) || (nat_le 65 c && nat_le c 90) || (nat_le 48 c && nat_le c 57) || nat_eq c 45 || nat_eq c 95

-- RFC 3986, 4.4: a place in the same document: `#` and such characters, one at least
abbrev pub is_place : List ℕ → Bool
is_place us = nat_lt 1 (length us) && (nat_eq (slice_index us 0) 35 && list_all is_name_part (drop 1 us))

-- a link to a place in the same document stays as it is
abbrev pub stays : UriKind → List ℕ → Bool
stays Link us = is_place us
stays Image us = false
stays Style us = false

-- a character of ASCII that is printed, other than the space
abbrev pub is_shown : ℕ → Bool
is_shown b = nat_lt 32 b && nat_lt b 127

-- what may stand in an answer: in a sheet a backslash begins an escape (CSS 2.1, 4.1.3)
abbrev pub may_stand : UriKind → ℕ → Bool
may_stand Link b = is_shown b
may_stand Image b = is_shown b
may_stand Style b = is_shown b && not (nat_eq b 92)

-- RFC 9110, 4.2.1 and 4.2.2
abbrev pub is_web : List ℕ → Bool
is_web scheme = bytes_eq scheme (codes "http") || bytes_eq scheme (codes "https")

-- a URL that may be named: of the web, with a host (URL Standard, 3.1), allowed by the table
abbrev pub may_be_named : List Row → UriKind → Parts → Bool
may_be_named rows k u = is_web u.scheme && (has_host u && allows rows k u.scheme (host_text (host_or_empty u)))

-- URL Standard, 4.5: the text of the URL
abbrev pub of_url : List Row → UriKind → Parts → Option (List ℕ)
of_url rows k u = if may_be_named rows k u && list_all (may_stand k) (serialize u) then Some (serialize u) else None

abbrev pub of_parsed : List Row → UriKind → Result Parts ParseError → Option (List ℕ)
of_parsed rows k (Ok u) = of_url rows k u
of_parsed rows k (Err e) = None

-- URL Standard, 4.4: the text is read as a URL, joined to the base where there is one (RFC 3986, 5.2)
abbrev pub read : List Row → UriKind → Option Parts → List ℕ → Option (List ℕ)
read rows k base us = if stays k us then Some us else of_parsed rows k (parse_url base (utf8_of us))
