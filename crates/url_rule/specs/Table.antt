-- What a table of rows answers.
use Rattle.std.specs.Prelude.{ℕ, List, ◌∷◌, Bool, true, false, ◌&&◌, ◌||◌, nat_eq, Option, Some, None, option_map, map, string_bytes, bytes_eq, if◌then◌else◌}
use Rattle.std.specs.List.{ends_with, list_any}
use Rattle.url_rule.specs.declared.ask.UriKind.{UriKind}
use Rattle.url_rule.specs.declared.ask.UriKind.TheVariants.{Link, Image, Style}
use Rattle.url_rule.specs.declared.ask.UriVerdict.{UriVerdict}
use Rattle.url_rule.specs.declared.ask.UriVerdict.TheVariants.{Allow, Deny}
use Rattle.url_rule.specs.declared.ask.UriRow.{UriRow}

-- a row, its texts as lists of bytes
pub record Row : Type 0 where
  pub kind : Option UriKind
  pub scheme : List ℕ
  pub host : Option (List ℕ)
  pub sub : Bool

abbrev pub row_of : UriRow → Row
row_of r = record { kind = r.kind; scheme = string_bytes r.scheme; host = option_map string_bytes r.host; sub = r.sub }

abbrev pub rows_of : List UriRow → List Row
rows_of rs = map row_of rs

abbrev pub same_kind : UriKind → UriKind → Bool
same_kind Link Link = true
same_kind Link Image = false
same_kind Link Style = false
same_kind Image Link = false
same_kind Image Image = true
same_kind Image Style = false
same_kind Style Link = false
same_kind Style Image = false
same_kind Style Style = true

-- a row without a kind is of each
abbrev pub is_of_kind : Option UriKind → UriKind → Bool
is_of_kind None k = true
is_of_kind (Some j) k = same_kind j k

-- RFC 1034, 3.1: a host is below another where its name ends in a point and the name of the other
abbrev pub is_below : List ℕ → List ℕ → Bool
is_below h host = ends_with nat_eq host (46 ∷ h)

-- a row without a host is of each
abbrev pub is_of_host : Bool → Option (List ℕ) → List ℕ → Bool
is_of_host sub None host = true
is_of_host sub (Some h) host = bytes_eq host h || (sub && is_below h host)

-- RFC 3986, 3.1 and 3.2.2: the scheme and the host of a URL, as it was read, are those of the row
abbrev pub matches : Row → UriKind → List ℕ → List ℕ → Bool
matches r k scheme host = is_of_kind r.kind k && (bytes_eq scheme r.scheme && is_of_host r.sub r.host host)

-- a row of the table matches
abbrev pub allows : List Row → UriKind → List ℕ → List ℕ → Bool
allows rows k scheme host = list_any (λ r. matches r k scheme host) rows

abbrev pub verdict_of : Bool → UriVerdict
verdict_of b = if b then Allow else Deny

abbrev pub verdict : List Row → UriKind → List ℕ → List ℕ → UriVerdict
verdict rows k scheme host = verdict_of (allows rows k scheme host)
