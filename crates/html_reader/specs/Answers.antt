-- What is answered for a text of bytes: its trees, or where it is refused.
use Rattle.std.specs.Prelude.{◌≡◌, ℕ, List, true, false, Result, Ok, Err}
use Rattle.std.specs.Global.{Vec}
use Rattle.std.specs.Str.{chars, is_utf8}
use Rattle.std.specs.Str.Lossy.{utf8_valid_len}
use Rattle.html_grammar.specs.Tags as t
use Rattle.html_grammar.specs.Document.{Spells}
use Rattle.html_grammar.specs.Refusals.{Refused}
use Rattle.html_tree.specs.declared.Html.{Html}
use Rattle.html_tree.specs.declared.HtmlError.{HtmlError}
use Rattle.html_tree.specs.declared.HtmlError.TheVariants as e
use Rattle.html_tree.specs.Views.{trees}

-- the bytes are UTF-8, and their characters are refused for this reason, which is told of this byte
abbrev pub RefusedAt : t.Refusal → ℕ → List ℕ → Type 0
RefusedAt x p bytes = (is_utf8 bytes ≡ true) × Refused x p (chars bytes)

abbrev pub RefusedSo : HtmlError → List ℕ → Type 0
RefusedSo (e.NotUtf8 p) bytes = (is_utf8 bytes ≡ false) × (p ≡ utf8_valid_len bytes)
RefusedSo (e.OpenTag p) bytes = RefusedAt t.open_tag p bytes
RefusedSo (e.Mismatch p) bytes = RefusedAt t.mismatch p bytes
RefusedSo (e.BadReference p) bytes = RefusedAt t.bad_reference p bytes
RefusedSo (e.BadAttr p) bytes = RefusedAt t.bad_attr p bytes
RefusedSo (e.TooDeep p) bytes = RefusedAt t.too_deep p bytes
RefusedSo e.Memory bytes = Unit {0}

-- the bytes are UTF-8 and their characters spell these trees, or they are so refused, unless memory is wanting
abbrev pub IsRead : Result (Vec Html) HtmlError → List ℕ → Type 0
IsRead (Ok v) bytes = (is_utf8 bytes ≡ true) × Spells (trees v.items) (chars bytes)
IsRead (Err e) bytes = RefusedSo e bytes
