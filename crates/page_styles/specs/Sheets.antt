-- What is written for the sheets of a page, or the number of what refuses one and the byte of which that is told.
use Rattle.std.specs.Prelude.{◌≡◌, ◌↔◌, ℕ, ◌-◌, List, [], ◌∷◌, true, false, Ok, Err, if◌then◌else◌}
use Rattle.std.specs.Str.{chars, is_utf8}
use Rattle.std.specs.Str.Lossy.{utf8_valid_len}
use Rattle.caja_units.specs.Utf8.{units_of_chars}
use Rattle.css_grammar.specs.Sheets.{Text, Rule}
use Rattle.css_grammar.specs.Grammar.{Spells}
use Rattle.css_grammar.specs.Refusals.{Refusal, escape, at_rule, syntax, reason, width, Refused}
use Rattle.css_grammar.specs.Machine.{Answer, sheet, part, stopped, read}
use Rattle.css_kept.specs.Table.{Answers}
use Rattle.css_kept.specs.Kept.{cleaned}
use Rattle.css_kept.specs.Printed.{printed}
use Rattle.page_manifest.specs.Faults.{Found, chain}
use Rattle.page_manifest.specs.Walk.{traverse}
use Rattle.page_manifest.specs.Page.{Style}

abbrev pub number_of : Refusal → ℕ
number_of syntax = 1
number_of escape = 2
number_of at_rule = 3

-- its sheet; or a unit with which no sheet goes on, or its end, refuses it
abbrev pub of_answer : Text → Answer → Found (List Rule)
of_answer s (sheet rs) = Ok rs
of_answer s part = Err (number_of syntax, width s)
of_answer s (stopped []) = Err (number_of syntax, width s)
of_answer s (stopped (c ∷ rest)) = Err (number_of (reason c), width s - width (c ∷ rest))

abbrev pub text_of : List ℕ → Text
text_of bytes = units_of_chars (chars bytes)

-- the sheet that bytes spell in UTF-8
abbrev pub sheet_of : List ℕ → Found (List Rule)
sheet_of bytes = if is_utf8 bytes then of_answer (text_of bytes) (read (text_of bytes)) else Err (number_of syntax, utf8_valid_len bytes)

-- `#` and the id of the element that the sheet is for (CSS 2.1, 5.9)
abbrev pub scope_of : Style → Text
scope_of s = 35 ∷ s.root

-- what is kept of a sheet, behind its scope, as it is written
abbrev pub written : Answers → Style → List Rule → List ℕ
written a s rs = printed (cleaned a (scope_of s) rs)

abbrev pub style_of : Answers → Style → Found (List ℕ)
style_of a s = chain (sheet_of s.css) (λ rs. Ok (written a s rs))

-- one after another
abbrev pub styles_of : Answers → List Style → Found (List (List ℕ))
styles_of a ss = traverse (λ _. style_of a) 0 ss

-- the bytes are UTF-8 and spell a sheet, and this is written of what is kept of it
pub record Writes (a : Answers) (s : Style) (bytes : List ℕ) : Type 0 where
  pub utf8 : is_utf8 s.css ≡ true
  pub rules : List Rule
  pub spelled : Spells rules (text_of s.css)
  pub written : bytes ≡ written a s rules

-- this refuses the bytes, and that is told of this byte
pub data IsRefused (bytes : List ℕ) : ℕ → ℕ → Type 0 where
  no_utf8 : is_utf8 bytes ≡ false → IsRefused bytes (number_of syntax) (utf8_valid_len bytes)
  no_sheet : (x : Refusal) (p : ℕ) → is_utf8 bytes ≡ true → Refused (text_of bytes) x p → IsRefused bytes (number_of x) p

-- something is written for a sheet just where it is kept of what its bytes spell, and it is refused just where the grammar refuses it
pub record IsStyle (a : Answers) (s : Style) : Type 0 where
  pub where_written : (bytes : List ℕ) → (style_of a s ≡ Ok bytes) ↔ Writes a s bytes
  pub where_refused : (number at : ℕ) → (style_of a s ≡ Err (number, at)) ↔ IsRefused s.css number at
