-- The trees that a text of HTML is cleaned to, or the number of what refuses it and the byte of which that is told.
use Rattle.std.specs.Prelude.{◌≡◌, ◌↔◌, ℕ, List, true, false, Ok, Err, if◌then◌else◌}
use Rattle.std.specs.Str.{chars, is_utf8}
use Rattle.std.specs.Str.Lossy.{utf8_valid_len}
use Rattle.html_grammar.specs.Tags.{Refusal, open_tag, mismatch, bad_reference, bad_attr, too_deep}
use Rattle.html_grammar.specs.Trees.{Tree, many}
use Rattle.html_grammar.specs.Document.{Spells}
use Rattle.html_grammar.specs.Refusals.{Refused}
use Rattle.html_grammar.specs.Reading.{Answer, trees, refused, read}
use Rattle.html_kept.specs.Table.{Answers}
use Rattle.html_kept.specs.Kept.{cleaned}
use Rattle.page_manifest.specs.Faults.{Found}

-- bytes that are no UTF-8
abbrev pub not_utf8 : ℕ
not_utf8 = 1

abbrev pub number_of : Refusal → ℕ
number_of open_tag = 2
number_of mismatch = 3
number_of bad_reference = 4
number_of bad_attr = 5
number_of too_deep = 6

-- what is kept of what was read, with what the rule for URLs answers
abbrev pub kept_of : Answers → Answer → Found (Tree many)
kept_of a (trees ts) = Ok (cleaned a ts)
kept_of a (refused x p) = Err (number_of x, p)

abbrev pub clean_of : Answers → List ℕ → Found (Tree many)
clean_of a bytes = if is_utf8 bytes then kept_of a (read (chars bytes)) else Err (not_utf8, utf8_valid_len bytes)

-- the bytes are UTF-8 and spell trees, and this is what is kept of those
pub record Cleans (a : Answers) (bytes : List ℕ) (ts : Tree many) : Type 0 where
  pub utf8 : is_utf8 bytes ≡ true
  pub source : Tree many
  pub spelled : Spells source (chars bytes)
  pub kept : ts ≡ cleaned a source

-- this refuses the bytes, and that is told of this byte
pub data IsRefused (bytes : List ℕ) : ℕ → ℕ → Type 0 where
  no_utf8 : is_utf8 bytes ≡ false → IsRefused bytes not_utf8 (utf8_valid_len bytes)
  no_html : (x : Refusal) (p : ℕ) → is_utf8 bytes ≡ true → Refused x p (chars bytes) → IsRefused bytes (number_of x) p

-- a text is cleaned to these trees just where they are kept of the ones that it spells, and refused just where it is so refused
pub record IsHtml (a : Answers) (bytes : List ℕ) : Type 0 where
  pub where_cleaned : (ts : Tree many) → (clean_of a bytes ≡ Ok ts) ↔ Cleans a bytes ts
  pub where_refused : (number at : ℕ) → (clean_of a bytes ≡ Err (number, at)) ↔ IsRefused bytes number at
