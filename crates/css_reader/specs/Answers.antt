-- What is answered for a text of bytes: its sheet, or where it is refused.
use Rattle.std.specs.Prelude.{◌≡◌, ◌⊎◌, ℕ, List, true, false, Result, Ok, Err}
use Rattle.std.specs.Str.{chars, is_utf8}
use Rattle.std.specs.Str.Lossy.{utf8_valid_len}
use Rattle.caja_units.specs.Utf8.{units_of_chars}
use Rattle.css_grammar.specs.Grammar.{Spells}
use Rattle.css_grammar.specs.Refusals.{Refusal, escape, at_rule, syntax, Refused}
use Rattle.css_tree.specs.declared.Css.{Css}
use Rattle.css_tree.specs.declared.CssError.{CssError}
use Rattle.css_tree.specs.declared.CssError.TheVariants as e
use Rattle.css_tree.specs.Views.{sheet_of}

-- the bytes are UTF-8, and their text is refused for this reason, which is told of this byte
abbrev pub RefusedAt : Refusal → ℕ → List ℕ → Type 0
RefusedAt x p bytes = (is_utf8 bytes ≡ true) × Refused (units_of_chars (chars bytes)) x p

abbrev pub RefusedSo : CssError → List ℕ → Type 0
RefusedSo (e.Syntax p) bytes = ((is_utf8 bytes ≡ false) × (p ≡ utf8_valid_len bytes)) ⊎ RefusedAt syntax p bytes
RefusedSo (e.Escape p) bytes = RefusedAt escape p bytes
RefusedSo (e.AtRule p) bytes = RefusedAt at_rule p bytes
RefusedSo e.Memory bytes = Unit {0}

-- the bytes are UTF-8 and their text spells this sheet, or they are so refused, unless memory is wanting
abbrev pub IsRead : Result Css CssError → List ℕ → Type 0
IsRead (Ok c) bytes = (is_utf8 bytes ≡ true) × Spells (sheet_of c) (units_of_chars (chars bytes))
IsRead (Err r) bytes = RefusedSo r bytes
