-- Where a text is refused, and why.
use Rattle.std.specs.Prelude.{◌≡◌, ℕ, List, ◌∷◌, ◌++◌, ◌&&◌, nat_eq, nat_lt, nat_le, if◌then◌else◌}
use Rattle.std.specs.List.{sum_by}
use Rattle.css_grammar.specs.Sheets.{Text, Rule}
use Rattle.css_grammar.specs.Grammar.{Spells, Begins, StopsAt}

pub data Refusal : Type 0 where
  -- a backslash, with which escapes begin (4.1.3); an `@`, with which at-rules do (4.1.5); anything else
  escape at_rule syntax : Refusal

-- why the unit c is refused, with which no sheet goes on
abbrev pub reason : ℕ → Refusal
reason c = if nat_eq c 92 then escape else if nat_eq c 64 then at_rule else syntax

-- how many bytes a unit takes in UTF-8: a surrogate is half of a character of four
abbrev pub unit_width : ℕ → ℕ
unit_width u = if nat_lt u 128 then 1 else if nat_lt u 2048 then 2 else if nat_le 55296 u && nat_lt u 57344 then 2 else 3

-- how many bytes a text has in UTF-8
abbrev pub width : Text → ℕ
width s = sum_by unit_width s

-- The text s is refused for this reason, which is told of this byte: at its first unit with which no sheet goes on; or at its end, where some sheet goes on behind it
-- and it spells none.
pub data Refused (s : Text) : Refusal → ℕ → Type 0 where
  at_unit : (u : Text) (c : ℕ) (z : Text) → s ≡ u ++ c ∷ z → StopsAt u c → Refused s (reason c) (width u)
  at_end : Begins s → ((rs : List Rule) → Spells rs s → ⊥) → Refused s syntax (width s)
