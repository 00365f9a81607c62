-- Why a source spells no program within its limits, with the number of the refusal in its stage and the byte of the source.
use Rattle.std.specs.Prelude.{ℕ, ◌≡◌, List, length, Ok, Err}
use Rattle.es3_tokens.specs.Refusals as lex
use Rattle.es3_tokens.specs.Tokens as tokens
use Rattle.es3_tokens.specs.Cut as cut
use Rattle.es3_grammar.specs.Spots.{Spot, spots}
use Rattle.es3_grammar.specs.Limit.{BeginsWithin}
use Rattle.es3_grammar.specs.Within.{RefusedAt, DeepAt}
use Rattle.es3_stmt.specs.Told.{NoProgram}
use Rattle.page_cajole.specs.declared.source.Limits.{Limits}
use Rattle.page_cajole.specs.Source.{lex_number}

-- the stage `lex`: it isn't cut into tokens
pub data IsUncut (l : Limits) (source : List ℕ) : ℕ → ℕ → Type 0 where
  uncut_at : (r : lex.Refusal) (at : ℕ) → cut.cut l.longest source ≡ Err (r, at) → IsUncut l source (lex_number r) at

-- the stage `read`: it is cut into tokens, and they spell no program within the limits
pub data IsUnread (l : Limits) (source : List ℕ) : ℕ → ℕ → Type 0 where
  -- 1: c is the first of them with which no program goes on, and those before it begin one within the limits: the byte where c begins
  refused_at : (ts : List tokens.Placed) (c : Spot) (k : List Spot) → cut.cut l.longest source ≡ Ok ts → RefusedAt l.deepest (spots ts) c k → IsUnread l source 1 c.1
  -- 1: they begin a program within the limits, and spell none within them: the source's length
  breaks_off : (ts : List tokens.Placed) → cut.cut l.longest source ≡ Ok ts → BeginsWithin l.deepest (spots ts) → NoProgram l.deepest (spots ts) → IsUnread l source 1 (length source)
  -- 2: c is the first of them with which only programs past the limits go on, and those before it begin one within them: 0
  deep_at : (ts : List tokens.Placed) (c : Spot) (k : List Spot) → cut.cut l.longest source ≡ Ok ts → DeepAt l.deepest (spots ts) c k → IsUnread l source 2 0
