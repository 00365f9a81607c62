-- How deep a program and its brackets may be: a limit of the tree's nesting, and twice as many brackets open.
use Rattle.std.specs.Prelude.{ℕ, ◌+◌, ◌-◌, ◌*◌, ◌≤◌, max, Bool, ◌||◌, List, [], ◌∷◌, ◌++◌, if◌then◌else◌}
use Rattle.es3_tree.specs.Token.{Token}
use Rattle.es3_tree.specs.Tree as t
use Rattle.es3_tree.specs.Placed.{Placed}
use Rattle.es3_grammar.specs.Spots.{Spot, same_token, open_brace, close_brace, open_paren, close_paren, open_bracket, close_bracket}
use Rattle.es3_grammar.specs.Grammar.{free, Spells}
use Rattle.es3_grammar.specs.Plain.{deep}

abbrev pub opens : Token → Bool
opens r = same_token open_paren r || same_token open_bracket r || same_token open_brace r

abbrev pub shuts : Token → Bool
shuts r = same_token close_paren r || same_token close_bracket r || same_token close_brace r

-- how many brackets are open behind a token, of so many before it
abbrev pub turn : ℕ → Spot → ℕ
turn o c = if opens c.0 then o + 1 else if shuts c.0 then o - 1 else o

-- how many are open behind the tokens
abbrev pub counted : ℕ → List Spot → ℕ
counted o [] = o
counted o (c ∷ u) = counted (turn o c) u

-- the most brackets that are open at once
abbrev pub most : ℕ → List Spot → ℕ
most o [] = o
most o (c ∷ u) = max o (most (turn o c) u)

-- the tokens spell the program within the limit
pub record Within (limit : ℕ) (p : Placed t.program) (u : List Spot) : Type 0 where
  pub spelled : Spells t.program free 0 p u
  pub shallow : deep t.program p ≤ limit
  pub few : most 0 u ≤ 2 * limit

-- further tokens make a program of them, within the limit
abbrev pub BeginsWithin : ℕ → List Spot → Type 0
BeginsWithin limit u = (p : Placed t.program) × (z : List Spot) × Within limit p (u ++ z)
