-- Reading back: the printed text of a tree is cut into tokens that spell the tree.
use Rattle.std.specs.Prelude.{ℕ, ◌≡◌, ◌≤◌, List, length, Ok}
use Rattle.std.specs.List.{All}
use Rattle.es3_tree.specs.Tree as t
use Rattle.es3_tree.specs.Placed.{Placed}
use Rattle.es3_tree.specs.Measure.{nest}
use Rattle.es3_tokens.specs.Tokens as tokens
use Rattle.es3_tokens.specs.Back.{IsToken}
use Rattle.es3_tokens.specs.Cut as cut
use Rattle.es3_grammar.specs.Spots.{Spot}
use Rattle.es3_grammar.specs.Grammar.{Spells, free, spells}
use Rattle.es3_grammar.specs.Plain.{plain}
use Rattle.es3_grammar.specs.Answers.{answer, read}
use Rattle.es3_printed.specs.Tokens.{printed}

abbrev pub AreTokens : List Spot → Type 0
AreTokens u = All (λ c. IsToken c.0) u

-- some tokens spell the tree, apart from its places
pub record IsSpelled (p : t.Tree t.program) : Type 0 where
  pub tree : Placed t.program
  pub by : List Spot
  pub same : plain t.program tree ≡ p
  pub spelled : Spells t.program free 0 tree by
  pub tokens : AreTokens by

-- the printed text is cut into tokens, where its length is allowed; these spell the tree apart from its places, and are read as it where its nesting is
-- allowed: the parentheses that are printed never need more
pub record IsReadBack (p : t.Tree t.program) : Type 0 where
  pub by : List tokens.Placed
  pub tree : Placed t.program
  pub cut : (limit : ℕ) → length (printed p) ≤ limit → cut.cut limit (printed p) ≡ Ok by
  pub same : plain t.program tree ≡ p
  pub spelled : spells tree by
  pub read : (limit end : ℕ) → nest t.program p ≤ limit → answer limit end by ≡ read tree
