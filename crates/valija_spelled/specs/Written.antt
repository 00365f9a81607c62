-- Trees that tokens spell, and by how many.
use Rattle.std.specs.Prelude.{ℕ, ◌≤◌, List, length}
use Rattle.es3_tree.specs.Tree as t
use Rattle.es3_tree.specs.Placed as p
use Rattle.es3_tree.specs.Placed.{Placed}
use Rattle.es3_grammar.specs.Spots.{Spot}
use Rattle.es3_grammar.specs.Grammar.{free, Spells}
use Rattle.es3_printed.specs.Back.{AreTokens}

-- some tokens spell the program, this many at most
pub record IsWritten (body : Placed t.stmts) (most : ℕ) : Type 0 where
  pub by : List Spot
  pub spelled : Spells t.program free 0 (p.script body) by
  pub tokens : AreTokens by
  pub few : length by ≤ most
