-- Where tokens begin a program, and the first token that no program goes on with.
use Rattle.std.specs.Prelude.{◌≡◌, List, [], ◌∷◌, ◌++◌}
use Rattle.es3_tree.specs.Tree as t
use Rattle.es3_tree.specs.Placed.{Placed}
use Rattle.es3_grammar.specs.Spots.{Spot}
use Rattle.es3_grammar.specs.Grammar.{free, Spells}

-- further tokens make a program of them
abbrev pub Begins : List Spot → Type 0
Begins u = (p : Placed t.program) × (z : List Spot) × Spells t.program free 0 p (u ++ z)

-- `token` is the first of the tokens u with which no program goes on, and `rest` what stands behind it
pub record StopsAt (u : List Spot) (token : Spot) (rest : List Spot) : Type 0 where
  pub front : List Spot
  pub parts : u ≡ front ++ token ∷ rest
  pub begins : Begins front
  pub ends : Begins (front ++ token ∷ []) → ⊥
