-- What is answered where tokens are read within a limit: the program, or why there is none.
use Rattle.std.specs.Prelude.{ℕ, List, [], ◌∷◌}
use Rattle.es3_tree.specs.Tree as t
use Rattle.es3_tree.specs.Placed.{Placed}
use Rattle.es3_tokens.specs.Tokens as tokens
use Rattle.es3_grammar.specs.Spots.{Spot, spots}
use Rattle.es3_grammar.specs.Within.{Reading, program, broken, refused, too_deep, read_within}

pub data Answer : Type 0 where
  read : Placed t.program → Answer
  -- no program goes on with the token there, or the tokens break off
  syntax : ℕ → Answer
  -- only programs past the limit go on with some token
  deep : Answer

-- where the first of the tokens begins; where there is none, the end of the source
abbrev pub place : ℕ → List Spot → ℕ
place end [] = end
place end (c ∷ u) = c.1

abbrev pub answer_of : ℕ → Reading → Answer
answer_of end (program p) = read p
answer_of end broken = syntax end
answer_of end (refused u) = syntax (place end u)
answer_of end (too_deep u) = deep

-- of the tokens of a source that has `end` bytes
abbrev pub answer : ℕ → ℕ → List tokens.Placed → Answer
answer limit end ts = answer_of end (read_within limit (spots ts))
