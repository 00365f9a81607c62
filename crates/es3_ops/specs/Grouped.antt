-- Which tree operands with operators between them make (ES3 11.5 to 11.11) where each operand is a whole part of it: the operators bind by their levels.
use Rattle.std.specs.Prelude.{ℕ, ◌≤◌, List, [], ◌∷◌, ◌++◌}
use Rattle.es3_grammar.specs.Levels.{E, Join, own, left, right, joined}

-- operands, each with the operator behind it
abbrev pub Front : Type 0
Front = List (E × Join)

-- The number is the level that the place asks. Behind the operands with their operators stands the last one, and then the tree.
pub data Grouped : ℕ → Front → E → E → Type 0 where
  alone : (n : ℕ) (x : E) → Grouped n [] x x
  between : (n : ℕ) (front back : Front) (x y a b : E) (j : Join) → n ≤ own j
      → Grouped (left j) front x a → Grouped (right j) back y b → Grouped n (front ++ (x, j) ∷ back) y (joined j a b)
