-- What waits behind a list of operands and operators: the operators whose right parts end with the list, the innermost first, each with its left part.
use Rattle.std.specs.Prelude.{ℕ, ◌+◌, max, List, [], ◌∷◌, map, nat_le, if◌then◌else◌}
use Rattle.es3_tree.specs.Tree as t
use Rattle.es3_grammar.specs.Levels.{E, Join, own, joined}
use Rattle.es3_grammar.specs.Plain.{deep}

-- a part within those of this level or above, and what waits round these
abbrev pub closed : ℕ → List (Join × E) → E → E
closed n [] x = x
closed n (p ∷ w) x = if nat_le n (own p.0) then closed n w (joined p.0 p.1 x) else x

abbrev pub outside : ℕ → List (Join × E) → List (Join × E)
outside n [] = []
outside n (p ∷ w) = if nat_le n (own p.0) then outside n w else p ∷ w

-- behind one operand more and the operator behind it; behind a list of these
abbrev pub waiting_behind : List (Join × E) → E → Join → List (Join × E)
waiting_behind w x j = (j, closed (own j) w x) ∷ outside (own j) w

abbrev pub waiting : List (Join × E) → List (E × Join) → List (Join × E)
waiting w [] = w
waiting w (p ∷ ps) = waiting (waiting_behind w p.0 p.1) ps

-- the same of levels and nestings alone
abbrev pub closed_depth : ℕ → List (ℕ × ℕ) → ℕ → ℕ
closed_depth n [] d = d
closed_depth n (p ∷ w) d = if nat_le n p.0 then closed_depth n w (1 + max p.1 d) else d

abbrev pub outside_depths : ℕ → List (ℕ × ℕ) → List (ℕ × ℕ)
outside_depths n [] = []
outside_depths n (p ∷ w) = if nat_le n p.0 then outside_depths n w else p ∷ w

abbrev pub behind_depths : List (ℕ × ℕ) → ℕ → ℕ → List (ℕ × ℕ)
behind_depths w d n = (n, closed_depth n w d) ∷ outside_depths n w

abbrev pub depths : List (Join × E) → List (ℕ × ℕ)
depths w = map (λ p. (own p.0, deep t.expr p.1)) w

-- a part that nests so deep within all that waits
abbrev pub whole_depth : List (ℕ × ℕ) → ℕ → ℕ
whole_depth [] d = d
whole_depth (p ∷ w) d = whole_depth w (1 + max p.1 d)
