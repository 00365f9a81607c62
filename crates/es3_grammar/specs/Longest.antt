-- The longest expression (ES3 11.14) at the front of tokens, within a limit, and why no more tokens are read.
use Rattle.std.specs.Prelude.{ℕ, ◌+◌, ◌*◌, ◌≡◌, ◌≤◌, List, [], ◌∷◌, ◌++◌, length, Bool, true, false, Option, Some, None, if◌then◌else◌}
use Rattle.es3_tree.specs.Tree as t
use Rattle.es3_grammar.specs.Spots.{Spot}
use Rattle.es3_grammar.specs.Levels.{E}
use Rattle.es3_grammar.specs.Grammar.{free, Spells}
use Rattle.es3_grammar.specs.Plain.{deep}
use Rattle.es3_grammar.specs.Frames.{State, want}
use Rattle.es3_grammar.specs.Machine.{Answer, phrase, step, ending}
use Rattle.es3_grammar.specs.Limit.{turn, most, counted}
use Rattle.es3_grammar.specs.Sums.{within_by}

-- the tokens spell the expression within the limit
pub record ExprWithin (limit : ℕ) (x : E) (u : List Spot) : Type 0 where
  pub spelled : Spells t.expr free 0 x u
  pub shallow : deep t.expr x ≤ limit
  pub few : most 0 u ≤ 2 * limit

-- further tokens make an expression of them, and one within the limit
abbrev pub BeginsExpr : List Spot → Type 0
BeginsExpr u = (x : E) × (z : List Spot) × Spells t.expr free 0 x (u ++ z)

abbrev pub BeginsExprWithin : ℕ → List Spot → Type 0
BeginsExprWithin limit u = (x : E) × (z : List Spot) × ExprWithin limit x (u ++ z)

-- the first n of the tokens spell the expression within the limit, and no more of them spell one within it
pub record Longest (limit : ℕ) (u : List Spot) (x : E) (n : ℕ) : Type 0 where
  pub front : List Spot
  pub rest : List Spot
  pub parts : u ≡ front ++ rest
  pub counted : length front ≡ n
  pub is : ExprWithin limit x front
  pub longest : (y : E) (v w : List Spot) → u ≡ v ++ w → ExprWithin limit y v → length v ≤ n

-- the tokens have no front that is an expression within the limit
abbrev pub NoExpr : ℕ → List Spot → Type 0
NoExpr limit u = (y : E) (v w : List Spot) → u ≡ v ++ w → ExprWithin limit y v → ⊥

-- how many tokens the longest has, if there is one
abbrev pub Best : ℕ → List Spot → Option ℕ → Type 0
Best limit u None = NoExpr limit u
Best limit u (Some n) = (x : E) × Longest limit u x n

-- ---- where reading stops

-- `token` is the first of the tokens u with which no expression goes on, and the tokens before it begin one within the limit
pub record ExprRefusedAt (limit : ℕ) (u : List Spot) (token : Spot) (rest : List Spot) : Type 0 where
  pub front : List Spot
  pub parts : u ≡ front ++ token ∷ rest
  pub within : BeginsExprWithin limit front
  pub ends : BeginsExpr (front ++ token ∷ []) → ⊥

-- `token` is the first of the tokens u with which no expression within the limit goes on, but a deeper one does
pub record ExprDeepAt (limit : ℕ) (u : List Spot) (token : Spot) (rest : List Spot) : Type 0 where
  pub front : List Spot
  pub parts : u ≡ front ++ token ∷ rest
  pub within : BeginsExprWithin limit front
  pub begins : BeginsExpr (front ++ token ∷ [])
  pub ends : BeginsExprWithin limit (front ++ token ∷ []) → ⊥

-- all tokens are read; or this one is refused, or too deep, with these behind it
pub data Stop : Type 0 where
  used_up : Stop
  refused_at : Spot → List Spot → Stop
  deep_at : Spot → List Spot → Stop

abbrev pub StopsExpr : ℕ → List Spot → Stop → Type 0
StopsExpr limit u used_up = BeginsExprWithin limit u
StopsExpr limit u (refused_at c k) = ExprRefusedAt limit u c k
StopsExpr limit u (deep_at c k) = ExprDeepAt limit u c k

-- ---- reading an expression alone

-- the machine comes from `want []` over the tokens to the state, and no state on the way passes the limit
pub data KnownExpr (limit : ℕ) : List Spot → State → Type 0 where
  known_first : 1 ≤ limit → KnownExpr limit [] (want [])
  known_on : (u : List Spot) (s r : State) (c : Spot) → KnownExpr limit u s → step s c ≡ Some r → within_by limit (turn (counted 0 u) c) r ≡ true → KnownExpr limit (u ++ c ∷ []) r

abbrev pub is_phrase : Answer → Bool
is_phrase (phrase x) = true
is_phrase a = false

-- the longest so far, at a state behind n tokens
abbrev pub better : State → ℕ → Option ℕ → Option ℕ
better s n best = if is_phrase (ending s) then Some n else best

-- the longest, and why no more tokens are read
pub record Found : Type 0 where
  pub best : Option ℕ
  pub stop : Stop

abbrev pub found : Option ℕ → Stop → Found
found b s = record { best = b; stop = s }

abbrev pub goes_longest : (State → Found) → ℕ → ℕ → Option ℕ → Spot → List Spot → Option State → Found
goes_longest f limit o best c k None = found best (refused_at c k)
goes_longest f limit o best c k (Some s) = if within_by limit o s then f s else found best (deep_at c k)

-- from a state behind n tokens, where so many brackets are open
unfoldable pub run_longest : ℕ → ℕ → ℕ → Option ℕ → List Spot → State → Found
run_longest limit o n best [] s = found best used_up
run_longest limit o n best (c ∷ k) s = goes_longest (λ r. run_longest limit (turn o c) (n + 1) (better r (n + 1) best) k r) limit (turn o c) best c k (step s c)

abbrev pub read_longest : ℕ → List Spot → Found
read_longest limit u = run_longest limit 0 0 None u (want [])
