-- What is answered where the longest expression at the front of tokens is read (ES3 11.14).
use Rattle.std.specs.Prelude.{◌≡◌, ℕ, ◌+◌, ◌⊎◌, false, List, Result, Ok, Err, Option, Some, None}
use Rattle.es3_tree.specs.PlacedView.{expr}
use Rattle.es3_tree.specs.declared.Expr.{Expr}
use Rattle.es3_grammar.specs.Spots.{Spot}
use Rattle.es3_grammar.specs.Levels.{E}
use Rattle.es3_grammar.specs.Machine.{Answer, phrase}
use Rattle.es3_grammar.specs.Longest.{is_phrase, Longest, NoExpr, BeginsExprWithin, ExprRefusedAt, ExprDeepAt}
use Rattle.es3_stmt.specs.declared.read.ReadError.{ReadError}
use Rattle.es3_stmt.specs.declared.read.ReadError.TheVariants as error

-- no expression goes on with the first token that begins at the byte, or the tokens end
abbrev pub StopsAt : ℕ → ℕ → List Spot → ℕ → Type 0
StopsAt limit end u at = ((c : Spot) × (k : List Spot) × ExprRefusedAt limit u c k × (at ≡ c.1)) ⊎ (BeginsExprWithin limit u × (at ≡ end))

-- only deeper expressions go on with some token, or no expression is within the limit
abbrev pub Deepens : ℕ → List Spot → Type 0
Deepens limit u = ((c : Spot) × (k : List Spot) × ExprDeepAt limit u c k) ⊎ (limit ≡ 0)

-- why no front of the tokens is an expression, in a source that has `end` bytes
abbrev pub Refuses : ℕ → ℕ → List Spot → ReadError → Type 0
Refuses limit end u (error.Syntax at) = NoExpr limit u × StopsAt limit end u at
Refuses limit end u (error.TooDeep at) = NoExpr limit u × Deepens limit u × (at ≡ 0)
Refuses limit end u error.Memory = Unit {0}

-- how many tokens the longest has
abbrev pub Counts : ℕ → ℕ → List Spot → Result ℕ ReadError → Type 0
Counts limit end u (Ok n) = (x : E) × Longest limit u x n
Counts limit end u (Err e) = Refuses limit end u e

-- the longest, and how many tokens it has
abbrev pub ReadsFront : ℕ → ℕ → List Spot → Result (Expr × ℕ) ReadError → Type 0
ReadsFront limit end u (Ok r) = Longest limit u (expr r.0) r.1
ReadsFront limit end u (Err e) = Refuses limit end u e

-- the longest, and the token behind it, where the first is the one after so many
abbrev pub ReadsExpr : ℕ → ℕ → ℕ → List Spot → Result (Expr × ℕ) ReadError → Type 0
ReadsExpr limit end at u (Ok r) = (n : ℕ) × (r.1 ≡ at + n) × Longest limit u (expr r.0) n
ReadsExpr limit end at u (Err e) = Refuses limit end u e

-- the expression that was read, if there is one
abbrev pub Phrased : Option Expr → Answer → Type 0
Phrased None a = is_phrase a ≡ false
Phrased (Some x) a = a ≡ phrase (expr x)
