-- What is misplaced in a call or a `new`, as one arm for both gives it, and in a `switch`.
use Rattle.std.proofs.Common.{◌≡◌, ◌++◌, ap, ◌∙◌, ◌⊎◌, inl, inr}
use Rattle.std.specs.Global.{Vec, Box}
use Rattle.es3_tree.specs.declared.Expr.{Expr}
use Rattle.es3_tree.specs.declared.Stmt.{Stmt}
use Rattle.es3_tree.specs.declared.Case.{Case}
use Rattle.es3_tree.specs.declared.Expr.TheVariants as e
use Rattle.es3_tree.specs.declared.Stmt.TheVariants as s
use Rattle.es3_tree.specs.Tree as t
use Rattle.es3_tree.specs.PlacedView as v
use Rattle.es3_tree.proofs.PlacedRows.{placed_call, placed_new, placed_switch}
use Rattle.es3_labels.specs.Around.{Around, in_switch}
use Rattle.es3_labels.specs.Misplaced.{misplaced}

pub misplaced_call : (a : Around) {x : Expr} (b : Box Expr) (y : Vec Expr) → (x ≡ e.Call b y) ⊎ (x ≡ e.New b y)
    → misplaced a t.expr (v.expr x) ≡ misplaced a t.expr (v.expr b.value) ++ misplaced a t.exprs (v.of_exprs y.items)
unfolding misplaced
misplaced_call a b y (inl h) = ap (λ x. misplaced a t.expr (v.expr x)) h ∙ ap (misplaced a t.expr) (placed_call b y)
misplaced_call a b y (inr h) = ap (λ x. misplaced a t.expr (v.expr x)) h ∙ ap (misplaced a t.expr) (placed_new b y)

pub misplaced_switch : (a : Around) {x : Stmt} (y : Expr) (z : Vec Case) → x ≡ s.Switch y z
    → misplaced a t.stmt (v.stmt x) ≡ misplaced a t.expr (v.expr y) ++ misplaced (in_switch a) t.cases (v.of_cases z.items)
unfolding misplaced
misplaced_switch a y z h = ap (λ x. misplaced a t.stmt (v.stmt x)) h ∙ ap (misplaced a t.stmt) (placed_switch y z)
