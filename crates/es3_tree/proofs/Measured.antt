-- The nesting and the number of parts of a call or of a `new`, as one arm for both gives them.
use Rattle.std.proofs.Common.{◌≡◌, ◌+◌, max, ap, ◌∙◌, ◌⊎◌, inl, inr}
use Rattle.std.specs.Global.{Vec, Box}
use Rattle.es3_tree.specs.declared.Expr.{Expr}
use Rattle.es3_tree.specs.declared.Expr.TheVariants as e
use Rattle.es3_tree.specs.Tree as t
use Rattle.es3_tree.specs.View as v
use Rattle.es3_tree.specs.Measure.{nest, count}
use Rattle.es3_tree.proofs.Rows.{view_call, view_new}

pub nest_call : {x : Expr} (b : Box Expr) (y : Vec Expr) → (x ≡ e.Call b y) ⊎ (x ≡ e.New b y) → nest t.expr (v.expr x) ≡ 1 + max (nest t.expr (v.expr b.value)) (nest t.exprs (v.of_exprs y.items))
nest_call b y (inl h) = ap (λ x. nest t.expr (v.expr x)) h ∙ ap (nest t.expr) (view_call b y)
nest_call b y (inr h) = ap (λ x. nest t.expr (v.expr x)) h ∙ ap (nest t.expr) (view_new b y)

pub count_call : {x : Expr} (b : Box Expr) (y : Vec Expr) → (x ≡ e.Call b y) ⊎ (x ≡ e.New b y) → count t.expr (v.expr x) ≡ 1 + count t.expr (v.expr b.value) + count t.exprs (v.of_exprs y.items)
count_call b y (inl h) = ap (λ x. count t.expr (v.expr x)) h ∙ ap (count t.expr) (view_call b y)
count_call b y (inr h) = ap (λ x. count t.expr (v.expr x)) h ∙ ap (count t.expr) (view_new b y)
