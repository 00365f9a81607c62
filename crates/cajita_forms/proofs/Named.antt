-- Whether a call, a `new` or a `switch` names `arguments`: a call and a `new` as one arm for both gives them.
use Rattle.std.proofs.Common.{◌≡◌, ◌||◌, Bool, false, ap, ◌∙◌, ◌⊎◌, inl, inr}
use Rattle.std.specs.Global.{Vec, Box}
use Rattle.es3_tree.specs.declared.Expr.{Expr}
use Rattle.es3_tree.specs.declared.Stmt.{Stmt}
use Rattle.es3_tree.specs.declared.Case.{Case}
use Rattle.es3_tree.specs.declared.Expr.TheVariants as e
use Rattle.es3_tree.specs.declared.Stmt.TheVariants as s
use Rattle.es3_tree.specs.Tree as t
use Rattle.es3_tree.specs.PlacedView as v
use Rattle.es3_tree.proofs.PlacedRows.{placed_call, placed_new, placed_switch}
use Rattle.cajita_forms.specs.Arguments.{names_arguments}

pub named_call : {x : Expr} (b : Box Expr) (y : Vec Expr) → (x ≡ e.Call b y) ⊎ (x ≡ e.New b y)
    → names_arguments t.expr (v.expr x) ≡ (names_arguments t.expr (v.expr b.value) || names_arguments t.exprs (v.of_exprs y.items))
unfolding names_arguments
named_call b y (inl h) = ap (λ x. names_arguments t.expr (v.expr x)) h ∙ ap (names_arguments t.expr) (placed_call b y)
named_call b y (inr h) = ap (λ x. names_arguments t.expr (v.expr x)) h ∙ ap (names_arguments t.expr) (placed_new b y)

pub named_switch : {x : Stmt} (y : Expr) (z : Vec Case) → x ≡ s.Switch y z
    → names_arguments t.stmt (v.stmt x) ≡ (names_arguments t.expr (v.expr y) || names_arguments t.cases (v.of_cases z.items))
unfolding names_arguments
named_switch y z h = ap (λ x. names_arguments t.stmt (v.stmt x)) h ∙ ap (names_arguments t.stmt) (placed_switch y z)

-- of two where the front one does not
pub behind : (r x y : Bool) → false ≡ x → r ≡ y → r ≡ (x || y)
behind r x y f g = g ∙ ap (λ b. b || y) f
