-- Forms of an expression or a statement and a list, as they are seen.
use Rattle.std.proofs.Common.{◌≡◌, List, sym, ap, ◌∙◌}
use Rattle.std.specs.Global.{Vec, Box}
use Rattle.es3_tree.specs.Tree as t
use Rattle.es3_tree.specs.View.{expr, stmt, of_exprs, of_cases}
use Rattle.es3_tree.specs.declared.Case.{Case}
use Rattle.es3_tree.specs.declared.Expr.{Expr}
use Rattle.es3_tree.specs.declared.Stmt.{Stmt}
use Rattle.es3_tree.specs.declared.Expr.TheVariants.{Call, New}
use Rattle.es3_tree.specs.declared.Stmt.TheVariants.{Switch}
use Rattle.es3_tree.proofs.Rows.{view_call, view_new, view_switch}

pub a_call : (e f : Expr) (es : List Expr) (x : Box Expr) (y : Vec Expr) → e ≡ Call x y → f ≡ x.value → es ≡ y.items → t.call (expr f) (of_exprs es) ≡ expr e
a_call e f es x y is p q =
    ap (λ z. t.call (expr z) (of_exprs es)) p ∙ ap (λ z. t.call (expr x.value) (of_exprs z)) q ∙ sym (ap expr is ∙ view_call x y)

pub a_new : (e f : Expr) (es : List Expr) (x : Box Expr) (y : Vec Expr) → e ≡ New x y → f ≡ x.value → es ≡ y.items → t.new (expr f) (of_exprs es) ≡ expr e
a_new e f es x y is p q =
    ap (λ z. t.new (expr z) (of_exprs es)) p ∙ ap (λ z. t.new (expr x.value) (of_exprs z)) q ∙ sym (ap expr is ∙ view_new x y)

pub a_switch : (s : Stmt) (cs : List Case) (x : Expr) (y : Vec Case) → s ≡ Switch x y → cs ≡ y.items → t.switch (expr x) (of_cases cs) ≡ stmt s
a_switch s cs x y is p = ap (λ z. t.switch (expr x) (of_cases z)) p ∙ sym (ap stmt is ∙ view_switch x y)
