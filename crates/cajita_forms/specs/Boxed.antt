-- What a resolved part in a box says, and an expression in a box that may be absent.
use Rattle.std.specs.Prelude.{Option, Some, None}
use Rattle.std.specs.Global.{Box}
use Rattle.cajita_tree.specs.declared.CExpr.{CExpr}
use Rattle.cajita_tree.specs.declared.CStmt.{CStmt}
use Rattle.cajita_tree.specs.declared.CFirst.{CFirst}
use Rattle.cajita_tree.specs.Tree as c
use Rattle.cajita_tree.specs.View as view

abbrev pub expr : Box CExpr → c.Tree c.expr
expr x = view.expr x.value

abbrev pub stmt : Box CStmt → c.Tree c.stmt
stmt x = view.stmt x.value

abbrev pub first : Box CFirst → c.Tree c.first
first x = view.first x.value

abbrev pub maybe_expr : Option (Box CExpr) → c.Tree c.maybe_expr
maybe_expr None = c.no_expr
maybe_expr (Some x) = c.some_expr (view.expr x.value)
