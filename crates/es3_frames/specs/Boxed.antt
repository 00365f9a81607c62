-- An expression in a box, which may be absent.
use Rattle.std.specs.Prelude.{Option, Some, None}
use Rattle.std.specs.Global.{Box}
use Rattle.es3_tree.specs.PlacedView.{expr}
use Rattle.es3_tree.specs.Tree as t
use Rattle.es3_tree.specs.Placed as placed
use Rattle.es3_tree.specs.declared.Expr.{Expr}

abbrev pub of_maybe_boxed : Option (Box Expr) → placed.Placed t.maybe_expr
of_maybe_boxed None = placed.no_expr
of_maybe_boxed (Some x) = placed.some_expr (expr x.value)
