use Rattle.std.proofs.Common.{arith, ap}
use Rattle.es3_tree.specs.Tree as tree
use Rattle.es3_tree.specs.View.{expr, stmt, of_exprs, of_cases}
use Rattle.es3_tree.specs.Measure.{nest, count}
use Rattle.es3_tree.proofs.Rows.{view_switch, view_for}
use Rattle.es3_tree.proofs.Measured.{nest_call, count_call}
use Rattle.es3_tree.proofs.measure.+extent.Goals as goal

pub extent_of_stmt-returns-in-Switch-clause-depth : goal.extent_of_stmt-returns-in-Switch-clause-depth
extent_of_stmt-returns-in-Switch-clause-depth m c = omega (arith, ap (λ y. nest tree.stmt (stmt y)) c.in-Switch.is, ap (nest tree.stmt) (view_switch c.in-Switch.x c.in-Switch.cases), ap (λ y. nest tree.cases (of_cases y)) c.deref-in-Switch.ensures.value)

pub extent_of_expr-returns-in-Call-clause-depth : goal.extent_of_expr-returns-in-Call-clause-depth
extent_of_expr-returns-in-Call-clause-depth m c = omega (arith, nest_call c.in-Call.x c.in-Call.arguments c.in-Call.is, ap (λ y. nest tree.expr (expr y)) c.deref-in-Call.ensures, ap (λ y. nest tree.exprs (of_exprs y)) c.deref-in-Call-2.ensures.value)

pub extent_of_expr-returns-in-Call-clause-size : goal.extent_of_expr-returns-in-Call-clause-size
extent_of_expr-returns-in-Call-clause-size m c = omega (arith, count_call c.in-Call.x c.in-Call.arguments c.in-Call.is, ap (λ y. count tree.expr (expr y)) c.deref-in-Call.ensures, ap (λ y. count tree.exprs (of_exprs y)) c.deref-in-Call-2.ensures.value)

pub extent_of_stmt-returns-in-Switch-clause-size : goal.extent_of_stmt-returns-in-Switch-clause-size
extent_of_stmt-returns-in-Switch-clause-size m c = omega (arith, ap (λ y. count tree.stmt (stmt y)) c.in-Switch.is, ap (count tree.stmt) (view_switch c.in-Switch.x c.in-Switch.cases), ap (λ y. count tree.cases (of_cases y)) c.deref-in-Switch.ensures.value)

pub extent_of_stmt-returns-in-For-clause-size : goal.extent_of_stmt-returns-in-For-clause-size
extent_of_stmt-returns-in-For-clause-size m c = omega (arith, ap (λ y. count tree.stmt (stmt y)) c.in-For.is, ap (count tree.stmt) (view_for c.in-For.start c.in-For.x c.in-For.y c.in-For.body), ap (λ y. count tree.stmt (stmt y)) c.deref-in-For.ensures)
