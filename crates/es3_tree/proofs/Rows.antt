-- The views of trees with lists and options in them.
use Rattle.std.proofs.Common.{◌≡◌, ℕ, Option, None, Some, refl, ap, rules}
use Rattle.std.specs.Global.{Vec, Box}
use Rattle.es3_tree.specs.declared.Name.{Name}
use Rattle.es3_tree.specs.declared.Expr.{Expr, the_lemmas}
use Rattle.es3_tree.specs.declared.Stmt.{Stmt}
use Rattle.es3_tree.specs.declared.Case.{Case}
use Rattle.es3_tree.specs.declared.VarItem.{VarItem}
use Rattle.es3_tree.specs.declared.First.{First}
use Rattle.es3_tree.specs.declared.Func.{Func}
use Rattle.es3_tree.specs.declared.Expr.TheBlock as b
use Rattle.es3_tree.specs.declared.Expr.TheVariants as e
use Rattle.es3_tree.specs.declared.Stmt.TheVariants as s
use Rattle.es3_tree.specs.declared.First.TheVariants as i
use Rattle.es3_tree.specs.Tree as t
use Rattle.es3_tree.specs.View as v

pub exprs_row : {m : _} (xs : b.Row_of-Expr m) → v.exprs xs ≡ v.of_exprs (b.items-the_row-Expr m xs)
exprs_row b.end_of-Expr = refl
exprs_row (b.more_of-Expr x xs) = ap (t.more_exprs (v.expr x)) (exprs_row xs)

pub stmts_row : {m : _} (xs : b.Row_of-Stmt m) → v.stmts xs ≡ v.of_stmts (b.items-the_row-Stmt m xs)
stmts_row b.end_of-Stmt = refl
stmts_row (b.more_of-Stmt x xs) = ap (t.more_stmts (v.stmt x)) (stmts_row xs)

pub fields_row : {m : _} (xs : b.Row_of-Expr-Object-0-2 m) → v.fields xs ≡ v.of_fields (b.items-the_row-Expr-Object-0-2 m xs)
fields_row b.end_of-Expr-Object-0-2 = refl
fields_row (b.more_of-Expr-Object-0-2 n x xs) = ap (t.more_fields n.text (v.expr x)) (fields_row xs)

pub items_row : {m : _} (xs : b.Row_of-VarItem m) → v.items xs ≡ v.of_items (b.items-the_row-VarItem m xs)
items_row b.end_of-VarItem = refl
items_row (b.more_of-VarItem n b.Stmt-For-1-None' xs) = ap (t.more_items n.text t.no_expr) (items_row xs)
items_row (b.more_of-VarItem n (b.Stmt-For-1-Some' x) xs) = ap (t.more_items n.text (t.some_expr (v.expr x))) (items_row xs)

pub cases_row : {m : _} (xs : b.Row_of-Case m) → v.cases xs ≡ v.of_cases (b.items-the_row-Case m xs)
cases_row b.end_of-Case = refl
cases_row (b.more_of-Case b.Stmt-For-1-None' s body xs) = search (rules, the_lemmas, stmts_row, cases_row xs)
cases_row (b.more_of-Case (b.Stmt-For-1-Some' x) s body xs) = search (rules, the_lemmas, stmts_row, cases_row xs)

pub view_array : (x : Vec Expr) → v.expr (e.Array x) ≡ t.array (v.of_exprs x.items)
view_array x = search (rules, the_lemmas, exprs_row)

pub view_object : (x : Vec (Name × Expr)) → v.expr (e.Object x) ≡ t.object (v.of_fields x.items)
view_object x = search (rules, the_lemmas, fields_row)

pub view_function : (f : Box Func) → v.expr (e.Func f) ≡ t.function (v.func f.value)
view_function f = search (rules, the_lemmas, stmts_row)

pub view_call : (x : Box Expr) (y : Vec Expr) → v.expr (e.Call x y) ≡ t.call (v.expr x.value) (v.of_exprs y.items)
view_call x y = search (rules, the_lemmas, exprs_row)

pub view_new : (x : Box Expr) (y : Vec Expr) → v.expr (e.New x y) ≡ t.new (v.expr x.value) (v.of_exprs y.items)
view_new x y = search (rules, the_lemmas, exprs_row)

pub view_block : (x : Vec Stmt) → v.stmt (s.Block x) ≡ t.block (v.of_stmts x.items)
view_block x = search (rules, the_lemmas, stmts_row)

pub view_var : (x : Vec VarItem) → v.stmt (s.Var x) ≡ t.var (v.of_items x.items)
view_var x = search (rules, the_lemmas, items_row)

pub view_if : (x : Expr) (y : Box Stmt) (z : Option (Box Stmt)) → v.stmt (s.If x y z) ≡ t.branch (v.expr x) (v.stmt y.value) (v.of_maybe_stmt z)
view_if x y None = search (rules, the_lemmas)
view_if x y (Some z) = search (rules, the_lemmas)

pub view_for : (a : First) (x y : Option Expr) (z : Box Stmt) → v.stmt (s.For a x y z) ≡ t.for_loop (v.first a) (v.of_maybe_expr x) (v.of_maybe_expr y) (v.stmt z.value)
view_for a None None z = search (rules, the_lemmas)
view_for a None (Some y) z = search (rules, the_lemmas)
view_for a (Some x) None z = search (rules, the_lemmas)
view_for a (Some x) (Some y) z = search (rules, the_lemmas)

pub view_return : (x : Option Expr) (at : ℕ) → v.stmt (s.Return x at) ≡ t.return (v.of_maybe_expr x)
view_return None at = search (rules, the_lemmas)
view_return (Some x) at = search (rules, the_lemmas)

pub view_switch : (x : Expr) (y : Vec Case) → v.stmt (s.Switch x y) ≡ t.switch (v.expr x) (v.of_cases y.items)
view_switch x y = search (rules, the_lemmas, cases_row)

pub view_try : (x : Vec Stmt) (y : Option (Name × Vec Stmt)) (z : Option (Vec Stmt)) → v.stmt (s.Try x y z) ≡ t.try (v.of_stmts x.items) (v.of_handler y) (v.of_maybe_block z)
view_try x None None = search (rules, the_lemmas, stmts_row)
view_try x None (Some z) = search (rules, the_lemmas, stmts_row)
view_try x (Some (n, y)) None = search (rules, the_lemmas, stmts_row)
view_try x (Some (n, y)) (Some z) = search (rules, the_lemmas, stmts_row)

pub view_declared : (f : Func) → v.stmt (s.Func f) ≡ t.declare (v.func f)
view_declared f = search (rules, the_lemmas, stmts_row)

pub view_first_var : (x : Vec VarItem) → v.first (i.Var x) ≡ t.first_var (v.of_items x.items)
view_first_var x = search (rules, the_lemmas, items_row)

-- each of them
pub ruleset views = (view_array, view_object, view_function, view_call, view_new, view_block, view_var, view_if, view_for, view_return, view_switch, view_try, view_declared, view_first_var)
