-- The views with places of trees with lists and options in them.
use Rattle.std.proofs.Common.{◌≡◌, ℕ, Option, None, Some, refl, ap, rules}
use Rattle.std.specs.Global.{Vec, Box}
use Rattle.es3_tree.specs.declared.Name.{Name}
use Rattle.es3_tree.specs.declared.Expr.{Expr, the_lemmas}
use Rattle.es3_tree.specs.declared.Stmt.{Stmt}
use Rattle.es3_tree.specs.declared.Case.{Case}
use Rattle.es3_tree.specs.declared.VarItem.{VarItem}
use Rattle.es3_tree.specs.declared.First.{First}
use Rattle.es3_tree.specs.declared.Func.{Func}
use Rattle.es3_tree.specs.declared.Expr.TheBlock as b
use Rattle.es3_tree.specs.declared.Expr.TheVariants as e
use Rattle.es3_tree.specs.declared.Stmt.TheVariants as s
use Rattle.es3_tree.specs.declared.First.TheVariants as i
use Rattle.es3_tree.specs.Placed as placed
use Rattle.es3_tree.specs.PlacedView as v

pub exprs_row : {m : _} (xs : b.Row_of-Expr m) → v.exprs xs ≡ v.of_exprs (b.items-the_row-Expr m xs)
exprs_row b.end_of-Expr = refl
exprs_row (b.more_of-Expr x xs) = ap (placed.more_exprs (v.expr x)) (exprs_row xs)

pub stmts_row : {m : _} (xs : b.Row_of-Stmt m) → v.stmts xs ≡ v.of_stmts (b.items-the_row-Stmt m xs)
stmts_row b.end_of-Stmt = refl
stmts_row (b.more_of-Stmt x xs) = ap (placed.more_stmts (v.stmt x)) (stmts_row xs)

pub fields_row : {m : _} (xs : b.Row_of-Expr-Object-0-2 m) → v.fields xs ≡ v.of_fields (b.items-the_row-Expr-Object-0-2 m xs)
fields_row b.end_of-Expr-Object-0-2 = refl
fields_row (b.more_of-Expr-Object-0-2 n x xs) = ap (placed.more_fields (v.word n) (v.expr x)) (fields_row xs)

pub items_row : {m : _} (xs : b.Row_of-VarItem m) → v.items xs ≡ v.of_items (b.items-the_row-VarItem m xs)
items_row b.end_of-VarItem = refl
items_row (b.more_of-VarItem n b.Stmt-For-1-None' xs) = ap (placed.more_items (v.word n) placed.no_expr) (items_row xs)
items_row (b.more_of-VarItem n (b.Stmt-For-1-Some' x) xs) = ap (placed.more_items (v.word n) (placed.some_expr (v.expr x))) (items_row xs)

pub cases_row : {m : _} (xs : b.Row_of-Case m) → v.cases xs ≡ v.of_cases (b.items-the_row-Case m xs)
cases_row b.end_of-Case = refl
cases_row (b.more_of-Case b.Stmt-For-1-None' s body xs) = search (rules, the_lemmas, stmts_row, cases_row xs)
cases_row (b.more_of-Case (b.Stmt-For-1-Some' x) s body xs) = search (rules, the_lemmas, stmts_row, cases_row xs)

pub placed_array : (x : Vec Expr) → v.expr (e.Array x) ≡ placed.array (v.of_exprs x.items)
placed_array x = search (rules, the_lemmas, exprs_row)

pub placed_object : (x : Vec (Name × Expr)) → v.expr (e.Object x) ≡ placed.object (v.of_fields x.items)
placed_object x = search (rules, the_lemmas, fields_row)

pub placed_function : (f : Box Func) → v.expr (e.Func f) ≡ placed.function (v.func f.value)
placed_function f = search (rules, the_lemmas, stmts_row)

pub placed_call : (x : Box Expr) (y : Vec Expr) → v.expr (e.Call x y) ≡ placed.call (v.expr x.value) (v.of_exprs y.items)
placed_call x y = search (rules, the_lemmas, exprs_row)

pub placed_new : (x : Box Expr) (y : Vec Expr) → v.expr (e.New x y) ≡ placed.new (v.expr x.value) (v.of_exprs y.items)
placed_new x y = search (rules, the_lemmas, exprs_row)

pub placed_block : (x : Vec Stmt) → v.stmt (s.Block x) ≡ placed.block (v.of_stmts x.items)
placed_block x = search (rules, the_lemmas, stmts_row)

pub placed_var : (x : Vec VarItem) → v.stmt (s.Var x) ≡ placed.var (v.of_items x.items)
placed_var x = search (rules, the_lemmas, items_row)

pub placed_if : (x : Expr) (y : Box Stmt) (z : Option (Box Stmt)) → v.stmt (s.If x y z) ≡ placed.branch (v.expr x) (v.stmt y.value) (v.of_maybe_stmt z)
placed_if x y None = search (rules, the_lemmas)
placed_if x y (Some z) = search (rules, the_lemmas)

pub placed_for : (a : First) (x y : Option Expr) (z : Box Stmt) → v.stmt (s.For a x y z) ≡ placed.for_loop (v.first a) (v.of_maybe_expr x) (v.of_maybe_expr y) (v.stmt z.value)
placed_for a None None z = search (rules, the_lemmas)
placed_for a None (Some y) z = search (rules, the_lemmas)
placed_for a (Some x) None z = search (rules, the_lemmas)
placed_for a (Some x) (Some y) z = search (rules, the_lemmas)

pub placed_return : (x : Option Expr) (at : ℕ) → v.stmt (s.Return x at) ≡ placed.return (v.of_maybe_expr x) at
placed_return None at = search (rules, the_lemmas)
placed_return (Some x) at = search (rules, the_lemmas)

pub placed_switch : (x : Expr) (y : Vec Case) → v.stmt (s.Switch x y) ≡ placed.switch (v.expr x) (v.of_cases y.items)
placed_switch x y = search (rules, the_lemmas, cases_row)

pub placed_try : (x : Vec Stmt) (y : Option (Name × Vec Stmt)) (z : Option (Vec Stmt)) → v.stmt (s.Try x y z) ≡ placed.try (v.of_stmts x.items) (v.of_handler y) (v.of_maybe_block z)
placed_try x None None = search (rules, the_lemmas, stmts_row)
placed_try x None (Some z) = search (rules, the_lemmas, stmts_row)
placed_try x (Some (n, y)) None = search (rules, the_lemmas, stmts_row)
placed_try x (Some (n, y)) (Some z) = search (rules, the_lemmas, stmts_row)

pub placed_declared : (f : Func) → v.stmt (s.Func f) ≡ placed.declare (v.func f)
placed_declared f = search (rules, the_lemmas, stmts_row)

pub placed_first_var : (x : Vec VarItem) → v.first (i.Var x) ≡ placed.first_var (v.of_items x.items)
placed_first_var x = search (rules, the_lemmas, items_row)

-- each of them
pub ruleset placed_views = (placed_array, placed_object, placed_function, placed_call, placed_new, placed_block, placed_var, placed_if, placed_for, placed_return, placed_switch, placed_try, placed_declared, placed_first_var)
