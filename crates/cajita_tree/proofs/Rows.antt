-- The views of trees with lists, options and structs in them.
use Rattle.std.proofs.Common.{◌≡◌, ℕ, List, Option, None, Some, refl, ap, rules}
use Rattle.std.specs.Global.{Vec, Box}
use Rattle.cajita_tree.specs.declared.Key.{Key}
use Rattle.cajita_tree.specs.declared.CExpr.{CExpr, the_lemmas}
use Rattle.cajita_tree.specs.declared.CStmt.{CStmt}
use Rattle.cajita_tree.specs.declared.CCase.{CCase}
use Rattle.cajita_tree.specs.declared.CVarItem.{CVarItem}
use Rattle.cajita_tree.specs.declared.CFirst.{CFirst}
use Rattle.cajita_tree.specs.declared.CFunc.{CFunc}
use Rattle.cajita_tree.specs.declared.CBody.{CBody}
use Rattle.cajita_tree.specs.declared.CExpr.TheBlock as b
use Rattle.cajita_tree.specs.declared.CExpr.TheViews.{out-CFunc, out-CBody}
use Rattle.cajita_tree.specs.declared.CExpr.TheVariants as e
use Rattle.cajita_tree.specs.declared.CStmt.TheVariants as s
use Rattle.cajita_tree.specs.declared.CFirst.TheVariants as i
use Rattle.cajita_tree.specs.Tree as c
use Rattle.cajita_tree.specs.View as v

pub exprs_row : {m : _} (xs : b.Row_of-CExpr m) → v.exprs xs ≡ v.of_exprs (b.items-the_row-CExpr m xs)
exprs_row b.end_of-CExpr = refl
exprs_row (b.more_of-CExpr x xs) = ap (c.more_exprs (v.expr x)) (exprs_row xs)

pub fields_row : {m : _} (xs : b.Row_of-CExpr-Record-0-2 m) → v.fields xs ≡ v.of_fields (b.items-the_row-CExpr-Record-0-2 m xs)
fields_row b.end_of-CExpr-Record-0-2 = refl
fields_row (b.more_of-CExpr-Record-0-2 k x xs) = ap (c.more_fields k (v.expr x)) (fields_row xs)

pub stmts_row : {m : _} (xs : b.Row_of-CStmt m) → v.stmts xs ≡ v.of_stmts (b.items-the_row-CStmt m xs)
stmts_row b.end_of-CStmt = refl
stmts_row (b.more_of-CStmt x xs) = ap (c.more_stmts (v.stmt x)) (stmts_row xs)

pub items_row : {m : _} (xs : b.Row_of-CVarItem m) → v.items xs ≡ v.of_items (b.items-the_row-CVarItem m xs)
items_row b.end_of-CVarItem = refl
items_row (b.more_of-CVarItem n b.CStmt-For-1-None' xs) = ap (c.more_items n c.no_expr) (items_row xs)
items_row (b.more_of-CVarItem n (b.CStmt-For-1-Some' x) xs) = ap (c.more_items n (c.some_expr (v.expr x))) (items_row xs)

pub cases_row : {m : _} (xs : b.Row_of-CCase m) → v.cases xs ≡ v.of_cases (b.items-the_row-CCase m xs)
cases_row b.end_of-CCase = refl
cases_row (b.more_of-CCase b.CStmt-For-1-None' s body xs) = search (rules, the_lemmas, stmts_row, cases_row xs)
cases_row (b.more_of-CCase (b.CStmt-For-1-Some' x) s body xs) = search (rules, the_lemmas, stmts_row, cases_row xs)

pub funcs_row : {m : _} (xs : b.Row_of-CFunc m) → v.funcs xs ≡ v.of_funcs (b.items-the_row-CFunc m xs)
funcs_row b.end_of-CFunc = refl
funcs_row (b.more_of-CFunc x xs) = ap (c.more_funcs (v.func x)) (funcs_row xs)

pub view_array : (x : Vec CExpr) → v.expr (e.Array x) ≡ c.array (v.of_exprs x.items)
view_array x = search (rules, the_lemmas, exprs_row)

pub view_record : (x : Vec (List ℕ × CExpr)) → v.expr (e.Record x) ≡ c.record_of (v.of_fields x.items)
view_record x = search (rules, the_lemmas, fields_row)

pub view_function : (f : Box CFunc) → v.expr (e.Func f) ≡ c.function (v.func f.value)
view_function f = search (rules, the_lemmas)

pub view_call : (x : Box CExpr) (y : Vec CExpr) → v.expr (e.Call x y) ≡ c.call (v.expr x.value) (v.of_exprs y.items)
view_call x y = search (rules, the_lemmas, exprs_row)

pub view_method : (x : Box CExpr) (k : Key) (y : Vec CExpr) → v.expr (e.Method x k y) ≡ c.method (v.expr x.value) (v.key k) (v.of_exprs y.items)
view_method x k y = search (rules, the_lemmas, exprs_row)

pub view_new : (x : Box CExpr) (y : Vec CExpr) → v.expr (e.New x y) ≡ c.new (v.expr x.value) (v.of_exprs y.items)
view_new x y = search (rules, the_lemmas, exprs_row)

pub view_block : (x : Vec CStmt) → v.stmt (s.Block x) ≡ c.block (v.of_stmts x.items)
view_block x = search (rules, the_lemmas, stmts_row)

pub view_var : (x : Vec CVarItem) → v.stmt (s.Var x) ≡ c.var (v.of_items x.items)
view_var x = search (rules, the_lemmas, items_row)

pub view_first_var : (x : Vec CVarItem) → v.first (i.Var x) ≡ c.first_var (v.of_items x.items)
view_first_var x = search (rules, the_lemmas, items_row)

pub view_if : (x : CExpr) (y : Box CStmt) (z : Option (Box CStmt)) → v.stmt (s.If x y z) ≡ c.branch (v.expr x) (v.stmt y.value) (v.of_maybe_stmt z)
view_if x y None = search (rules, the_lemmas)
view_if x y (Some z) = search (rules, the_lemmas)

pub view_for : (a : CFirst) (x y : Option CExpr) (z : Box CStmt) → v.stmt (s.For a x y z) ≡ c.for_loop (v.first a) (v.of_maybe_expr x) (v.of_maybe_expr y) (v.stmt z.value)
view_for a None None z = search (rules, the_lemmas)
view_for a None (Some y) z = search (rules, the_lemmas)
view_for a (Some x) None z = search (rules, the_lemmas)
view_for a (Some x) (Some y) z = search (rules, the_lemmas)

pub view_return : (x : Option CExpr) → v.stmt (s.Return x) ≡ c.return (v.of_maybe_expr x)
view_return None = search (rules, the_lemmas)
view_return (Some x) = search (rules, the_lemmas)

pub view_switch : (x : CExpr) (y : Vec CCase) → v.stmt (s.Switch x y) ≡ c.switch (v.expr x) (v.of_cases y.items)
view_switch x y = search (rules, the_lemmas, cases_row)

pub view_try : (x : Vec CStmt) (y : Option (List ℕ × Vec CStmt)) (z : Option (Vec CStmt)) → v.stmt (s.Try x y z) ≡ c.try (v.of_stmts x.items) (v.of_handler y) (v.of_maybe_block z)
view_try x None None = search (rules, the_lemmas, stmts_row)
view_try x None (Some z) = search (rules, the_lemmas, stmts_row)
view_try x (Some (n, y)) None = search (rules, the_lemmas, stmts_row)
view_try x (Some (n, y)) (Some z) = search (rules, the_lemmas, stmts_row)

-- `out-..` gives the fields of a struct that stands in the recursion itself
pub view_func : (f : CFunc) → v.func f ≡ c.fun (out-CFunc f).name (out-CFunc f).params.items (out-CFunc f).args (v.body (out-CFunc f).body)
view_func f = search (rules, the_lemmas)

pub view_body : (x : CBody) → v.body x ≡ c.a_body (v.of_funcs (out-CBody x).funcs.items) (out-CBody x).vars.items (v.of_stmts (out-CBody x).list.items)
view_body (b.struct-CBody s fs vars t xs) = search (rules, the_lemmas, funcs_row, stmts_row)

-- each of them
pub ruleset views = (view_array, view_record, view_function, view_call, view_method, view_new, view_block, view_var, view_first_var, view_if, view_for, view_return, view_switch, view_try, view_func, view_body)
