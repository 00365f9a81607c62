-- A tree without its places is the tree as it was made without them.
use Rattle.std.proofs.Common.{◌≡◌, ℕ, List, [], ◌∷◌, map, Option, Some, None, refl, ap}
use Rattle.es3_tree.specs.declared.Name.{Name}
use Rattle.es3_tree.specs.declared.Expr.{Expr}
use Rattle.es3_tree.specs.declared.Stmt.{Stmt}
use Rattle.es3_tree.specs.declared.First.{First}
use Rattle.es3_tree.specs.declared.Loop.{Loop}
use Rattle.es3_tree.specs.declared.Program.{Program}
use Rattle.es3_tree.specs.declared.Expr.TheBlock as b
use Rattle.es3_tree.specs.Tree as t
use Rattle.es3_tree.specs.View as v
use Rattle.es3_tree.specs.PlacedView as p
use Rattle.es3_grammar.specs.Plain.{plain, plain_name}

name_plain : (n : Option Name) → plain_name (p.word_of n) ≡ v.text_of n
name_plain None = refl
name_plain (Some n) = refl

names_plain : (ns : List Name) → map (λ w. w.text) (p.words ns) ≡ v.names ns
names_plain [] = refl
names_plain (n ∷ ns) = ap (λ (us : List (List ℕ)). n.text ∷ us) (names_plain ns)

mutual
  pub expr_plain : (x : Expr) → plain t.expr (p.expr x) ≡ v.expr x
  expr_plain (b.This at) = refl
  expr_plain b.Null = refl
  expr_plain (b.Bool c) = refl
  expr_plain (b.Num n) = refl
  expr_plain (b.Text u) = refl
  expr_plain (b.Name n) = refl
  expr_plain (b.Array' s xs) = ap t.array (exprs_plain xs)
  expr_plain (b.Object' s xs) = ap t.object (fields_plain xs)
  expr_plain (b.Expr::Func' q name params s body at) = cc (name_plain name, names_plain params.items, stmts_plain body)
  expr_plain (b.Dot' q x n) = cc (expr_plain x)
  expr_plain (b.Index' q x r y) = cc (expr_plain x, expr_plain y)
  expr_plain (b.Call' q x s xs) = cc (expr_plain x, exprs_plain xs)
  expr_plain (b.New' q x s xs) = cc (expr_plain x, exprs_plain xs)
  expr_plain (b.Unary' op q x at) = cc (expr_plain x)
  expr_plain (b.Step' up before q x) = cc (expr_plain x)
  expr_plain (b.Binary' op q x r y) = cc (expr_plain x, expr_plain y)
  expr_plain (b.And' q x r y) = cc (expr_plain x, expr_plain y)
  expr_plain (b.Or' q x r y) = cc (expr_plain x, expr_plain y)
  expr_plain (b.Cond' q x r y s z) = cc (expr_plain x, expr_plain y, expr_plain z)
  expr_plain (b.Assign' op q x r y) = cc (expr_plain x, expr_plain y)
  expr_plain (b.Comma' q x r y) = cc (expr_plain x, expr_plain y)

  exprs_plain : {m : _} (xs : b.Row_of-Expr m) → plain t.exprs (p.exprs xs) ≡ v.exprs xs
  exprs_plain b.end_of-Expr = refl
  exprs_plain (b.more_of-Expr x xs) = cc (expr_plain x, exprs_plain xs)

  fields_plain : {m : _} (xs : b.Row_of-Expr-Object-0-2 m) → plain t.fields (p.fields xs) ≡ v.fields xs
  fields_plain b.end_of-Expr-Object-0-2 = refl
  fields_plain (b.more_of-Expr-Object-0-2 n x xs) = cc (expr_plain x, fields_plain xs)

  stmt_plain : (s : Stmt) → plain t.stmt (p.stmt s) ≡ v.stmt s
  stmt_plain (b.Block' s xs) = ap t.block (stmts_plain xs)
  stmt_plain (b.Stmt::Var' s xs) = ap t.var (items_plain xs)
  stmt_plain b.Empty = refl
  stmt_plain (b.Stmt::Expr x) = ap t.expression (expr_plain x)
  stmt_plain (b.If' x q y z) = cc (expr_plain x, stmt_plain y, maybe_stmt_plain z)
  stmt_plain (b.While' x q y) = cc (expr_plain x, stmt_plain y)
  stmt_plain (b.Do' q y x) = cc (expr_plain x, stmt_plain y)
  stmt_plain (b.For' a x y q z) = cc (first_plain a, maybe_expr_plain x, maybe_expr_plain y, stmt_plain z)
  stmt_plain (b.ForIn' a x q y) = cc (loop_target_plain a, expr_plain x, stmt_plain y)
  stmt_plain (b.Continue n at) = ap t.continue (name_plain n)
  stmt_plain (b.Break n at) = ap t.break (name_plain n)
  stmt_plain (b.Return' x at) = ap t.return (maybe_expr_plain x)
  stmt_plain (b.With' x q y at) = cc (expr_plain x, stmt_plain y)
  stmt_plain (b.Switch' x s xs) = cc (expr_plain x, cases_plain xs)
  stmt_plain (b.Label' n q y) = cc (stmt_plain y)
  stmt_plain (b.Throw x) = ap t.throw (expr_plain x)
  stmt_plain (b.Try' s xs y z) = cc (stmts_plain xs, handler_plain y, maybe_block_plain z)
  stmt_plain (b.Stmt::Func' name params s body at) = cc (name_plain name, names_plain params.items, stmts_plain body)

  stmts_plain : {m : _} (xs : b.Row_of-Stmt m) → plain t.stmts (p.stmts xs) ≡ v.stmts xs
  stmts_plain b.end_of-Stmt = refl
  stmts_plain (b.more_of-Stmt x xs) = cc (stmt_plain x, stmts_plain xs)

  items_plain : {m : _} (xs : b.Row_of-VarItem m) → plain t.items (p.items xs) ≡ v.items xs
  items_plain b.end_of-VarItem = refl
  items_plain (b.more_of-VarItem n x xs) = cc (maybe_expr_plain x, items_plain xs)

  cases_plain : {m : _} (xs : b.Row_of-Case m) → plain t.cases (p.cases xs) ≡ v.cases xs
  cases_plain b.end_of-Case = refl
  cases_plain (b.more_of-Case x s body xs) = cc (maybe_expr_plain x, stmts_plain body, cases_plain xs)

  maybe_expr_plain : (x : b.Held-Stmt-For-1) → plain t.maybe_expr (p.maybe_expr x) ≡ v.maybe_expr x
  maybe_expr_plain b.Stmt-For-1-None' = refl
  maybe_expr_plain (b.Stmt-For-1-Some' x) = ap t.some_expr (expr_plain x)

  maybe_stmt_plain : (x : b.Held-Stmt-If-2) → plain t.maybe_stmt (p.maybe_stmt x) ≡ v.maybe_stmt x
  maybe_stmt_plain b.Stmt-If-2-None' = refl
  maybe_stmt_plain (b.Stmt-If-2-Some' q x) = ap t.some_stmt (stmt_plain x)

  handler_plain : (x : b.Held-Stmt-Try-1) → plain t.handler (p.handler x) ≡ v.handler x
  handler_plain b.Stmt-Try-1-None' = refl
  handler_plain (b.Stmt-Try-1-Some' n s xs) = cc (stmts_plain xs)

  maybe_block_plain : (x : b.Held-Stmt-Try-2) → plain t.maybe_block (p.maybe_block x) ≡ v.maybe_block x
  maybe_block_plain b.Stmt-Try-2-None' = refl
  maybe_block_plain (b.Stmt-Try-2-Some' s xs) = ap t.some_block (stmts_plain xs)

  first_plain : (x : First) → plain t.first (p.first x) ≡ v.first x
  first_plain b.None = refl
  first_plain (b.First::Var' s xs) = ap t.first_var (items_plain xs)
  first_plain (b.First::Expr x) = ap t.first_expr (expr_plain x)

  loop_target_plain : (x : Loop) → plain t.loop_target (p.loop_target x) ≡ v.loop_target x
  loop_target_plain (b.Loop::Var n) = refl
  loop_target_plain (b.Target x) = ap t.loop_expr (expr_plain x)

statements_plain : (ss : List Stmt) → plain t.stmts (p.of_stmts ss) ≡ v.of_stmts ss
statements_plain [] = refl
statements_plain (s ∷ ss) = cc (stmt_plain s, statements_plain ss)

pub program_plain : (x : Program) → plain t.program (p.program x) ≡ v.program x
program_plain x = ap t.script (statements_plain x.body.items)
