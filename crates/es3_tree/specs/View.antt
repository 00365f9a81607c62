-- What a tree of the program says, apart from places.
use Rattle.std.specs.Prelude.{ℕ, List, [], ◌∷◌, map, Option, Some, None}
use Rattle.std.specs.Global.{Vec, Box}
use Rattle.es3_tree.specs.declared.Name.{Name}
use Rattle.es3_tree.specs.declared.Expr.{Expr}
use Rattle.es3_tree.specs.declared.Stmt.{Stmt}
use Rattle.es3_tree.specs.declared.Case.{Case}
use Rattle.es3_tree.specs.declared.VarItem.{VarItem}
use Rattle.es3_tree.specs.declared.First.{First}
use Rattle.es3_tree.specs.declared.Loop.{Loop}
use Rattle.es3_tree.specs.declared.Func.{Func}
use Rattle.es3_tree.specs.declared.Program.{Program}
use Rattle.es3_tree.specs.declared.Expr.TheBlock as b
use Rattle.es3_tree.specs.Tree as t

-- the units of a name
abbrev pub text : Name → List ℕ
text n = n.text

abbrev pub text_of : Option Name → Option (List ℕ)
text_of None = None
text_of (Some n) = Some n.text

abbrev pub names : List Name → List (List ℕ)
names ns = map text ns

-- a `Row_of-..` is how a recursive type holds a list, a `Held-..` an option: a pointer or a shape before each part is ignored
abbrev mutual
  pub expr : Expr → t.Tree t.expr
  expr (b.This at) = t.this
  expr b.Null = t.null
  expr (b.Bool v) = t.bool v
  expr (b.Num n) = t.num n
  expr (b.Text u) = t.text u
  expr (b.Name n) = t.name n.text
  expr (b.Array' s xs) = t.array (exprs xs)
  expr (b.Object' s xs) = t.object (fields xs)
  expr (b.Expr::Func' p name params s body at) = t.function (t.fun (text_of name) (names params.items) (stmts body))
  expr (b.Dot' p x n) = t.dot (expr x) n.text
  expr (b.Index' p x q y) = t.index (expr x) (expr y)
  expr (b.Call' p x s xs) = t.call (expr x) (exprs xs)
  expr (b.New' p x s xs) = t.new (expr x) (exprs xs)
  expr (b.Unary' op p x at) = t.unary op (expr x)
  expr (b.Step' up before p x) = t.step up before (expr x)
  expr (b.Binary' op p x q y) = t.binary op (expr x) (expr y)
  expr (b.And' p x q y) = t.and (expr x) (expr y)
  expr (b.Or' p x q y) = t.or (expr x) (expr y)
  expr (b.Cond' p x q y r z) = t.choice (expr x) (expr y) (expr z)
  expr (b.Assign' op p x q y) = t.assign op (expr x) (expr y)
  expr (b.Comma' p x q y) = t.comma (expr x) (expr y)

  pub exprs : {m : _} → b.Row_of-Expr m → t.Tree t.exprs
  exprs b.end_of-Expr = t.no_exprs
  exprs (b.more_of-Expr x xs) = t.more_exprs (expr x) (exprs xs)

  pub fields : {m : _} → b.Row_of-Expr-Object-0-2 m → t.Tree t.fields
  fields b.end_of-Expr-Object-0-2 = t.no_fields
  fields (b.more_of-Expr-Object-0-2 n x xs) = t.more_fields n.text (expr x) (fields xs)

  pub stmt : Stmt → t.Tree t.stmt
  stmt (b.Block' s xs) = t.block (stmts xs)
  stmt (b.Stmt::Var' s xs) = t.var (items xs)
  stmt b.Empty = t.empty
  stmt (b.Stmt::Expr x) = t.expression (expr x)
  stmt (b.If' x p y z) = t.branch (expr x) (stmt y) (maybe_stmt z)
  stmt (b.While' x p y) = t.while_loop (expr x) (stmt y)
  stmt (b.Do' p y x) = t.do_loop (stmt y) (expr x)
  stmt (b.For' a x y p z) = t.for_loop (first a) (maybe_expr x) (maybe_expr y) (stmt z)
  stmt (b.ForIn' a x p y) = t.for_in (loop_target a) (expr x) (stmt y)
  stmt (b.Continue n at) = t.continue (text_of n)
  stmt (b.Break n at) = t.break (text_of n)
  stmt (b.Return' x at) = t.return (maybe_expr x)
  stmt (b.With' x p y at) = t.with_object (expr x) (stmt y)
  stmt (b.Switch' x s xs) = t.switch (expr x) (cases xs)
  stmt (b.Label' n p y) = t.label n.text (stmt y)
  stmt (b.Throw x) = t.throw (expr x)
  stmt (b.Try' s xs y z) = t.try (stmts xs) (handler y) (maybe_block z)
  stmt (b.Stmt::Func' name params s body at) = t.declare (t.fun (text_of name) (names params.items) (stmts body))

  pub stmts : {m : _} → b.Row_of-Stmt m → t.Tree t.stmts
  stmts b.end_of-Stmt = t.no_stmts
  stmts (b.more_of-Stmt x xs) = t.more_stmts (stmt x) (stmts xs)

  pub items : {m : _} → b.Row_of-VarItem m → t.Tree t.items
  items b.end_of-VarItem = t.no_items
  items (b.more_of-VarItem n x xs) = t.more_items n.text (maybe_expr x) (items xs)

  pub cases : {m : _} → b.Row_of-Case m → t.Tree t.cases
  cases b.end_of-Case = t.no_cases
  cases (b.more_of-Case x s body xs) = t.more_cases (maybe_expr x) (stmts body) (cases xs)

  pub maybe_expr : b.Held-Stmt-For-1 → t.Tree t.maybe_expr
  maybe_expr b.Stmt-For-1-None' = t.no_expr
  maybe_expr (b.Stmt-For-1-Some' x) = t.some_expr (expr x)

  pub maybe_stmt : b.Held-Stmt-If-2 → t.Tree t.maybe_stmt
  maybe_stmt b.Stmt-If-2-None' = t.no_stmt
  maybe_stmt (b.Stmt-If-2-Some' p x) = t.some_stmt (stmt x)

  pub handler : b.Held-Stmt-Try-1 → t.Tree t.handler
  handler b.Stmt-Try-1-None' = t.no_handler
  handler (b.Stmt-Try-1-Some' n s xs) = t.some_handler n.text (stmts xs)

  pub maybe_block : b.Held-Stmt-Try-2 → t.Tree t.maybe_block
  maybe_block b.Stmt-Try-2-None' = t.no_block
  maybe_block (b.Stmt-Try-2-Some' s xs) = t.some_block (stmts xs)

  pub first : First → t.Tree t.first
  first b.None = t.no_first
  first (b.First::Var' s xs) = t.first_var (items xs)
  first (b.First::Expr x) = t.first_expr (expr x)

  pub loop_target : Loop → t.Tree t.loop_target
  loop_target (b.Loop::Var n) = t.loop_var n.text
  loop_target (b.Target x) = t.loop_expr (expr x)

-- the same of lists, and of parts that may be absent
abbrev pub of_exprs : List Expr → t.Tree t.exprs
of_exprs [] = t.no_exprs
of_exprs (x ∷ xs) = t.more_exprs (expr x) (of_exprs xs)

abbrev pub of_stmts : List Stmt → t.Tree t.stmts
of_stmts [] = t.no_stmts
of_stmts (x ∷ xs) = t.more_stmts (stmt x) (of_stmts xs)

abbrev pub of_maybe_expr : Option Expr → t.Tree t.maybe_expr
of_maybe_expr None = t.no_expr
of_maybe_expr (Some x) = t.some_expr (expr x)

abbrev pub of_maybe_stmt : Option (Box Stmt) → t.Tree t.maybe_stmt
of_maybe_stmt None = t.no_stmt
of_maybe_stmt (Some x) = t.some_stmt (stmt x.value)

abbrev pub of_fields : List (Name × Expr) → t.Tree t.fields
of_fields [] = t.no_fields
of_fields (x ∷ xs) = t.more_fields x.0.text (expr x.1) (of_fields xs)

abbrev pub of_items : List VarItem → t.Tree t.items
of_items [] = t.no_items
of_items (x ∷ xs) = t.more_items x.name.text (of_maybe_expr x.value) (of_items xs)

abbrev pub of_cases : List Case → t.Tree t.cases
of_cases [] = t.no_cases
of_cases (x ∷ xs) = t.more_cases (of_maybe_expr x.test) (of_stmts x.body.items) (of_cases xs)

abbrev pub of_handler : Option (Name × Vec Stmt) → t.Tree t.handler
of_handler None = t.no_handler
of_handler (Some (n, body)) = t.some_handler n.text (of_stmts body.items)

abbrev pub of_maybe_block : Option (Vec Stmt) → t.Tree t.maybe_block
of_maybe_block None = t.no_block
of_maybe_block (Some body) = t.some_block (of_stmts body.items)

-- a function (13), a program (14)
abbrev pub func : Func → t.Tree t.func
func f = t.fun (text_of f.name) (names f.params.items) (of_stmts f.body.items)

abbrev pub program : Program → t.Tree t.program
program p = t.script (of_stmts p.body.items)
