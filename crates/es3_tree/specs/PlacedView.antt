-- What a tree of the program says, with its places.
use Rattle.std.specs.Prelude.{List, [], ◌∷◌, map, Option, Some, None}
use Rattle.std.specs.Global.{Vec, Box}
use Rattle.es3_tree.specs.declared.Name.{Name}
use Rattle.es3_tree.specs.declared.Expr.{Expr}
use Rattle.es3_tree.specs.declared.Stmt.{Stmt}
use Rattle.es3_tree.specs.declared.Case.{Case}
use Rattle.es3_tree.specs.declared.VarItem.{VarItem}
use Rattle.es3_tree.specs.declared.First.{First}
use Rattle.es3_tree.specs.declared.Loop.{Loop}
use Rattle.es3_tree.specs.declared.Func.{Func}
use Rattle.es3_tree.specs.declared.Program.{Program}
use Rattle.es3_tree.specs.declared.Expr.TheBlock as b
use Rattle.es3_tree.specs.Tree as t
use Rattle.es3_tree.specs.Placed as placed
use Rattle.es3_tree.specs.Placed.{Word}

-- a name, and where it begins
abbrev pub word : Name → Word
word n = record { text = n.text; at = n.at }

abbrev pub word_of : Option Name → Option Word
word_of None = None
word_of (Some n) = Some (word n)

abbrev pub words : List Name → List Word
words ns = map word ns

-- a `Row_of-..` is how a recursive type holds a list, a `Held-..` an option: a pointer or a shape before each part is ignored
abbrev mutual
  pub expr : Expr → placed.Placed t.expr
  expr (b.This at) = placed.this at
  expr b.Null = placed.null
  expr (b.Bool v) = placed.bool v
  expr (b.Num n) = placed.num n
  expr (b.Text u) = placed.text u
  expr (b.Name n) = placed.name (word n)
  expr (b.Array' s xs) = placed.array (exprs xs)
  expr (b.Object' s xs) = placed.object (fields xs)
  expr (b.Expr::Func' p name params s body at) = placed.function (placed.fun (word_of name) (words params.items) (stmts body) at)
  expr (b.Dot' p x n) = placed.dot (expr x) (word n)
  expr (b.Index' p x q y) = placed.index (expr x) (expr y)
  expr (b.Call' p x s xs) = placed.call (expr x) (exprs xs)
  expr (b.New' p x s xs) = placed.new (expr x) (exprs xs)
  expr (b.Unary' op p x at) = placed.unary op (expr x) at
  expr (b.Step' up before p x) = placed.step up before (expr x)
  expr (b.Binary' op p x q y) = placed.binary op (expr x) (expr y)
  expr (b.And' p x q y) = placed.and (expr x) (expr y)
  expr (b.Or' p x q y) = placed.or (expr x) (expr y)
  expr (b.Cond' p x q y r z) = placed.choice (expr x) (expr y) (expr z)
  expr (b.Assign' op p x q y) = placed.assign op (expr x) (expr y)
  expr (b.Comma' p x q y) = placed.comma (expr x) (expr y)

  pub exprs : {m : _} → b.Row_of-Expr m → placed.Placed t.exprs
  exprs b.end_of-Expr = placed.no_exprs
  exprs (b.more_of-Expr x xs) = placed.more_exprs (expr x) (exprs xs)

  pub fields : {m : _} → b.Row_of-Expr-Object-0-2 m → placed.Placed t.fields
  fields b.end_of-Expr-Object-0-2 = placed.no_fields
  fields (b.more_of-Expr-Object-0-2 n x xs) = placed.more_fields (word n) (expr x) (fields xs)

  pub stmt : Stmt → placed.Placed t.stmt
  stmt (b.Block' s xs) = placed.block (stmts xs)
  stmt (b.Stmt::Var' s xs) = placed.var (items xs)
  stmt b.Empty = placed.empty
  stmt (b.Stmt::Expr x) = placed.expression (expr x)
  stmt (b.If' x p y z) = placed.branch (expr x) (stmt y) (maybe_stmt z)
  stmt (b.While' x p y) = placed.while_loop (expr x) (stmt y)
  stmt (b.Do' p y x) = placed.do_loop (stmt y) (expr x)
  stmt (b.For' a x y p z) = placed.for_loop (first a) (maybe_expr x) (maybe_expr y) (stmt z)
  stmt (b.ForIn' a x p y) = placed.for_in (loop_target a) (expr x) (stmt y)
  stmt (b.Continue n at) = placed.continue (word_of n) at
  stmt (b.Break n at) = placed.break (word_of n) at
  stmt (b.Return' x at) = placed.return (maybe_expr x) at
  stmt (b.With' x p y at) = placed.with_object (expr x) (stmt y) at
  stmt (b.Switch' x s xs) = placed.switch (expr x) (cases xs)
  stmt (b.Label' n p y) = placed.label (word n) (stmt y)
  stmt (b.Throw x) = placed.throw (expr x)
  stmt (b.Try' s xs y z) = placed.try (stmts xs) (handler y) (maybe_block z)
  stmt (b.Stmt::Func' name params s body at) = placed.declare (placed.fun (word_of name) (words params.items) (stmts body) at)

  pub stmts : {m : _} → b.Row_of-Stmt m → placed.Placed t.stmts
  stmts b.end_of-Stmt = placed.no_stmts
  stmts (b.more_of-Stmt x xs) = placed.more_stmts (stmt x) (stmts xs)

  pub items : {m : _} → b.Row_of-VarItem m → placed.Placed t.items
  items b.end_of-VarItem = placed.no_items
  items (b.more_of-VarItem n x xs) = placed.more_items (word n) (maybe_expr x) (items xs)

  pub cases : {m : _} → b.Row_of-Case m → placed.Placed t.cases
  cases b.end_of-Case = placed.no_cases
  cases (b.more_of-Case x s body xs) = placed.more_cases (maybe_expr x) (stmts body) (cases xs)

  pub maybe_expr : b.Held-Stmt-For-1 → placed.Placed t.maybe_expr
  maybe_expr b.Stmt-For-1-None' = placed.no_expr
  maybe_expr (b.Stmt-For-1-Some' x) = placed.some_expr (expr x)

  pub maybe_stmt : b.Held-Stmt-If-2 → placed.Placed t.maybe_stmt
  maybe_stmt b.Stmt-If-2-None' = placed.no_stmt
  maybe_stmt (b.Stmt-If-2-Some' p x) = placed.some_stmt (stmt x)

  pub handler : b.Held-Stmt-Try-1 → placed.Placed t.handler
  handler b.Stmt-Try-1-None' = placed.no_handler
  handler (b.Stmt-Try-1-Some' n s xs) = placed.some_handler (word n) (stmts xs)

  pub maybe_block : b.Held-Stmt-Try-2 → placed.Placed t.maybe_block
  maybe_block b.Stmt-Try-2-None' = placed.no_block
  maybe_block (b.Stmt-Try-2-Some' s xs) = placed.some_block (stmts xs)

  pub first : First → placed.Placed t.first
  first b.None = placed.no_first
  first (b.First::Var' s xs) = placed.first_var (items xs)
  first (b.First::Expr x) = placed.first_expr (expr x)

  pub loop_target : Loop → placed.Placed t.loop_target
  loop_target (b.Loop::Var n) = placed.loop_var (word n)
  loop_target (b.Target x) = placed.loop_expr (expr x)

-- the same of lists, and of parts that may be absent
abbrev pub of_exprs : List Expr → placed.Placed t.exprs
of_exprs [] = placed.no_exprs
of_exprs (x ∷ xs) = placed.more_exprs (expr x) (of_exprs xs)

abbrev pub of_stmts : List Stmt → placed.Placed t.stmts
of_stmts [] = placed.no_stmts
of_stmts (x ∷ xs) = placed.more_stmts (stmt x) (of_stmts xs)

abbrev pub of_maybe_expr : Option Expr → placed.Placed t.maybe_expr
of_maybe_expr None = placed.no_expr
of_maybe_expr (Some x) = placed.some_expr (expr x)

abbrev pub of_maybe_stmt : Option (Box Stmt) → placed.Placed t.maybe_stmt
of_maybe_stmt None = placed.no_stmt
of_maybe_stmt (Some x) = placed.some_stmt (stmt x.value)

abbrev pub of_fields : List (Name × Expr) → placed.Placed t.fields
of_fields [] = placed.no_fields
of_fields (x ∷ xs) = placed.more_fields (word x.0) (expr x.1) (of_fields xs)

abbrev pub of_items : List VarItem → placed.Placed t.items
of_items [] = placed.no_items
of_items (x ∷ xs) = placed.more_items (word x.name) (of_maybe_expr x.value) (of_items xs)

abbrev pub of_cases : List Case → placed.Placed t.cases
of_cases [] = placed.no_cases
of_cases (x ∷ xs) = placed.more_cases (of_maybe_expr x.test) (of_stmts x.body.items) (of_cases xs)

abbrev pub of_handler : Option (Name × Vec Stmt) → placed.Placed t.handler
of_handler None = placed.no_handler
of_handler (Some (n, body)) = placed.some_handler (word n) (of_stmts body.items)

abbrev pub of_maybe_block : Option (Vec Stmt) → placed.Placed t.maybe_block
of_maybe_block None = placed.no_block
of_maybe_block (Some body) = placed.some_block (of_stmts body.items)

-- a function (13), a program (14)
abbrev pub func : Func → placed.Placed t.func
func f = placed.fun (word_of f.name) (words f.params.items) (of_stmts f.body.items) f.at

abbrev pub program : Program → placed.Placed t.program
program p = placed.script (of_stmts p.body.items)
