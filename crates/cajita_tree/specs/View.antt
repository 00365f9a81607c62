-- What a module of the program says, apart from memory.
use Rattle.std.specs.Prelude.{ℕ, List, [], ◌∷◌, Option, Some, None}
use Rattle.std.specs.Global.{Vec, Box}
use Rattle.cajita_tree.specs.declared.Key.{Key}
use Rattle.cajita_tree.specs.declared.Target.{Target}
use Rattle.cajita_tree.specs.declared.CExpr.{CExpr}
use Rattle.cajita_tree.specs.declared.CVarItem.{CVarItem}
use Rattle.cajita_tree.specs.declared.CCase.{CCase}
use Rattle.cajita_tree.specs.declared.CFirst.{CFirst}
use Rattle.cajita_tree.specs.declared.CStmt.{CStmt}
use Rattle.cajita_tree.specs.declared.CFunc.{CFunc}
use Rattle.cajita_tree.specs.declared.CBody.{CBody}
use Rattle.cajita_tree.specs.declared.Module.{Module}
use Rattle.cajita_tree.specs.declared.CExpr.TheBlock as b
use Rattle.cajita_tree.specs.Tree as c

-- a `Row_of-..` is how a recursive type holds a list, a `Held-..` an option: a pointer or a shape before each part is ignored
abbrev mutual
  pub expr : CExpr → c.Tree c.expr
  expr b.Null = c.null
  expr (b.Bool v) = c.bool v
  expr (b.Num n) = c.num n
  expr (b.Text u) = c.text u
  expr (b.Name x) = c.name x
  expr b.Args = c.args
  expr (b.Array' s xs) = c.array (exprs xs)
  expr (b.Record' s xs) = c.record_of (fields xs)
  expr (b.Func' p f) = c.function (func f)
  expr (b.Read' p x k) = c.read (expr x) (key k)
  expr (b.Call' p x s xs) = c.call (expr x) (exprs xs)
  expr (b.Method' p x k s xs) = c.method (expr x) (key k) (exprs xs)
  expr (b.New' p x s xs) = c.new (expr x) (exprs xs)
  expr (b.Delete' p x k) = c.delete (expr x) (key k)
  expr (b.Step up before x) = c.step up before (target x)
  expr (b.Assign' op x p y) = c.assign op (target x) (expr y)
  expr (b.Unary' op p x) = c.unary op (expr x)
  expr (b.Binary' op p x q y) = c.binary op (expr x) (expr y)
  expr (b.And' p x q y) = c.and (expr x) (expr y)
  expr (b.Or' p x q y) = c.or (expr x) (expr y)
  expr (b.Cond' p x q y r z) = c.choice (expr x) (expr y) (expr z)
  expr (b.Comma' p x q y) = c.comma (expr x) (expr y)

  pub exprs : {m : _} → b.Row_of-CExpr m → c.Tree c.exprs
  exprs b.end_of-CExpr = c.no_exprs
  exprs (b.more_of-CExpr x xs) = c.more_exprs (expr x) (exprs xs)

  pub fields : {m : _} → b.Row_of-CExpr-Record-0-2 m → c.Tree c.fields
  fields b.end_of-CExpr-Record-0-2 = c.no_fields
  fields (b.more_of-CExpr-Record-0-2 k x xs) = c.more_fields k (expr x) (fields xs)

  pub key : Key → c.Tree c.key
  key (b.Fixed k) = c.fixed k
  key (b.Computed' p x) = c.computed (expr x)

  pub target : Target → c.Tree c.target
  target (b.Target::Var x) = c.variable x
  target (b.Member' p x k) = c.member (expr x) (key k)

  pub maybe_expr : b.Held-CStmt-For-1 → c.Tree c.maybe_expr
  maybe_expr b.CStmt-For-1-None' = c.no_expr
  maybe_expr (b.CStmt-For-1-Some' x) = c.some_expr (expr x)

  pub stmt : CStmt → c.Tree c.stmt
  stmt (b.Block' s xs) = c.block (stmts xs)
  stmt (b.CStmt::Var' s xs) = c.var (items xs)
  stmt b.Empty = c.empty
  stmt (b.CStmt::Expr x) = c.expression (expr x)
  stmt (b.If' x p y z) = c.branch (expr x) (stmt y) (maybe_stmt z)
  stmt (b.While' x p y) = c.while_loop (expr x) (stmt y)
  stmt (b.Do' p y x) = c.do_loop (stmt y) (expr x)
  stmt (b.For' a x y p z) = c.for_loop (first a) (maybe_expr x) (maybe_expr y) (stmt z)
  stmt (b.ForIn' a x p y) = c.for_in (target a) (expr x) (stmt y)
  stmt (b.Continue l) = c.continue l
  stmt (b.Break l) = c.break l
  stmt (b.Return' x) = c.return (maybe_expr x)
  stmt (b.Switch' x s xs) = c.switch (expr x) (cases xs)
  stmt (b.Label' l p y) = c.label l (stmt y)
  stmt (b.Throw x) = c.throw (expr x)
  stmt (b.Try' s xs y z) = c.try (stmts xs) (handler y) (maybe_block z)

  pub stmts : {m : _} → b.Row_of-CStmt m → c.Tree c.stmts
  stmts b.end_of-CStmt = c.no_stmts
  stmts (b.more_of-CStmt x xs) = c.more_stmts (stmt x) (stmts xs)

  pub items : {m : _} → b.Row_of-CVarItem m → c.Tree c.items
  items b.end_of-CVarItem = c.no_items
  items (b.more_of-CVarItem n x xs) = c.more_items n (maybe_expr x) (items xs)

  pub maybe_stmt : b.Held-CStmt-If-2 → c.Tree c.maybe_stmt
  maybe_stmt b.CStmt-If-2-None' = c.no_stmt
  maybe_stmt (b.CStmt-If-2-Some' p x) = c.some_stmt (stmt x)

  pub cases : {m : _} → b.Row_of-CCase m → c.Tree c.cases
  cases b.end_of-CCase = c.no_cases
  cases (b.more_of-CCase x s ys xs) = c.more_cases (maybe_expr x) (stmts ys) (cases xs)

  pub handler : b.Held-CStmt-Try-1 → c.Tree c.handler
  handler b.CStmt-Try-1-None' = c.no_handler
  handler (b.CStmt-Try-1-Some' n s xs) = c.some_handler n (stmts xs)

  pub maybe_block : b.Held-CStmt-Try-2 → c.Tree c.maybe_block
  maybe_block b.CStmt-Try-2-None' = c.no_block
  maybe_block (b.CStmt-Try-2-Some' s xs) = c.some_block (stmts xs)

  pub first : CFirst → c.Tree c.first
  first b.None = c.no_first
  first (b.CFirst::Var' s xs) = c.first_var (items xs)
  first (b.CFirst::Expr x) = c.first_expr (expr x)

  pub func : CFunc → c.Tree c.func
  func (b.struct-CFunc name params args y) = c.fun name params.items args (body y)

  pub funcs : {m : _} → b.Row_of-CFunc m → c.Tree c.funcs
  funcs b.end_of-CFunc = c.no_funcs
  funcs (b.more_of-CFunc x xs) = c.more_funcs (func x) (funcs xs)

  pub body : CBody → c.Tree c.body
  body (b.struct-CBody s fs vars t xs) = c.a_body (funcs fs) vars.items (stmts xs)

-- the same of lists, and of parts that may be absent
abbrev pub of_exprs : List CExpr → c.Tree c.exprs
of_exprs [] = c.no_exprs
of_exprs (x ∷ xs) = c.more_exprs (expr x) (of_exprs xs)

abbrev pub of_fields : List (List ℕ × CExpr) → c.Tree c.fields
of_fields [] = c.no_fields
of_fields (x ∷ xs) = c.more_fields x.0 (expr x.1) (of_fields xs)

abbrev pub of_maybe_expr : Option CExpr → c.Tree c.maybe_expr
of_maybe_expr None = c.no_expr
of_maybe_expr (Some x) = c.some_expr (expr x)

abbrev pub of_stmts : List CStmt → c.Tree c.stmts
of_stmts [] = c.no_stmts
of_stmts (x ∷ xs) = c.more_stmts (stmt x) (of_stmts xs)

abbrev pub of_items : List CVarItem → c.Tree c.items
of_items [] = c.no_items
of_items (x ∷ xs) = c.more_items x.name (of_maybe_expr x.value) (of_items xs)

abbrev pub of_maybe_stmt : Option (Box CStmt) → c.Tree c.maybe_stmt
of_maybe_stmt None = c.no_stmt
of_maybe_stmt (Some x) = c.some_stmt (stmt x.value)

abbrev pub of_cases : List CCase → c.Tree c.cases
of_cases [] = c.no_cases
of_cases (x ∷ xs) = c.more_cases (of_maybe_expr x.test) (of_stmts x.body.items) (of_cases xs)

abbrev pub of_handler : Option (List ℕ × Vec CStmt) → c.Tree c.handler
of_handler None = c.no_handler
of_handler (Some (n, body)) = c.some_handler n (of_stmts body.items)

abbrev pub of_maybe_block : Option (Vec CStmt) → c.Tree c.maybe_block
of_maybe_block None = c.no_block
of_maybe_block (Some body) = c.some_block (of_stmts body.items)

abbrev pub of_funcs : List CFunc → c.Tree c.funcs
of_funcs [] = c.no_funcs
of_funcs (x ∷ xs) = c.more_funcs (func x) (of_funcs xs)

-- a module
abbrev pub module_view : Module → c.Tree c.program
module_view m = c.a_module m.imports.items (body m.body)
