-- The plain tree of each tree that the machine runs.
use Rattle.std.specs.Prelude.{ℕ, List, [], ◌∷◌, map, drop, Option, None, Some}
use Rattle.std.specs.declared.rc.Rc.{Rc}
use Rattle.std.specs.Global.{Global}
use Rattle.es3_tree.specs.Tree as t
use Rattle.es3_tree.specs.declared.UnOp.{UnOp}
use Rattle.es3_tree.specs.declared.UnOp.TheVariants as un
use Rattle.es3_moves.specs.declared.code.Prefix.{Prefix}
use Rattle.es3_moves.specs.declared.code.Prefix.TheVariants as prefix
use Rattle.es3_moves.specs.declared.code.ExprCode.{ExprCode}
use Rattle.es3_moves.specs.declared.code.FieldCode.{FieldCode}
use Rattle.es3_moves.specs.declared.code.FuncCode.{FuncCode}
use Rattle.es3_moves.specs.declared.code.VarCode.{VarCode}
use Rattle.es3_moves.specs.declared.code.CaseCode.{CaseCode}
use Rattle.es3_moves.specs.declared.code.CatchCode.{CatchCode}
use Rattle.es3_moves.specs.declared.code.FinallyCode.{FinallyCode}
use Rattle.es3_moves.specs.declared.code.FirstCode.{FirstCode}
use Rattle.es3_moves.specs.declared.code.TargetCode.{TargetCode}
use Rattle.es3_moves.specs.declared.code.StmtCode.{StmtCode}
use Rattle.es3_moves.specs.declared.code.ExprCode.TheBlock as b

-- the units of a name, of a name that may be absent, of names
abbrev pub units_of : Rc (List ℕ) Global → List ℕ
units_of x = x.value

abbrev pub maybe_units : Option (Rc (List ℕ) Global) → Option (List ℕ)
maybe_units None = None
maybe_units (Some x) = Some x.value

abbrev pub names_of : List (Rc (List ℕ) Global) → List (List ℕ)
names_of = map units_of

abbrev pub plain_prefix : Prefix → UnOp
plain_prefix prefix.Void = un.Void
plain_prefix prefix.Plus = un.Plus
plain_prefix prefix.Minus = un.Minus
plain_prefix prefix.BitNot = un.BitNot
plain_prefix prefix.Not = un.Not

-- a `Row_of-..` is how a recursive type holds a list, a `Held-..` an option: a pointer or a shape before each part is ignored
abbrev mutual
  pub plain_expr : ExprCode → t.Tree t.expr
  plain_expr b.This = t.this
  plain_expr b.Null = t.null
  plain_expr (b.Bool x) = t.bool x
  plain_expr (b.Num n) = t.num n
  plain_expr (b.Text us) = t.text us
  plain_expr (b.Name x) = t.name x.value
  plain_expr (b.Array' p s es) = t.array (expr_row es)
  plain_expr (b.Object' p s fs) = t.object (field_row fs)
  plain_expr (b.ExprCode::Function' p name params q s body) = t.function (t.fun (maybe_units name) (names_of params.value.items) (stmt_row body))
  plain_expr (b.Dot' p e k) = t.dot (plain_expr e) k.value
  plain_expr (b.Index' p e q f) = t.index (plain_expr e) (plain_expr f)
  plain_expr (b.Call' p f q s es) = t.call (plain_expr f) (expr_row es)
  plain_expr (b.New' p f q s es) = t.new (plain_expr f) (expr_row es)
  plain_expr (b.Delete' p e) = t.unary un.Delete (plain_expr e)
  plain_expr (b.Typeof' p e) = t.unary un.Typeof (plain_expr e)
  plain_expr (b.Prefix' op p e) = t.unary (plain_prefix op) (plain_expr e)
  plain_expr (b.Step' up before p e) = t.step up before (plain_expr e)
  plain_expr (b.Binary' op p x q y) = t.binary op (plain_expr x) (plain_expr y)
  plain_expr (b.And' p x q y) = t.and (plain_expr x) (plain_expr y)
  plain_expr (b.Or' p x q y) = t.or (plain_expr x) (plain_expr y)
  plain_expr (b.Cond' p c q x r y) = t.choice (plain_expr c) (plain_expr x) (plain_expr y)
  plain_expr (b.Assign' p x q e) = t.assign None (plain_expr x) (plain_expr e)
  plain_expr (b.Compound' op p x q e) = t.assign (Some op) (plain_expr x) (plain_expr e)
  plain_expr (b.Comma' p x q y) = t.comma (plain_expr x) (plain_expr y)

  pub expr_row : {m : _} → b.Row_of-ExprCode-Array-0-1 m → t.Tree t.exprs
  expr_row b.end_of-ExprCode-Array-0-1 = t.no_exprs
  expr_row (b.more_of-ExprCode-Array-0-1 p e es) = t.more_exprs (plain_expr e) (expr_row es)

  pub field_row : {m : _} → b.Row_of-FieldCode m → t.Tree t.fields
  field_row b.end_of-FieldCode = t.no_fields
  field_row (b.more_of-FieldCode k p e fs) = t.more_fields k.value (plain_expr e) (field_row fs)

  pub plain_stmt : StmtCode → t.Tree t.stmt
  plain_stmt (b.Block' p s xs) = t.block (stmt_row xs)
  plain_stmt (b.StmtCode::Var' p s is) = t.var (var_row is)
  plain_stmt b.Empty = t.empty
  plain_stmt (b.StmtCode::Expr' p e) = t.expression (plain_expr e)
  plain_stmt (b.If' p e q x other) = t.branch (plain_expr e) (plain_stmt x) (held_stmt other)
  plain_stmt (b.While' p e q x) = t.while_loop (plain_expr e) (plain_stmt x)
  plain_stmt (b.Do' p x q e) = t.do_loop (plain_stmt x) (plain_expr e)
  plain_stmt (b.For' p i e u q x) = t.for_loop (plain_first i) (held_expr e) (held_expr u) (plain_stmt x)
  plain_stmt (b.ForIn' p x q e r y) = t.for_in (plain_target x) (plain_expr e) (plain_stmt y)
  plain_stmt (b.Continue l) = t.continue (maybe_units l)
  plain_stmt (b.Break l) = t.break (maybe_units l)
  plain_stmt (b.Return' e) = t.return (held_expr e)
  plain_stmt (b.With' p e q x) = t.with_object (plain_expr e) (plain_stmt x)
  plain_stmt (b.Switch' p e q s cs) = t.switch (plain_expr e) (case_row cs)
  plain_stmt (b.Label' l p x) = t.label l.value (plain_stmt x)
  plain_stmt (b.Throw' p e) = t.throw (plain_expr e)
  plain_stmt (b.Try' p s xs h f) = t.try (stmt_row xs) (held_catch h) (held_finally f)
  plain_stmt (b.StmtCode::Function' p name params q s body) = t.declare (t.fun (maybe_units name) (names_of params.value.items) (stmt_row body))

  pub stmt_row : {m : _} → b.Row_of-StmtCode-Block-0-1 m → t.Tree t.stmts
  stmt_row b.end_of-StmtCode-Block-0-1 = t.no_stmts
  stmt_row (b.more_of-StmtCode-Block-0-1 p x xs) = t.more_stmts (plain_stmt x) (stmt_row xs)

  pub var_row : {m : _} → b.Row_of-VarCode m → t.Tree t.items
  var_row b.end_of-VarCode = t.no_items
  var_row (b.more_of-VarCode x e is) = t.more_items x.value (held_expr e) (var_row is)

  pub case_row : {m : _} → b.Row_of-CaseCode m → t.Tree t.cases
  case_row b.end_of-CaseCode = t.no_cases
  case_row (b.more_of-CaseCode e p s xs cs) = t.more_cases (held_expr e) (stmt_row xs) (case_row cs)

  pub plain_first : FirstCode → t.Tree t.first
  plain_first b.None = t.no_first
  plain_first (b.FirstCode::Var' p s is) = t.first_var (var_row is)
  plain_first (b.FirstCode::Expr' p e) = t.first_expr (plain_expr e)

  pub plain_target : TargetCode → t.Tree t.loop_target
  plain_target (b.TargetCode::Var x) = t.loop_var x.value
  plain_target (b.TargetCode::Expr' p e) = t.loop_expr (plain_expr e)

  pub held_expr : b.Held-StmtCode-For-1 → t.Tree t.maybe_expr
  held_expr b.StmtCode-For-1-None' = t.no_expr
  held_expr (b.StmtCode-For-1-Some' p e) = t.some_expr (plain_expr e)

  pub held_stmt : b.Held-StmtCode-If-2 → t.Tree t.maybe_stmt
  held_stmt b.StmtCode-If-2-None' = t.no_stmt
  held_stmt (b.StmtCode-If-2-Some' p x) = t.some_stmt (plain_stmt x)

  pub held_catch : b.Held-StmtCode-Try-1 → t.Tree t.handler
  held_catch b.StmtCode-Try-1-None' = t.no_handler
  held_catch (b.StmtCode-Try-1-Some' p x q s xs) = t.some_handler x.value (stmt_row xs)

  pub held_finally : b.Held-StmtCode-Try-2 → t.Tree t.maybe_block
  held_finally b.StmtCode-Try-2-None' = t.no_block
  held_finally (b.StmtCode-Try-2-Some' p q s xs) = t.some_block (stmt_row xs)

-- the same of lists, and of parts that may be absent
abbrev pub plain_exprs : List (Rc ExprCode Global) → t.Tree t.exprs
plain_exprs [] = t.no_exprs
plain_exprs (e ∷ es) = t.more_exprs (plain_expr e.value) (plain_exprs es)

abbrev pub plain_fields : List FieldCode → t.Tree t.fields
plain_fields [] = t.no_fields
plain_fields (f ∷ fs) = t.more_fields f.key.value (plain_expr f.value.value) (plain_fields fs)

abbrev pub plain_stmts : List (Rc StmtCode Global) → t.Tree t.stmts
plain_stmts [] = t.no_stmts
plain_stmts (x ∷ xs) = t.more_stmts (plain_stmt x.value) (plain_stmts xs)

abbrev pub maybe_expr : Option (Rc ExprCode Global) → t.Tree t.maybe_expr
maybe_expr None = t.no_expr
maybe_expr (Some e) = t.some_expr (plain_expr e.value)

abbrev pub maybe_stmt : Option (Rc StmtCode Global) → t.Tree t.maybe_stmt
maybe_stmt None = t.no_stmt
maybe_stmt (Some x) = t.some_stmt (plain_stmt x.value)

abbrev pub maybe_catch : Option (Rc CatchCode Global) → t.Tree t.handler
maybe_catch None = t.no_handler
maybe_catch (Some c) = t.some_handler c.value.name.value (plain_stmts c.value.body.value.items)

abbrev pub maybe_finally : Option (Rc FinallyCode Global) → t.Tree t.maybe_block
maybe_finally None = t.no_block
maybe_finally (Some f) = t.some_block (plain_stmts f.value.body.value.items)

abbrev pub plain_vars : List VarCode → t.Tree t.items
plain_vars [] = t.no_items
plain_vars (x ∷ xs) = t.more_items x.name.value (maybe_expr x.value) (plain_vars xs)

abbrev pub plain_cases : List CaseCode → t.Tree t.cases
plain_cases [] = t.no_cases
plain_cases (c ∷ cs) = t.more_cases (maybe_expr c.test) (plain_stmts c.body.value.items) (plain_cases cs)

abbrev pub plain_func : FuncCode → t.Tree t.func
plain_func f = t.fun (maybe_units f.name) (names_of f.params.value.items) (plain_stmts f.body.value.items)

-- what is left of a list from a place on
abbrev pub exprs_at : List (Rc ExprCode Global) → ℕ → t.Tree t.exprs
exprs_at es at = plain_exprs (drop at es)

abbrev pub fields_at : List FieldCode → ℕ → t.Tree t.fields
fields_at fs at = plain_fields (drop at fs)

abbrev pub stmts_at : List (Rc StmtCode Global) → ℕ → t.Tree t.stmts
stmts_at xs at = plain_stmts (drop at xs)

abbrev pub vars_at : List VarCode → ℕ → t.Tree t.items
vars_at xs at = plain_vars (drop at xs)

abbrev pub cases_at : List CaseCode → ℕ → t.Tree t.cases
cases_at cs at = plain_cases (drop at cs)

abbrev pub names_at : List (Rc (List ℕ) Global) → ℕ → List (List ℕ)
names_at xs at = names_of (drop at xs)
