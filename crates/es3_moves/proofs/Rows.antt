-- The plain trees of code with lists and options in it.
use Rattle.std.proofs.Common.{◌≡◌, Option, None, Some, refl, ap, ◌∙◌, rules, Global}
use Rattle.std.specs.Global.{Vec}
use Rattle.std.specs.declared.rc.Rc.{Rc}
use Rattle.es3_tree.specs.Tree as t
use Rattle.es3_moves.specs.declared.code.ExprCode.{ExprCode, the_lemmas}
use Rattle.es3_moves.specs.declared.code.FieldCode.{FieldCode}
use Rattle.es3_moves.specs.declared.code.FuncCode.{FuncCode}
use Rattle.es3_moves.specs.declared.code.VarCode.{VarCode}
use Rattle.es3_moves.specs.declared.code.CaseCode.{CaseCode}
use Rattle.es3_moves.specs.declared.code.CatchCode.{CatchCode}
use Rattle.es3_moves.specs.declared.code.FinallyCode.{FinallyCode}
use Rattle.es3_moves.specs.declared.code.FirstCode.{FirstCode}
use Rattle.es3_moves.specs.declared.code.StmtCode.{StmtCode}
use Rattle.es3_moves.specs.declared.code.ExprCode.TheBlock as b
use Rattle.es3_moves.specs.declared.code.ExprCode.TheVariants as e
use Rattle.es3_moves.specs.declared.code.FirstCode.TheVariants as first
use Rattle.es3_moves.specs.declared.code.StmtCode.TheVariants as s
use Rattle.es3_moves.specs.Code.{plain_expr, plain_stmt, plain_first, plain_func, plain_exprs, plain_fields, plain_stmts, plain_vars, plain_cases, maybe_expr, maybe_stmt, maybe_catch, maybe_finally, expr_row, field_row, stmt_row, var_row, case_row}

pub exprs_row : {m : _} (es : b.Row_of-ExprCode-Array-0-1 m) → expr_row es ≡ plain_exprs (b.items-the_row-ExprCode-Array-0-1 m es)
exprs_row b.end_of-ExprCode-Array-0-1 = refl
exprs_row (b.more_of-ExprCode-Array-0-1 p e es) = ap (t.more_exprs (plain_expr e)) (exprs_row es)

pub fields_row : {m : _} (fs : b.Row_of-FieldCode m) → field_row fs ≡ plain_fields (b.items-the_row-FieldCode m fs)
fields_row b.end_of-FieldCode = refl
fields_row (b.more_of-FieldCode k p e fs) = ap (t.more_fields k.value (plain_expr e)) (fields_row fs)

pub stmts_row : {m : _} (xs : b.Row_of-StmtCode-Block-0-1 m) → stmt_row xs ≡ plain_stmts (b.items-the_row-StmtCode-Block-0-1 m xs)
stmts_row b.end_of-StmtCode-Block-0-1 = refl
stmts_row (b.more_of-StmtCode-Block-0-1 p x xs) = ap (t.more_stmts (plain_stmt x)) (stmts_row xs)

pub vars_row : {m : _} (xs : b.Row_of-VarCode m) → var_row xs ≡ plain_vars (b.items-the_row-VarCode m xs)
vars_row b.end_of-VarCode = refl
vars_row (b.more_of-VarCode x b.StmtCode-For-1-None' xs) = ap (t.more_items x.value t.no_expr) (vars_row xs)
vars_row (b.more_of-VarCode x (b.StmtCode-For-1-Some' p e) xs) = ap (t.more_items x.value (t.some_expr (plain_expr e))) (vars_row xs)

pub cases_row : {m : _} (cs : b.Row_of-CaseCode m) → case_row cs ≡ plain_cases (b.items-the_row-CaseCode m cs)
cases_row b.end_of-CaseCode = refl
cases_row (b.more_of-CaseCode b.StmtCode-For-1-None' p s xs cs) =
    let body : stmt_row xs ≡ plain_stmts (b.shown-the_row-StmtCode-Block-0-1-2 s xs).items = search (rules, the_lemmas, stmts_row) in
    ap (λ l. t.more_cases t.no_expr l (case_row cs)) body ∙ ap (λ l. t.more_cases t.no_expr (plain_stmts (b.shown-the_row-StmtCode-Block-0-1-2 s xs).items) l) (cases_row cs)
cases_row (b.more_of-CaseCode (b.StmtCode-For-1-Some' q e) p s xs cs) =
    let body : stmt_row xs ≡ plain_stmts (b.shown-the_row-StmtCode-Block-0-1-2 s xs).items = search (rules, the_lemmas, stmts_row) in
    ap (λ l. t.more_cases (t.some_expr (plain_expr e)) l (case_row cs)) body ∙ ap (λ l. t.more_cases (t.some_expr (plain_expr e)) (plain_stmts (b.shown-the_row-StmtCode-Block-0-1-2 s xs).items) l) (cases_row cs)

pub view_array : (es : Rc (Vec (Rc ExprCode Global)) Global) → plain_expr (e.Array es) ≡ t.array (plain_exprs es.value.items)
view_array es = search (rules, the_lemmas, exprs_row)

pub view_object : (fs : Rc (Vec FieldCode) Global) → plain_expr (e.Object fs) ≡ t.object (plain_fields fs.value.items)
view_object fs = search (rules, the_lemmas, fields_row)

pub view_function : (f : Rc FuncCode Global) → plain_expr (e.Function f) ≡ t.function (plain_func f.value)
view_function f = search (rules, the_lemmas, stmts_row)

pub view_call : (f : Rc ExprCode Global) (es : Rc (Vec (Rc ExprCode Global)) Global) → plain_expr (e.Call f es) ≡ t.call (plain_expr f.value) (plain_exprs es.value.items)
view_call f es = search (rules, the_lemmas, exprs_row)

pub view_new : (f : Rc ExprCode Global) (es : Rc (Vec (Rc ExprCode Global)) Global) → plain_expr (e.New f es) ≡ t.new (plain_expr f.value) (plain_exprs es.value.items)
view_new f es = search (rules, the_lemmas, exprs_row)

pub view_block : (xs : Rc (Vec (Rc StmtCode Global)) Global) → plain_stmt (s.Block xs) ≡ t.block (plain_stmts xs.value.items)
view_block xs = search (rules, the_lemmas, stmts_row)

pub view_var : (xs : Rc (Vec VarCode) Global) → plain_stmt (s.Var xs) ≡ t.var (plain_vars xs.value.items)
view_var xs = search (rules, the_lemmas, vars_row)

pub view_if : (e : Rc ExprCode Global) (x : Rc StmtCode Global) (o : Option (Rc StmtCode Global)) → plain_stmt (s.If e x o) ≡ t.branch (plain_expr e.value) (plain_stmt x.value) (maybe_stmt o)
view_if e x None = search (rules, the_lemmas)
view_if e x (Some o) = search (rules, the_lemmas)

pub view_for : (i : Rc FirstCode Global) (e u : Option (Rc ExprCode Global)) (x : Rc StmtCode Global) → plain_stmt (s.For i e u x) ≡ t.for_loop (plain_first i.value) (maybe_expr e) (maybe_expr u) (plain_stmt x.value)
view_for i None None x = search (rules, the_lemmas)
view_for i None (Some u) x = search (rules, the_lemmas)
view_for i (Some e) None x = search (rules, the_lemmas)
view_for i (Some e) (Some u) x = search (rules, the_lemmas)

pub view_first_var : (xs : Rc (Vec VarCode) Global) → plain_first (first.Var xs) ≡ t.first_var (plain_vars xs.value.items)
view_first_var xs = search (rules, the_lemmas, vars_row)

pub view_return : (e : Option (Rc ExprCode Global)) → plain_stmt (s.Return e) ≡ t.return (maybe_expr e)
view_return None = search (rules, the_lemmas)
view_return (Some e) = search (rules, the_lemmas)

pub view_switch : (e : Rc ExprCode Global) (cs : Rc (Vec CaseCode) Global) → plain_stmt (s.Switch e cs) ≡ t.switch (plain_expr e.value) (plain_cases cs.value.items)
view_switch e cs = search (rules, the_lemmas, cases_row)

pub view_try : (xs : Rc (Vec (Rc StmtCode Global)) Global) (h : Option (Rc CatchCode Global)) (f : Option (Rc FinallyCode Global)) → plain_stmt (s.Try xs h f) ≡ t.try (plain_stmts xs.value.items) (maybe_catch h) (maybe_finally f)
view_try xs None None = search (rules, the_lemmas, stmts_row)
view_try xs None (Some f) = search (rules, the_lemmas, stmts_row)
view_try xs (Some h) None = search (rules, the_lemmas, stmts_row)
view_try xs (Some h) (Some f) = search (rules, the_lemmas, stmts_row)

pub view_declare : (f : Rc FuncCode Global) → plain_stmt (s.Function f) ≡ t.declare (plain_func f.value)
view_declare f = search (rules, the_lemmas, stmts_row)
