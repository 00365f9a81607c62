-- The head of a body, and what its statements begin with.
use Rattle.std.proofs.Common.{◌≡◌, ℕ, ◌+◌, Bool, true, false, List, [], ◌∷◌, ◌++◌, Option, Some, None, refl, sym, ap, ◌∙◌, arith}
use Rattle.es3_tree.specs.declared.Stmt.{Stmt}
use Rattle.es3_tree.specs.Tree as t
use Rattle.es3_tree.specs.View as view
use Rattle.cajita_tree.specs.declared.CBody.{CBody}
use Rattle.cajita_tree.specs.declared.CFunc.{CFunc}
use Rattle.cajita_tree.specs.declared.CExpr.TheViews.{out-CFunc, out-CBody}
use Rattle.cajita_tree.specs.Tree as c
use Rattle.cajita_tree.specs.View as source
use Rattle.cajita_tree.proofs.Rows.{view_func, view_body}
use Rattle.rewrite_parts.proofs.Joined.{joined-assoc, items-assoc, temps-joined}
use Rattle.cajita_rewrite.proofs.Forms.{three}
use Rattle.cajita_rewrite.specs.Rewrite.{rewritten, temps, declared, joined, items_joined, name_items, temp_items, args_items, var_stmts, others, marks, func_mark, import_stmts, result_stmts, result_name, head_items}

-- statements behind statements
pub stmts-appended : (xs ys : List Stmt) → view.of_stmts (xs ++ ys) ≡ joined (view.of_stmts xs) (view.of_stmts ys)
stmts-appended [] ys = refl
stmts-appended (x ∷ xs) ys = ap (t.more_stmts (view.stmt x)) (stmts-appended xs ys)

pub var-joined : (is : t.Tree t.items) (rest : t.Tree t.stmts) → joined (var_stmts is t.no_stmts) rest ≡ var_stmts is rest
var-joined t.no_items rest = refl
var-joined (t.more_items x e is) rest = refl

mark-joined : (f : c.Tree c.func) (a rest : t.Tree t.stmts) → joined (func_mark f a) rest ≡ func_mark f (joined a rest)
mark-joined (c.fun None params args body) a rest = refl
mark-joined (c.fun (Some x) params args body) a rest = refl

pub marks-joined : (fs : c.Tree c.funcs) (rest : t.Tree t.stmts) → joined (marks fs t.no_stmts) rest ≡ marks fs rest
marks-joined c.no_funcs rest = refl
marks-joined (c.more_funcs f fs) rest = mark-joined f (marks fs t.no_stmts) rest ∙ ap (func_mark f) (marks-joined fs rest)

pub imports-joined : (names : List (List ℕ)) (rest : t.Tree t.stmts) → joined (import_stmts names t.no_stmts) rest ≡ import_stmts names rest
imports-joined [] rest = refl
imports-joined (x ∷ xs) rest = ap (λ r. joined (import_stmts (x ∷ []) t.no_stmts) r) (imports-joined xs rest)

pub args-joined : (args : Bool) (rest : t.Tree t.items) → items_joined (args_items args t.no_items) rest ≡ args_items args rest
args-joined true rest = refl
args-joined false rest = refl

-- the variables at the head, part by part
pub head_form : (first : t.Tree t.items) {before with_temps all : t.Tree t.items} {n : ℕ} (fs : c.Tree c.funcs) (vars : List (List ℕ)) (xs : c.Tree c.stmts) → before ≡ first → with_temps ≡ items_joined before (temp_items 0 n t.no_items) → n ≡ 0 + temps c.stmts xs
    → all ≡ items_joined with_temps (name_items (others vars (declared c.stmts xs)) t.no_items) → all ≡ items_joined first (head_items (c.a_body fs vars xs))
head_form first {before} {with_temps} {all} {n} fs vars xs start held counted named =
    let names = name_items (others vars (declared c.stmts xs)) t.no_items in
    let here : n ≡ temps c.stmts xs = omega arith in
    named
    ∙ ap (λ w. items_joined w names) (held ∙ ap (λ b. items_joined b (temp_items 0 n t.no_items)) start)
    ∙ items-assoc first (temp_items 0 n t.no_items) names
    ∙ ap (items_joined first) (temps-joined 0 n names ∙ ap (λ k. temp_items 0 k names) here)

-- the statements of a body behind what stands there: its functions, their marks, and its own
pub body_form : (direct : Bool) (before : t.Tree t.stmts) {start with_funcs with_marks all funcs list : t.Tree t.stmts} (fs : c.Tree c.funcs) (vars : List (List ℕ)) (xs : c.Tree c.stmts) → start ≡ before
    → funcs ≡ rewritten false c.funcs 0 fs → with_funcs ≡ joined start funcs → with_marks ≡ joined with_funcs (marks fs t.no_stmts) → list ≡ rewritten direct c.stmts 0 xs → all ≡ joined with_marks list
    → all ≡ joined before (rewritten direct c.body 0 (c.a_body fs vars xs))
unfolding rewritten
body_form direct before {start} {with_funcs} {with_marks} {all} {funcs} {list} fs vars xs is made one two listed three =
    let own = rewritten direct c.stmts 0 xs in
    let declared_ones = rewritten false c.funcs 0 fs in
    three
    ∙ ap (λ l. joined with_marks l) listed
    ∙ ap (λ m. joined m own) (two ∙ ap (λ w. joined w (marks fs t.no_stmts)) (one ∙ ap (λ f. joined start f) made ∙ ap (λ s. joined s declared_ones) is))
    ∙ joined-assoc (joined before declared_ones) (marks fs t.no_stmts) own
    ∙ joined-assoc before declared_ones (joined (marks fs t.no_stmts) own)
    ∙ ap (λ r. joined before (joined declared_ones r)) (marks-joined fs own)

-- a function
pub function_form : (f : CFunc) {name : Option (List ℕ)} {params : List (List ℕ)} {variables : t.Tree t.items} {all : t.Tree t.stmts} → name ≡ (out-CFunc f).name → params ≡ (out-CFunc f).params.items
    → (let b = out-CBody (out-CFunc f).body in
    variables ≡ args_items (out-CFunc f).args (head_items (c.a_body (source.of_funcs b.funcs.items) b.vars.items (source.of_stmts b.list.items)))
    → all ≡ joined (var_stmts variables t.no_stmts) (rewritten false c.body 0 (c.a_body (source.of_funcs b.funcs.items) b.vars.items (source.of_stmts b.list.items)))
    → t.fun name params all ≡ rewritten false c.func 0 (source.func f))
unfolding rewritten
function_form f {name} {params} {variables} {all} named worded head body =
    let b = out-CBody (out-CFunc f).body in
    let parts = c.a_body (source.of_funcs b.funcs.items) b.vars.items (source.of_stmts b.list.items) in
    three t.fun named worded
    (body ∙ var-joined variables (rewritten false c.body 0 parts) ∙ ap (λ is. var_stmts is (rewritten false c.body 0 parts)) head)
    ∙ sym (ap (rewritten false c.func 0) (view_func f) ∙ ap (λ z. rewritten false c.func 0 (c.fun (out-CFunc f).name (out-CFunc f).params.items (out-CFunc f).args z)) (view_body (out-CFunc f).body))

-- a module, whose result is declared first and returned last
pub module_form : (f : CBody) (imports : List (List ℕ)) {variables : t.Tree t.items} {with_imports with_list all : t.Tree t.stmts}
    → (let b = out-CBody f in
    let parts = c.a_body (source.of_funcs b.funcs.items) b.vars.items (source.of_stmts b.list.items) in
    variables ≡ items_joined (t.more_items result_name t.no_expr t.no_items) (head_items parts)
    → with_imports ≡ joined (t.more_stmts (t.var variables) t.no_stmts) (import_stmts imports t.no_stmts)
    → with_list ≡ joined with_imports (rewritten true c.body 0 parts)
    → all ≡ joined with_list result_stmts
    → all ≡ t.more_stmts (t.var (t.more_items result_name t.no_expr (head_items (source.body f)))) (import_stmts imports (joined (rewritten true c.body 0 (source.body f)) result_stmts)))
module_form f imports {variables} {with_imports} {with_list} {all} head imported listed ended =
    let b = out-CBody f in
    let parts = c.a_body (source.of_funcs b.funcs.items) b.vars.items (source.of_stmts b.list.items) in
    let own = rewritten true c.body 0 parts in
    let first = t.more_stmts (t.var (t.more_items result_name t.no_expr (head_items parts))) t.no_stmts in
    ended
    ∙ ap (λ l. joined l result_stmts) (listed ∙ ap (λ s. joined s own) (imported ∙ ap (λ v. joined (t.more_stmts (t.var v) t.no_stmts) (import_stmts imports t.no_stmts)) head))
    ∙ ap (t.more_stmts (t.var (t.more_items result_name t.no_expr (head_items parts)))) (joined-assoc (import_stmts imports t.no_stmts) own result_stmts ∙ imports-joined imports (joined own result_stmts))
    ∙ ap (λ z. t.more_stmts (t.var (t.more_items result_name t.no_expr (head_items z))) (import_stmts imports (joined (rewritten true c.body 0 z) result_stmts))) (sym (view_body f))
