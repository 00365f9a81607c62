-- The resolved form of a call, of a `new`, of a `for` and of a `switch`.
use Rattle.std.proofs.Common.{◌≡◌, List, Option, Some, None, refl, sym, ap, subst, ◌∙◌}
use Rattle.std.specs.Prelude.{Result, Ok}
use Rattle.std.specs.Global.{Vec, Box}
use Rattle.caja_units.specs.declared.Memory.{Memory}
use Rattle.es3_tree.specs.declared.BinOp.{BinOp}
use Rattle.es3_tree.specs.declared.Name.{Name}
use Rattle.es3_tree.specs.declared.Expr.{Expr}
use Rattle.es3_tree.specs.declared.Stmt.{Stmt}
use Rattle.es3_tree.specs.declared.Case.{Case}
use Rattle.es3_tree.specs.declared.First.{First}
use Rattle.es3_tree.specs.declared.Expr.TheVariants as e
use Rattle.es3_tree.specs.declared.Stmt.TheVariants as s
use Rattle.es3_tree.specs.Tree as t
use Rattle.es3_tree.specs.PlacedView as v
use Rattle.es3_tree.proofs.PlacedRows.{placed_call, placed_new, placed_if, placed_for, placed_switch, placed_try}
use Rattle.cajita_tree.specs.Tree as c
use Rattle.cajita_tree.specs.View as view
use Rattle.cajita_tree.specs.Parts.{called, target_of}
use Rattle.cajita_forms.specs.Gives.{Gives}
use Rattle.cajita_forms.proofs.Formed.{as_given}
use Rattle.cajita_forms.specs.Options.{one, both, three, four, from}
use Rattle.scope_rules.specs.Resolve.{resolved}

pub resolved_call : {x : Expr} (b : Box Expr) (y : Vec Expr) → x ≡ e.Call b y
    → resolved t.expr (v.expr x) ≡ both called (resolved t.expr (v.expr b.value)) (resolved t.exprs (v.of_exprs y.items))
unfolding resolved
resolved_call b y h = ap (λ x. resolved t.expr (v.expr x)) h ∙ ap (resolved t.expr) (placed_call b y)

pub resolved_new : {x : Expr} (b : Box Expr) (y : Vec Expr) → x ≡ e.New b y
    → resolved t.expr (v.expr x) ≡ both c.new (resolved t.expr (v.expr b.value)) (resolved t.exprs (v.of_exprs y.items))
unfolding resolved
resolved_new b y h = ap (λ x. resolved t.expr (v.expr x)) h ∙ ap (resolved t.expr) (placed_new b y)

pub resolved_binary : {x : Expr} (op : BinOp) (a b : Box Expr) → x ≡ e.Binary op a b
    → resolved t.expr (v.expr x) ≡ both (c.binary op) (resolved t.expr (v.expr a.value)) (resolved t.expr (v.expr b.value))
unfolding resolved
resolved_binary op a b h = ap (λ x. resolved t.expr (v.expr x)) h

pub resolved_assign : {x : Expr} (op : Option BinOp) (a b : Box Expr) → x ≡ e.Assign op a b
    → resolved t.expr (v.expr x) ≡ both (c.assign op) (from target_of (resolved t.expr (v.expr a.value))) (resolved t.expr (v.expr b.value))
unfolding resolved
resolved_assign op a b h = ap (λ x. resolved t.expr (v.expr x)) h

pub resolved_if : {x : Stmt} (y : Expr) (z : Box Stmt) (m : Option (Box Stmt)) → x ≡ s.If y z m
    → resolved t.stmt (v.stmt x) ≡ three c.branch (resolved t.expr (v.expr y)) (resolved t.stmt (v.stmt z.value)) (resolved t.maybe_stmt (v.of_maybe_stmt m))
unfolding resolved
resolved_if y z m h = ap (λ x. resolved t.stmt (v.stmt x)) h ∙ ap (resolved t.stmt) (placed_if y z m)

pub resolved_for : {x : Stmt} (i : First) (a b : Option Expr) (z : Box Stmt) → x ≡ s.For i a b z
    → resolved t.stmt (v.stmt x)
    ≡ four c.for_loop (resolved t.first (v.first i)) (resolved t.maybe_expr (v.of_maybe_expr a)) (resolved t.maybe_expr (v.of_maybe_expr b)) (resolved t.stmt (v.stmt z.value))
unfolding resolved
resolved_for i a b z h = ap (λ x. resolved t.stmt (v.stmt x)) h ∙ ap (resolved t.stmt) (placed_for i a b z)

pub resolved_switch : {x : Stmt} (y : Expr) (z : Vec Case) → x ≡ s.Switch y z
    → resolved t.stmt (v.stmt x) ≡ both c.switch (resolved t.expr (v.expr y)) (resolved t.cases (v.of_cases z.items))
unfolding resolved
resolved_switch y z h = ap (λ x. resolved t.stmt (v.stmt x)) h ∙ ap (resolved t.stmt) (placed_switch y z)

pub resolved_try : {x : Stmt} (body : Vec Stmt) (h : Option (Name × Vec Stmt)) (m : Option (Vec Stmt)) → x ≡ s.Try body h m
    → resolved t.stmt (v.stmt x) ≡ three c.try (resolved t.stmts (v.of_stmts body.items)) (resolved t.handler (v.of_handler h)) (resolved t.maybe_block (v.of_maybe_block m))
unfolding resolved
resolved_try body h m e = ap (λ x. resolved t.stmt (v.stmt x)) e ∙ ap (resolved t.stmt) (placed_try body h m)

-- the block of a `catch` with its name, or none; a last block, or none
pub caught_given : {A D : Type 0} {front : Result (Option A) Memory} {made now : Result (Option D) Memory} {of : A → c.Tree c.stmts} {show : D → c.Tree c.handler} {h : Option (Name × Vec Stmt)}
    (n : Name) (body : Vec Stmt) (list : List Stmt) → h ≡ Some (n, body) → list ≡ body.items → now ≡ made
    → ((x : Option (c.Tree c.stmts)) → Gives front of x → Gives made show (one (c.some_handler n.text) x))
    → Gives front of (resolved t.stmts (v.of_stmts list)) → Gives now show (resolved t.handler (v.of_handler h))
unfolding resolved
caught_given {show = show} {h = h} n body list e same is law g =
    subst (λ r. Gives r show (resolved t.handler (v.of_handler h))) (sym is)
    (as_given (ap (λ o. resolved t.handler (v.of_handler o)) e ∙ ap (λ l. one (c.some_handler n.text) (resolved t.stmts (v.of_stmts l))) (sym same))
    (law (resolved t.stmts (v.of_stmts list)) g))

pub uncaught_given : {now : _} {h : Option (Name × Vec Stmt)} → h ≡ None → now ≡ Ok (Some None) → Gives now view.of_handler (resolved t.handler (v.of_handler h))
unfolding resolved
uncaught_given {h = h} e is =
    subst (λ r. Gives r view.of_handler (resolved t.handler (v.of_handler h))) (sym is) (as_given (ap (λ o. resolved t.handler (v.of_handler o)) e) (record { told = refl }))

pub last_given : {A D : Type 0} {front : Result (Option A) Memory} {made now : Result (Option D) Memory} {of : A → c.Tree c.stmts} {show : D → c.Tree c.maybe_block} {m : Option (Vec Stmt)}
    (body : Vec Stmt) (list : List Stmt) → m ≡ Some body → list ≡ body.items → now ≡ made
    → ((x : Option (c.Tree c.stmts)) → Gives front of x → Gives made show (one c.some_block x))
    → Gives front of (resolved t.stmts (v.of_stmts list)) → Gives now show (resolved t.maybe_block (v.of_maybe_block m))
unfolding resolved
last_given {show = show} {m = m} body list e same is law g =
    subst (λ r. Gives r show (resolved t.maybe_block (v.of_maybe_block m))) (sym is)
    (as_given (ap (λ o. resolved t.maybe_block (v.of_maybe_block o)) e ∙ ap (λ l. one c.some_block (resolved t.stmts (v.of_stmts l))) (sym same))
    (law (resolved t.stmts (v.of_stmts list)) g))

pub no_last_given : {now : _} {m : Option (Vec Stmt)} → m ≡ None → now ≡ Ok (Some None) → Gives now view.of_maybe_block (resolved t.maybe_block (v.of_maybe_block m))
unfolding resolved
no_last_given {m = m} e is =
    subst (λ r. Gives r view.of_maybe_block (resolved t.maybe_block (v.of_maybe_block m))) (sym is) (as_given (ap (λ o. resolved t.maybe_block (v.of_maybe_block o)) e) (record { told = refl }))
