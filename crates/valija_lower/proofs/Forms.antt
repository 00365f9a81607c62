-- What a form is lowered to, by the program's tree of it.
use Rattle.std.proofs.Common.{◌≡◌, ℕ, ◌+◌, Bool, Option, None, Some, sym, ap, subst, ◌∙◌}
use Rattle.std.specs.Prelude.{Result, Ok}
use Rattle.std.specs.Global.{Vec, Box}
use Rattle.caja_units.specs.declared.Memory.{Memory}
use Rattle.es3_tree.specs.declared.UnOp.{UnOp}
use Rattle.es3_tree.specs.declared.BinOp.{BinOp}
use Rattle.es3_tree.specs.declared.Name.{Name}
use Rattle.es3_tree.specs.declared.Expr.{Expr}
use Rattle.es3_tree.specs.declared.Stmt.{Stmt}
use Rattle.es3_tree.specs.declared.Case.{Case}
use Rattle.es3_tree.specs.declared.First.{First}
use Rattle.es3_tree.specs.declared.Loop.{Loop}
use Rattle.es3_tree.specs.declared.Expr.TheVariants as e
use Rattle.es3_tree.specs.declared.Stmt.TheVariants as s
use Rattle.es3_tree.specs.Tree as t
use Rattle.es3_tree.specs.Placed as p
use Rattle.es3_tree.specs.PlacedView as v
use Rattle.es3_tree.proofs.PlacedRows.{placed_call, placed_new, placed_if, placed_for, placed_switch, placed_try}
use Rattle.cajita_names.specs.Scope.{Scope, in_catch}
use Rattle.valija_forms.specs.Numbered.{one, both, three, four}
use Rattle.valija_forms.specs.Forms.{word, construct, get}
use Rattle.valija_parts.specs.Gives.{Gives}
use Rattle.valija_parts.specs.Lower.{lowered, lowered_binary}
use Rattle.valija_parts.specs.Places.{place, target, called, prefixed, stepped, steps_taken, assigned, held_by, gone_over}
use Rattle.valija_lower.proofs.Places.{lowered_call, lowered_unary, lowered_step, lowered_assign, lowered_for_in}

-- a whole, which is its parts
pub as_given : {A T : Type 0} {r : Result A Memory} {m : ℕ} {view : A → T} {whole o : T × ℕ} → whole ≡ o → Gives r m view o → Gives r m view whole
as_given {r = r} {m = m} {view = view} h g = subst (Gives r m view) (sym h) g

pub of_call : (a : Scope) (n : ℕ) {x : Expr} (b : Box Expr) (y : Vec Expr) → x ≡ e.Call b y
    → lowered a t.expr (v.expr x) n ≡ both (called a) (place a (v.expr b.value)) (lowered a t.exprs (v.of_exprs y.items)) n
of_call a n b y h = ap (λ x. lowered a t.expr (v.expr x) n) h ∙ ap (λ z. lowered a t.expr z n) (placed_call b y) ∙ lowered_call a (v.expr b.value) (v.of_exprs y.items) n

pub of_new : (a : Scope) (n : ℕ) {x : Expr} (b : Box Expr) (y : Vec Expr) → x ≡ e.New b y
    → lowered a t.expr (v.expr x) n ≡ both construct (lowered a t.expr (v.expr b.value)) (lowered a t.exprs (v.of_exprs y.items)) n
unfolding lowered
of_new a n b y h = ap (λ x. lowered a t.expr (v.expr x) n) h ∙ ap (λ z. lowered a t.expr z n) (placed_new b y)

pub of_unary : (a : Scope) (n : ℕ) {x : Expr} (o : UnOp) (b : Box Expr) (at : ℕ) → x ≡ e.Unary o b at
    → lowered a t.expr (v.expr x) n ≡ one (prefixed a o) (place a (v.expr b.value)) n
of_unary a n o b at h = ap (λ x. lowered a t.expr (v.expr x) n) h ∙ lowered_unary a o (v.expr b.value) at n

pub of_step : (a : Scope) (n : ℕ) {x : Expr} (up before : Bool) (b : Box Expr) → x ≡ e.Step up before b
    → lowered a t.expr (v.expr x) n ≡ one (stepped a up before n) (place a (v.expr b.value)) (n + steps_taken a before (v.expr b.value))
of_step a n up before b h = ap (λ x. lowered a t.expr (v.expr x) n) h ∙ lowered_step a up before (v.expr b.value) n

pub of_binary : (a : Scope) (n : ℕ) {x : Expr} (o : BinOp) (b d : Box Expr) → x ≡ e.Binary o b d
    → lowered a t.expr (v.expr x) n ≡ both (lowered_binary o) (lowered a t.expr (v.expr b.value)) (lowered a t.expr (v.expr d.value)) n
unfolding lowered
of_binary a n o b d h = ap (λ x. lowered a t.expr (v.expr x) n) h

pub of_assign : (a : Scope) (n : ℕ) {x : Expr} (o : Option BinOp) (b d : Box Expr) → x ≡ e.Assign o b d
    → lowered a t.expr (v.expr x) n ≡ both (assigned a o n) (place a (v.expr b.value)) (lowered a t.expr (v.expr d.value)) (n + held_by o (v.expr b.value))
of_assign a n o b d h = ap (λ x. lowered a t.expr (v.expr x) n) h ∙ lowered_assign a o (v.expr b.value) (v.expr d.value) n

pub of_if : (a : Scope) (n : ℕ) {x : Stmt} (y : Expr) (z : Box Stmt) (m : Option (Box Stmt)) → x ≡ s.If y z m
    → lowered a t.stmt (v.stmt x) n ≡ three p.branch (lowered a t.expr (v.expr y)) (lowered a t.stmt (v.stmt z.value)) (lowered a t.maybe_stmt (v.of_maybe_stmt m)) n
unfolding lowered
of_if a n y z m h = ap (λ x. lowered a t.stmt (v.stmt x) n) h ∙ ap (λ w. lowered a t.stmt w n) (placed_if y z m)

pub of_for : (a : Scope) (n : ℕ) {x : Stmt} (i : First) (b d : Option Expr) (z : Box Stmt) → x ≡ s.For i b d z
    → lowered a t.stmt (v.stmt x) n
    ≡ four p.for_loop (lowered a t.first (v.first i)) (lowered a t.maybe_expr (v.of_maybe_expr b)) (lowered a t.maybe_expr (v.of_maybe_expr d)) (lowered a t.stmt (v.stmt z.value)) n
unfolding lowered
of_for a n i b d z h = ap (λ x. lowered a t.stmt (v.stmt x) n) h ∙ ap (λ w. lowered a t.stmt w n) (placed_for i b d z)

pub of_for_in : (a : Scope) (n : ℕ) {x : Stmt} (i : Loop) (y : Expr) (z : Box Stmt) → x ≡ s.ForIn i y z
    → lowered a t.stmt (v.stmt x) n ≡ three (gone_over a n) (target a (v.loop_target i)) (lowered a t.expr (v.expr y)) (lowered a t.stmt (v.stmt z.value)) (n + 3)
of_for_in a n i y z h = ap (λ x. lowered a t.stmt (v.stmt x) n) h ∙ lowered_for_in a (v.loop_target i) (v.expr y) (v.stmt z.value) n

pub of_switch : (a : Scope) (n : ℕ) {x : Stmt} (y : Expr) (z : Vec Case) → x ≡ s.Switch y z
    → lowered a t.stmt (v.stmt x) n ≡ both p.switch (lowered a t.expr (v.expr y)) (lowered a t.cases (v.of_cases z.items)) n
unfolding lowered
of_switch a n y z h = ap (λ x. lowered a t.stmt (v.stmt x) n) h ∙ ap (λ w. lowered a t.stmt w n) (placed_switch y z)

pub of_try : (a : Scope) (n : ℕ) {x : Stmt} (body : Vec Stmt) (c : Option (Name × Vec Stmt)) (m : Option (Vec Stmt)) → x ≡ s.Try body c m
    → lowered a t.stmt (v.stmt x) n ≡ three p.try (lowered a t.stmts (v.of_stmts body.items)) (lowered a t.handler (v.of_handler c)) (lowered a t.maybe_block (v.of_maybe_block m)) n
unfolding lowered
of_try a n body c m h = ap (λ x. lowered a t.stmt (v.stmt x) n) h ∙ ap (λ w. lowered a t.stmt w n) (placed_try body c m)

pub of_index : (a : Scope) (n : ℕ) {x : Expr} (b d : Box Expr) → x ≡ e.Index b d
    → lowered a t.expr (v.expr x) n ≡ both get (lowered a t.expr (v.expr b.value)) (lowered a t.expr (v.expr d.value)) n
unfolding lowered
of_index a n b d h = ap (λ x. lowered a t.expr (v.expr x) n) h

pub of_and : (a : Scope) (n : ℕ) {x : Expr} (b d : Box Expr) → x ≡ e.And b d
    → lowered a t.expr (v.expr x) n ≡ both p.and (lowered a t.expr (v.expr b.value)) (lowered a t.expr (v.expr d.value)) n
unfolding lowered
of_and a n b d h = ap (λ x. lowered a t.expr (v.expr x) n) h

pub of_or : (a : Scope) (n : ℕ) {x : Expr} (b d : Box Expr) → x ≡ e.Or b d
    → lowered a t.expr (v.expr x) n ≡ both p.or (lowered a t.expr (v.expr b.value)) (lowered a t.expr (v.expr d.value)) n
unfolding lowered
of_or a n b d h = ap (λ x. lowered a t.expr (v.expr x) n) h

pub of_comma : (a : Scope) (n : ℕ) {x : Expr} (b d : Box Expr) → x ≡ e.Comma b d
    → lowered a t.expr (v.expr x) n ≡ both p.comma (lowered a t.expr (v.expr b.value)) (lowered a t.expr (v.expr d.value)) n
unfolding lowered
of_comma a n b d h = ap (λ x. lowered a t.expr (v.expr x) n) h

pub of_choice : (a : Scope) (n : ℕ) {x : Expr} (b d g : Box Expr) → x ≡ e.Cond b d g
    → lowered a t.expr (v.expr x) n ≡ three p.choice (lowered a t.expr (v.expr b.value)) (lowered a t.expr (v.expr d.value)) (lowered a t.expr (v.expr g.value)) n
unfolding lowered
of_choice a n b d g h = ap (λ x. lowered a t.expr (v.expr x) n) h

pub of_while : (a : Scope) (n : ℕ) {x : Stmt} (y : Expr) (z : Box Stmt) → x ≡ s.While y z
    → lowered a t.stmt (v.stmt x) n ≡ both p.while_loop (lowered a t.expr (v.expr y)) (lowered a t.stmt (v.stmt z.value)) n
unfolding lowered
of_while a n y z h = ap (λ x. lowered a t.stmt (v.stmt x) n) h

pub of_do : (a : Scope) (n : ℕ) {x : Stmt} (z : Box Stmt) (y : Expr) → x ≡ s.Do z y
    → lowered a t.stmt (v.stmt x) n ≡ both p.do_loop (lowered a t.stmt (v.stmt z.value)) (lowered a t.expr (v.expr y)) n
unfolding lowered
of_do a n z y h = ap (λ x. lowered a t.stmt (v.stmt x) n) h

pub of_with : (a : Scope) (n : ℕ) {x : Stmt} (y : Expr) (z : Box Stmt) (at : ℕ) → x ≡ s.With y z at
    → lowered a t.stmt (v.stmt x) n ≡ both (λ o y. p.with_object o y 0) (lowered a t.expr (v.expr y)) (lowered a t.stmt (v.stmt z.value)) n
unfolding lowered
of_with a n y z at h = ap (λ x. lowered a t.stmt (v.stmt x) n) h

-- the `catch` of a `try` and its `finally`, where there is one and where there is none
pub of_handler : (a : Scope) (n : ℕ) {h : Option (Name × Vec Stmt)} (x : Name) (body : Vec Stmt) → h ≡ Some (x, body)
    → lowered a t.handler (v.of_handler h) n ≡ one (p.some_handler (word x.text)) (lowered (in_catch x.text a) t.stmts (v.of_stmts body.items)) n
unfolding lowered
of_handler a n x body h = ap (λ o. lowered a t.handler (v.of_handler o) n) h

pub of_last : (a : Scope) (n : ℕ) {h : Option (Vec Stmt)} (body : Vec Stmt) → h ≡ Some body
    → lowered a t.maybe_block (v.of_maybe_block h) n ≡ one p.some_block (lowered a t.stmts (v.of_stmts body.items)) n
unfolding lowered
of_last a n body h = ap (λ o. lowered a t.maybe_block (v.of_maybe_block o) n) h

pub without_handler : (a : Scope) (n : ℕ) {h : Option (Name × Vec Stmt)} → h ≡ None → Gives (Ok None) n v.of_handler (lowered a t.handler (v.of_handler h) n)
unfolding lowered
without_handler a n h = record { told = sym (ap (λ o. lowered a t.handler (v.of_handler o) n) h) }

pub without_last : (a : Scope) (n : ℕ) {h : Option (Vec Stmt)} → h ≡ None → Gives (Ok None) n v.of_maybe_block (lowered a t.maybe_block (v.of_maybe_block h) n)
unfolding lowered
without_last a n h = record { told = sym (ap (λ o. lowered a t.maybe_block (v.of_maybe_block o) n) h) }
