-- One element more of each kind of list.
use Rattle.std.proofs.Common.{◌≡◌, ℕ, ◌+◌, Bool, false, List, ap, ◌∙◌, arith}
use Rattle.es3_tree.specs.Tree as t
use Rattle.cajita_tree.specs.Tree as c
use Rattle.cajita_rewrite.specs.Rewrite.{rewritten, temps}
use Rattle.cajita_rewrite.proofs.Forms.{two, three, further}

-- a number that goes on by one part, before what is left
pub gone_on : {m : ℕ} (n a b : ℕ) → m ≡ n + a → m + b ≡ n + (a + b)
gone_on n a b h = omega arith

pub two_gone_on : {l m : ℕ} (n a b d : ℕ) → m ≡ n + a → l ≡ m + b → l + d ≡ n + (a + (b + d))
two_gone_on n a b d h k = omega arith

pub exprs_step : (n : ℕ) {m : ℕ} {y : t.Tree t.expr} (x : c.Tree c.expr) (rest : c.Tree c.exprs) → y ≡ rewritten false c.expr n x → m ≡ n + temps c.expr x
    → t.more_exprs y (rewritten false c.exprs m rest) ≡ rewritten false c.exprs n (c.more_exprs x rest)
unfolding rewritten
exprs_step n x rest made counted = two t.more_exprs made (ap (λ i. rewritten false c.exprs i rest) counted)

pub fields_step : (n : ℕ) {m : ℕ} {k : List ℕ} {y : t.Tree t.expr} (name : List ℕ) (x : c.Tree c.expr) (rest : c.Tree c.fields) → k ≡ name → y ≡ rewritten false c.expr n x → m ≡ n + temps c.expr x
    → t.more_exprs (t.text k) (t.more_exprs y (rewritten false c.fields m rest)) ≡ rewritten false c.fields n (c.more_fields name x rest)
unfolding rewritten
fields_step n name x rest named made counted = three (λ k y r. t.more_exprs (t.text k) (t.more_exprs y r)) named made (ap (λ i. rewritten false c.fields i rest) counted)

pub items_step : (n : ℕ) {m : ℕ} {k : List ℕ} {y : t.Tree t.maybe_expr} (name : List ℕ) (x : c.Tree c.maybe_expr) (rest : c.Tree c.items) → k ≡ name → y ≡ rewritten false c.maybe_expr n x → m ≡ n + temps c.maybe_expr x
    → t.more_items k y (rewritten false c.items m rest) ≡ rewritten false c.items n (c.more_items name x rest)
unfolding rewritten
items_step n name x rest named made counted = three t.more_items named made (ap (λ i. rewritten false c.items i rest) counted)

pub cases_step : (n : ℕ) {m l : ℕ} {y : t.Tree t.maybe_expr} {ys : t.Tree t.stmts} (x : c.Tree c.maybe_expr) (xs : c.Tree c.stmts) (rest : c.Tree c.cases) → y ≡ rewritten false c.maybe_expr n x → m ≡ n + temps c.maybe_expr x
    → ys ≡ rewritten false c.stmts m xs → l ≡ m + temps c.stmts xs
    → t.more_cases y ys (rewritten false c.cases l rest) ≡ rewritten false c.cases n (c.more_cases x xs rest)
unfolding rewritten
cases_step n x xs rest made counted body more =
    three t.more_cases made (body ∙ ap (λ i. rewritten false c.stmts i xs) counted) (ap (λ i. rewritten false c.cases i rest) (further n _ _ counted more))

pub stmts_step : (direct : Bool) (n : ℕ) {m : ℕ} {y : t.Tree t.stmt} (x : c.Tree c.stmt) (rest : c.Tree c.stmts) → y ≡ rewritten direct c.stmt n x → m ≡ n + temps c.stmt x
    → t.more_stmts y (rewritten direct c.stmts m rest) ≡ rewritten direct c.stmts n (c.more_stmts x rest)
unfolding rewritten
stmts_step direct n x rest made counted = two t.more_stmts made (ap (λ i. rewritten direct c.stmts i rest) counted)

pub funcs_step : {y : t.Tree t.stmt} {f : t.Tree t.func} (x : c.Tree c.func) (rest : c.Tree c.funcs) → y ≡ t.declare f → f ≡ rewritten false c.func 0 x
    → t.more_stmts y (rewritten false c.funcs 0 rest) ≡ rewritten false c.funcs 0 (c.more_funcs x rest)
unfolding rewritten
funcs_step x rest made is = ap (λ s. t.more_stmts s (rewritten false c.funcs 0 rest)) (made ∙ ap t.declare is)
