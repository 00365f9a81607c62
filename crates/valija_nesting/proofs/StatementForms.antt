-- How deep each form of a statement is that is the same in Cajita, from how deep its parts are.
use Rattle.std.proofs.Common.{ℕ, ◌+◌, ◌≤◌, Bool, true, false, Option, Some, None, arith}
use Rattle.std.specs.Prelude.{max}
use Rattle.es3_tree.specs.Tree as t
use Rattle.es3_tree.specs.Placed as p
use Rattle.es3_tree.specs.Placed.{Placed, Word}
use Rattle.cajita_tree.specs.Tree as c
use Rattle.cajita_forms.specs.Forms.{text_of}
use Rattle.scope_rules.specs.Resolve.{resolved, behind}
use Rattle.cajoled_nesting.specs.Nesting.{deep}
use Rattle.valija_nesting.proofs.Parts.{Most, form, nothing, one_part, two_parts, three_parts, four_parts, Nests}

-- an expression directly in a module is kept as its result
expression_within : (n : ℕ) (m : Bool) (e : c.Tree c.expr) → deep false c.expr e ≤ n → deep m c.stmt (c.expression e) ≤ 2 + max 1 n
unfolding deep
expression_within n true e h = omega (arith, h)
expression_within n false e h = omega (arith, h)

pub block_nests : {n : ℕ} {ss : Placed t.stmts} → Nests t.stmts n ss → Nests t.stmt (1 + n) (p.block ss)
unfolding resolved deep
block_nests h = record { there = one_part c.block h.there (λ m x i. omega (arith, i)) }

pub var_nests : {n : ℕ} {is : Placed t.items} → Nests t.items n is → Nests t.stmt (1 + n) (p.var is)
unfolding resolved deep
var_nests h = record { there = one_part c.var h.there (λ m x i. omega (arith, i)) }

pub empty_nests : Nests t.stmt 1 p.empty
unfolding resolved deep
empty_nests = record { there = form c.empty (λ m. omega arith) }

pub expression_nests : {n : ℕ} {e : Placed t.expr} → Nests t.expr n e → Nests t.stmt (2 + max 1 n) (p.expression e)
unfolding resolved
expression_nests {n} h = record { there = one_part c.expression h.there (λ m x i. expression_within n m x i) }

pub branch_nests : {n d l : ℕ} {e : Placed t.expr} {x : Placed t.stmt} {y : Placed t.maybe_stmt} → Nests t.expr n e → Nests t.stmt d x → Nests t.maybe_stmt l y → Nests t.stmt (1 + max n (max d l)) (p.branch e x y)
unfolding resolved deep
branch_nests h i o = record { there = three_parts c.branch h.there i.there o.there (λ m x y z j k q. omega (arith, j, k, q)) }

pub while_nests : {n d : ℕ} {e : Placed t.expr} {x : Placed t.stmt} → Nests t.expr n e → Nests t.stmt d x → Nests t.stmt (1 + max n d) (p.while_loop e x)
unfolding resolved deep
while_nests h i = record { there = two_parts c.while_loop h.there i.there (λ m x y j k. omega (arith, j, k)) }

pub do_nests : {n d : ℕ} {x : Placed t.stmt} {e : Placed t.expr} → Nests t.stmt n x → Nests t.expr d e → Nests t.stmt (1 + max n d) (p.do_loop x e)
unfolding resolved deep
do_nests h i = record { there = two_parts c.do_loop h.there i.there (λ m x y j k. omega (arith, j, k)) }

pub for_nests : {n d l q : ℕ} {i : Placed t.first} {e u : Placed t.maybe_expr} {x : Placed t.stmt} → Nests t.first n i → Nests t.maybe_expr d e → Nests t.maybe_expr l u → Nests t.stmt q x
    → Nests t.stmt (1 + max n (max d (max l q))) (p.for_loop i e u x)
unfolding resolved deep
for_nests h i o a = record { there = four_parts c.for_loop h.there i.there o.there a.there (λ m x y z w j k b g. omega (arith, j, k, b, g)) }

pub continue_nests : (l : Option Word) (at : ℕ) → Nests t.stmt 1 (p.continue l at)
unfolding resolved deep
continue_nests l at = record { there = form (c.continue (text_of l)) (λ m. omega arith) }

pub break_nests : (l : Option Word) (at : ℕ) → Nests t.stmt 1 (p.break l at)
unfolding resolved deep
break_nests l at = record { there = form (c.break (text_of l)) (λ m. omega arith) }

pub return_nests : {n : ℕ} {e : Placed t.maybe_expr} (at : ℕ) → Nests t.maybe_expr n e → Nests t.stmt (1 + n) (p.return e at)
unfolding resolved deep
return_nests at h = record { there = one_part c.return h.there (λ m x i. omega (arith, i)) }

pub with_nests : (n : ℕ) (e : Placed t.expr) (x : Placed t.stmt) (at : ℕ) → Nests t.stmt n (p.with_object e x at)
unfolding resolved
with_nests n e x at = record { there = nothing c.stmt n }

pub switch_nests : {n d : ℕ} {e : Placed t.expr} {cs : Placed t.cases} → Nests t.expr n e → Nests t.cases d cs → Nests t.stmt (1 + max n d) (p.switch e cs)
unfolding resolved deep
switch_nests h i = record { there = two_parts c.switch h.there i.there (λ m x y j k. omega (arith, j, k)) }

pub label_nests : {n : ℕ} {x : Placed t.stmt} (l : Word) → Nests t.stmt n x → Nests t.stmt (1 + n) (p.label l x)
unfolding resolved deep
label_nests l h = record { there = one_part (c.label l.text) h.there (λ m x i. omega (arith, i)) }

pub throw_nests : {n : ℕ} {e : Placed t.expr} → Nests t.expr n e → Nests t.stmt (1 + n) (p.throw e)
unfolding resolved deep
throw_nests h = record { there = one_part c.throw h.there (λ m x i. omega (arith, i)) }

pub try_nests : {n d l : ℕ} {ss : Placed t.stmts} {y : Placed t.handler} {z : Placed t.maybe_block} → Nests t.stmts n ss → Nests t.handler d y → Nests t.maybe_block l z → Nests t.stmt (1 + max n (max d l)) (p.try ss y z)
unfolding resolved deep
try_nests h i o = record { there = three_parts c.try h.there i.there o.there (λ m x y z j k q. omega (arith, j, k, q)) }

-- ---- lists of statements: a declared function is none of them

listed : (n : ℕ) (o : Option (c.Tree c.stmt)) (u : Option (c.Tree c.stmts)) → Most c.stmt n o → Most c.stmts n u → (x : Placed t.stmt) → Most c.stmts n (behind x o u)
unfolding deep
listed n o u h i (p.declare f) = i
listed n None u h i x = nothing c.stmts n
listed n (Some y) None h i x = nothing c.stmts n
listed n (Some y) (Some ys) h i x = form (c.more_stmts y ys) (λ m. let a = h.most m in let b = i.most m in omega (arith, a, b))

pub no_stmts_nests : Nests t.stmts 0 p.no_stmts
unfolding resolved deep
no_stmts_nests = record { there = form c.no_stmts (λ m. omega arith) }

pub more_stmts_nests : {n : ℕ} {x : Placed t.stmt} {ss : Placed t.stmts} → Nests t.stmt n x → Nests t.stmts n ss → Nests t.stmts n (p.more_stmts x ss)
unfolding resolved
more_stmts_nests {n} {x} {ss} h i = record { there = listed n (resolved t.stmt x) (resolved t.stmts ss) h.there i.there x }

-- ---- the parts of statements

pub no_items_nests : Nests t.items 0 p.no_items
unfolding resolved deep
no_items_nests = record { there = form c.no_items (λ m. omega arith) }

pub more_items_nests : {n d : ℕ} {e : Placed t.maybe_expr} {is : Placed t.items} (x : Word) → Nests t.maybe_expr n e → Nests t.items d is → Nests t.items (max n d) (p.more_items x e is)
unfolding resolved deep
more_items_nests x h i = record { there = two_parts (c.more_items x.text) h.there i.there (λ m y z j k. omega (arith, j, k)) }

pub no_stmt_nests : Nests t.maybe_stmt 0 p.no_stmt
unfolding resolved deep
no_stmt_nests = record { there = form c.no_stmt (λ m. omega arith) }

pub some_stmt_nests : {n : ℕ} {x : Placed t.stmt} → Nests t.stmt n x → Nests t.maybe_stmt n (p.some_stmt x)
unfolding resolved deep
some_stmt_nests h = record { there = one_part c.some_stmt h.there (λ m x i. omega (arith, i)) }

pub no_block_nests : Nests t.maybe_block 0 p.no_block
unfolding resolved deep
no_block_nests = record { there = form c.no_block (λ m. omega arith) }

pub some_block_nests : {n : ℕ} {ss : Placed t.stmts} → Nests t.stmts n ss → Nests t.maybe_block n (p.some_block ss)
unfolding resolved deep
some_block_nests h = record { there = one_part c.some_block h.there (λ m x i. omega (arith, i)) }

pub no_first_nests : Nests t.first 0 p.no_first
unfolding resolved deep
no_first_nests = record { there = form c.no_first (λ m. omega arith) }

pub first_var_nests : {n : ℕ} {is : Placed t.items} → Nests t.items n is → Nests t.first n (p.first_var is)
unfolding resolved deep
first_var_nests h = record { there = one_part c.first_var h.there (λ m x i. omega (arith, i)) }

pub first_expr_nests : {n : ℕ} {e : Placed t.expr} → Nests t.expr n e → Nests t.first n (p.first_expr e)
unfolding resolved deep
first_expr_nests h = record { there = one_part c.first_expr h.there (λ m x i. omega (arith, i)) }

pub no_cases_nests : Nests t.cases 0 p.no_cases
unfolding resolved deep
no_cases_nests = record { there = form c.no_cases (λ m. omega arith) }

pub more_cases_nests : {n d l : ℕ} {e : Placed t.maybe_expr} {ss : Placed t.stmts} {cs : Placed t.cases} → Nests t.maybe_expr n e → Nests t.stmts d ss → Nests t.cases l cs → Nests t.cases (max n (max d l)) (p.more_cases e ss cs)
unfolding resolved deep
more_cases_nests h i o = record { there = three_parts c.more_cases h.there i.there o.there (λ m x y z j k q. omega (arith, j, k, q)) }

pub no_handler_nests : Nests t.handler 0 p.no_handler
unfolding resolved deep
no_handler_nests = record { there = form c.no_handler (λ m. omega arith) }

pub some_handler_nests : {n : ℕ} {ss : Placed t.stmts} (x : Word) → Nests t.stmts n ss → Nests t.handler n (p.some_handler x ss)
unfolding resolved deep
some_handler_nests x h = record { there = one_part (c.some_handler x.text) h.there (λ m y i. omega (arith, i)) }
