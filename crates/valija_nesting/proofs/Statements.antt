-- Each form of a statement, and lists of statements: how deep what they are lowered to is.
use Rattle.std.proofs.Common.{◌≡◌, ℕ, ◌+◌, ◌≤◌, false, List, Option, Some, None, refl, sym, subst, arith}
use Rattle.es3_tree.specs.Tree as t
use Rattle.es3_tree.specs.Placed as p
use Rattle.es3_tree.specs.Placed.{Placed, Word}
use Rattle.cajita_names.specs.Scope.{Scope, in_catch}
use Rattle.valija_forms.specs.Numbered.{both, three}
use Rattle.valija_forms.specs.Forms.{word, text_of, label_of, set, key_now, over_keys, joined}
use Rattle.valija_parts.specs.Lower.{lowered, written, lowered_function, functions_before, declares_function}
use Rattle.valija_nesting.proofs.Parts.{Nests, Gives, deeper, plain_gives, taking_gives, one_gives, both_gives, three_gives, four_gives}
use Rattle.valija_nesting.proofs.ExpressionForms.{text_nests}
use Rattle.valija_nesting.proofs.StatementForms.{block_nests, var_nests, empty_nests, expression_nests, branch_nests, while_nests, do_nests, for_nests, continue_nests, break_nests, return_nests, with_nests, switch_nests, label_nests, throw_nests, try_nests, no_stmts_nests, more_stmts_nests, no_items_nests, more_items_nests, no_stmt_nests, some_stmt_nests, no_block_nests, some_block_nests, no_first_nests, first_var_nests, first_expr_nests, no_cases_nests, more_cases_nests, no_handler_nests, some_handler_nests}
use Rattle.valija_nesting.proofs.Asking.{set_nests, key_now_nests}
use Rattle.valija_nesting.proofs.Names.{write_name_nests}
use Rattle.valija_nesting.proofs.Bodies.{never, over_keys_nests, declares_nests}
use Rattle.valija_nesting.proofs.Lowered.{W, Part, Lines, Target}
use Rattle.valija_nesting.proofs.Functions.{function_nests_so}
use Rattle.valija_nesting.proofs.Assignments.{is_place}

pub block_form : (ss : Placed t.stmts) → Lines ss → Part t.stmt (p.block ss)
unfolding lowered lowered_function
block_form ss ss1 = record { gives = λ s. one_gives p.block (ss1.gives s) (λ x h. deeper (block_nests h) (omega arith)) }

pub var_form : (is : Placed t.items) → Part t.items is → Part t.stmt (p.var is)
unfolding lowered lowered_function
var_form is is1 = record { gives = λ s. one_gives p.var (is1.gives s) (λ x h. deeper (var_nests h) (omega arith)) }

pub empty_form : Part t.stmt p.empty
unfolding lowered lowered_function
empty_form = record { gives = λ s. plain_gives (deeper empty_nests (omega arith)) }

pub expression_form : (e : Placed t.expr) → Part t.expr e → Part t.stmt (p.expression e)
unfolding lowered lowered_function
expression_form e e1 = record { gives = λ s. one_gives p.expression (e1.gives s) (λ x h. deeper (expression_nests h) (omega arith)) }

pub branch_form : (e : Placed t.expr) (x : Placed t.stmt) (m : Placed t.maybe_stmt) → Part t.expr e → Part t.stmt x → Part t.maybe_stmt m → Part t.stmt (p.branch e x m)
unfolding lowered lowered_function
branch_form e x m e1 x1 m1 = record { gives = λ s. three_gives p.branch (e1.gives s) (x1.gives s) (m1.gives s) (λ x y z h i j. deeper (branch_nests h i j) (omega arith)) }

pub while_form : (e : Placed t.expr) (x : Placed t.stmt) → Part t.expr e → Part t.stmt x → Part t.stmt (p.while_loop e x)
unfolding lowered lowered_function
while_form e x e1 x1 = record { gives = λ s. both_gives p.while_loop (e1.gives s) (x1.gives s) (λ x y h i. deeper (while_nests h i) (omega arith)) }

pub do_form : (x : Placed t.stmt) (e : Placed t.expr) → Part t.stmt x → Part t.expr e → Part t.stmt (p.do_loop x e)
unfolding lowered lowered_function
do_form x e x1 e1 = record { gives = λ s. both_gives p.do_loop (x1.gives s) (e1.gives s) (λ x y h i. deeper (do_nests h i) (omega arith)) }

pub for_form : (i : Placed t.first) (m n : Placed t.maybe_expr) (x : Placed t.stmt) → Part t.first i → Part t.maybe_expr m → Part t.maybe_expr n → Part t.stmt x → Part t.stmt (p.for_loop i m n x)
unfolding lowered lowered_function
for_form i m n x i1 m1 n1 x1 = record { gives = λ s. four_gives p.for_loop (i1.gives s) (m1.gives s) (n1.gives s) (x1.gives s) (λ x y z w h j k l. deeper (for_nests h j k l) (omega arith)) }

pub continue_form : (l : Option Word) (at : ℕ) → Part t.stmt (p.continue l at)
unfolding lowered lowered_function
continue_form l at = record { gives = λ s. plain_gives (deeper (continue_nests (label_of l) 0) (omega arith)) }

pub break_form : (l : Option Word) (at : ℕ) → Part t.stmt (p.break l at)
unfolding lowered lowered_function
break_form l at = record { gives = λ s. plain_gives (deeper (break_nests (label_of l) 0) (omega arith)) }

pub return_form : (m : Placed t.maybe_expr) (at : ℕ) → Part t.maybe_expr m → Part t.stmt (p.return m at)
unfolding lowered lowered_function
return_form m at m1 = record { gives = λ s. one_gives (λ x. p.return x 0) (m1.gives s) (λ x h. deeper (return_nests 0 h) (omega arith)) }

pub with_form : (e : Placed t.expr) (x : Placed t.stmt) (at : ℕ) → Part t.expr e → Part t.stmt x → Part t.stmt (p.with_object e x at)
unfolding lowered lowered_function
with_form e x at e1 x1 = record { gives = λ s. both_gives (λ o y. p.with_object o y 0) (e1.gives s) (x1.gives s) (λ x y h i. with_nests _ x y 0) }

pub switch_form : (e : Placed t.expr) (cs : Placed t.cases) → Part t.expr e → Part t.cases cs → Part t.stmt (p.switch e cs)
unfolding lowered lowered_function
switch_form e cs e1 cs1 = record { gives = λ s. both_gives p.switch (e1.gives s) (cs1.gives s) (λ x y h i. deeper (switch_nests h i) (omega arith)) }

pub label_form : (l : Word) (x : Placed t.stmt) → Part t.stmt x → Part t.stmt (p.label l x)
unfolding lowered lowered_function
label_form l x x1 = record { gives = λ s. one_gives (p.label (word l.text)) (x1.gives s) (λ x h. deeper (label_nests (word l.text) h) (omega arith)) }

pub throw_form : (e : Placed t.expr) → Part t.expr e → Part t.stmt (p.throw e)
unfolding lowered lowered_function
throw_form e e1 = record { gives = λ s. one_gives p.throw (e1.gives s) (λ x h. deeper (throw_nests h) (omega arith)) }

pub try_form : (ss : Placed t.stmts) (c : Placed t.handler) (m : Placed t.maybe_block) → Lines ss → Part t.handler c → Part t.maybe_block m → Part t.stmt (p.try ss c m)
unfolding lowered lowered_function
try_form ss c m ss1 c1 m1 = record { gives = λ s. three_gives p.try (ss1.gives s) (c1.gives s) (m1.gives s) (λ x y z h i j. deeper (try_nests h i j) (omega arith)) }

pub declare_form : (f : Placed t.func) → Part t.stmt (p.declare f)
unfolding lowered lowered_function
declare_form f = record { gives = λ s. plain_gives (deeper empty_nests (omega arith)) }

-- the loop over the keys of an object
pub for_in_form : (i : Placed t.loop_target) (e : Placed t.expr) (x : Placed t.stmt) → Target i → Part t.expr e → Part t.stmt x → Part t.stmt (p.for_in i e x)
unfolding lowered lowered_function
for_in_form i e x i1 e1 x1 = record {
  gives = λ s. taking_gives 3 (λ a. three (over_keys a (a + 1) (a + 2)) (written s i (key_now a)) (lowered s t.expr e) (lowered s t.stmt x))
      (λ a. three_gives (over_keys a (a + 1) (a + 2)) (i1.gives s (key_now a) (key_now_nests a)) (e1.gives s) (x1.gives s) (λ w o y h j k. deeper (over_keys_nests a (a + 1) (a + 2) h j k) (omega arith)));
}

-- ---- the parts of statements

pub no_items_form : Part t.items p.no_items
unfolding lowered lowered_function
no_items_form = record { gives = λ s. plain_gives (deeper no_items_nests (omega arith)) }

pub more_items_form : (x : Word) (m : Placed t.maybe_expr) (is : Placed t.items) → Part t.maybe_expr m → Part t.items is → Part t.items (p.more_items x m is)
unfolding lowered lowered_function
more_items_form x m is m1 is1 = record { gives = λ s. both_gives (p.more_items (word x.text)) (m1.gives s) (is1.gives s) (λ y z h i. deeper (more_items_nests (word x.text) h i) (omega arith)) }

pub no_stmt_form : Part t.maybe_stmt p.no_stmt
unfolding lowered lowered_function
no_stmt_form = record { gives = λ s. plain_gives (deeper no_stmt_nests (omega arith)) }

pub some_stmt_form : (x : Placed t.stmt) → Part t.stmt x → Part t.maybe_stmt (p.some_stmt x)
unfolding lowered lowered_function
some_stmt_form x x1 = record { gives = λ s. one_gives p.some_stmt (x1.gives s) (λ y h. deeper (some_stmt_nests h) (omega arith)) }

pub no_block_form : Part t.maybe_block p.no_block
unfolding lowered lowered_function
no_block_form = record { gives = λ s. plain_gives (deeper no_block_nests (omega arith)) }

pub some_block_form : (ss : Placed t.stmts) → Lines ss → Part t.maybe_block (p.some_block ss)
unfolding lowered lowered_function
some_block_form ss ss1 = record { gives = λ s. one_gives p.some_block (ss1.gives s) (λ y h. deeper (some_block_nests h) (omega arith)) }

pub no_first_form : Part t.first p.no_first
unfolding lowered lowered_function
no_first_form = record { gives = λ s. plain_gives (deeper no_first_nests (omega arith)) }

pub first_var_form : (is : Placed t.items) → Part t.items is → Part t.first (p.first_var is)
unfolding lowered lowered_function
first_var_form is is1 = record { gives = λ s. one_gives p.first_var (is1.gives s) (λ y h. deeper (first_var_nests h) (omega arith)) }

pub first_expr_form : (e : Placed t.expr) → Part t.expr e → Part t.first (p.first_expr e)
unfolding lowered lowered_function
first_expr_form e e1 = record { gives = λ s. one_gives p.first_expr (e1.gives s) (λ y h. deeper (first_expr_nests h) (omega arith)) }

pub no_cases_form : Part t.cases p.no_cases
unfolding lowered lowered_function
no_cases_form = record { gives = λ s. plain_gives (deeper no_cases_nests (omega arith)) }

pub more_cases_form : (m : Placed t.maybe_expr) (ss : Placed t.stmts) (cs : Placed t.cases) → Part t.maybe_expr m → Lines ss → Part t.cases cs → Part t.cases (p.more_cases m ss cs)
unfolding lowered lowered_function
more_cases_form m ss cs m1 ss1 cs1 = record { gives = λ s. three_gives p.more_cases (m1.gives s) (ss1.gives s) (cs1.gives s) (λ x y z h i j. deeper (more_cases_nests h i j) (omega arith)) }

pub no_handler_form : Part t.handler p.no_handler
unfolding lowered lowered_function
no_handler_form = record { gives = λ s. plain_gives (deeper no_handler_nests (omega arith)) }

pub some_handler_form : (x : Word) (ss : Placed t.stmts) → Lines ss → Part t.handler (p.some_handler x ss)
unfolding lowered lowered_function
some_handler_form x ss ss1 = record { gives = λ s. one_gives (p.some_handler (word x.text)) (ss1.gives (in_catch x.text s)) (λ y h. deeper (some_handler_nests (word x.text) h) (omega arith)) }

-- ---- what the head of a loop over keys names

pub loop_var_form : (x : Word) → Target (p.loop_var x)
unfolding written
loop_var_form x = record { gives = λ s v h. plain_gives (deeper (write_name_nests s x h) (omega arith)) }

pub loop_name_form : (x : Word) → Target (p.loop_expr (p.name x))
unfolding written
loop_name_form x = record { gives = λ s v h. plain_gives (deeper (write_name_nests s x h) (omega arith)) }

pub loop_dot_form : (e : Placed t.expr) (k : Word) → Part t.expr e → Target (p.loop_expr (p.dot e k))
unfolding written
loop_dot_form e k e1 = record { gives = λ s v i. one_gives (λ o. set o (text_of k) v) (e1.gives s) (λ o h. deeper (set_nests h (text_nests k.text) i) (omega arith)) }

pub loop_index_form : (e k : Placed t.expr) → Part t.expr e → Part t.expr k → Target (p.loop_expr (p.index e k))
unfolding written
loop_index_form e k e1 k1 = record { gives = λ s v i. both_gives (λ o l. set o l v) (e1.gives s) (k1.gives s) (λ o l h j. deeper (set_nests h j i) (omega arith)) }

written_other : (s : Scope) (e v : Placed t.expr) → is_place e ≡ false → written s (p.loop_expr e) v ≡ lowered s t.expr e
unfolding written
written_other s (p.name x) v other = never (sym other)
written_other s (p.dot e k) v other = never (sym other)
written_other s (p.index e k) v other = never (sym other)
written_other s e v other = refl

pub loop_form : (e : Placed t.expr) → is_place e ≡ false → Part t.expr e → Target (p.loop_expr e)
loop_form e other e1 = record { gives = λ s v i. subst (λ z. Gives t.expr (W t.expr e) z) (sym (written_other s e v other)) (e1.gives s) }

-- ---- lists of statements

deep_enough : {n l : ℕ} {f : ℕ → Placed t.stmts × ℕ} → Gives t.stmts n f → n ≤ l → Gives t.stmts l f
deep_enough h e = record { at = λ i. deeper (h.at i) e }

pub no_stmts_form : Lines p.no_stmts
unfolding lowered functions_before
no_stmts_form = record { gives = λ s. plain_gives (deeper no_stmts_nests (omega arith)); functions = λ s n rest e h. h }

pub declared_form : (f : Word) (ps : List Word) (body : Placed t.stmts) (at : ℕ) (ss : Placed t.stmts) → Lines body → Lines ss → Lines (p.more_stmts (p.declare (p.fun (Some f) ps body at)) ss)
unfolding lowered functions_before
declared_form f ps body at ss body1 ss1 = record {
  gives = λ s. deep_enough (ss1.gives s) (omega arith);
  functions = λ s n rest e h. more_stmts_nests (deeper (declares_nests f (function_nests_so s ps body body1)) (omega (arith, e))) (ss1.functions s n rest (omega (arith, e)) h);
}

pub nameless_form : (ps : List Word) (body : Placed t.stmts) (at : ℕ) (ss : Placed t.stmts) → Lines ss → Lines (p.more_stmts (p.declare (p.fun None ps body at)) ss)
unfolding lowered functions_before
nameless_form ps body at ss ss1 = record {
  gives = λ s. deep_enough (ss1.gives s) (omega arith);
  functions = λ s n rest e h. ss1.functions s n rest (omega (arith, e)) h;
}

lowered_list : (s : Scope) (x : Placed t.stmt) (ss : Placed t.stmts) → declares_function x ≡ false → lowered s t.stmts (p.more_stmts x ss) ≡ both p.more_stmts (lowered s t.stmt x) (lowered s t.stmts ss)
unfolding lowered
lowered_list s (p.declare f) ss other = never (sym other)
lowered_list s x ss other = refl

functions_behind : (s : Scope) (x : Placed t.stmt) (ss : Placed t.stmts) → declares_function x ≡ false → functions_before s (p.more_stmts x ss) ≡ functions_before s ss
unfolding functions_before
functions_behind s (p.declare f) ss other = never (sym other)
functions_behind s x ss other = refl

pub more_stmts_form : (x : Placed t.stmt) (ss : Placed t.stmts) → declares_function x ≡ false → Part t.stmt x → Lines ss → Lines (p.more_stmts x ss)
more_stmts_form x ss other x1 ss1 = record {
  gives = λ s. subst (λ z. Gives t.stmts (W t.stmts (p.more_stmts x ss)) z) (sym (lowered_list s x ss other))
      (both_gives p.more_stmts (x1.gives s) (ss1.gives s) (λ y z h i. more_stmts_nests (deeper h (omega arith)) (deeper i (omega arith))));
  functions = λ s n rest e h. subst (λ z. Nests t.stmts n (joined z rest)) (sym (functions_behind s x ss other)) (ss1.functions s n rest (omega (arith, e)) h);
}
