-- Each form of a statement, and lists of statements.
use Rattle.std.proofs.Common.{◌≡◌, ℕ, Option, ◌+◌, false, List, [], ◌∷◌, ◌++◌, None, Some, refl, sym, subst, arith}
use Rattle.caja_units.specs.Units.{same_units}
use Rattle.es3_tree.specs.Tree as t
use Rattle.es3_tree.specs.Placed as p
use Rattle.es3_tree.specs.Placed.{Placed, Word}
use Rattle.es3_labels.specs.Around.{in_function, in_loop, in_switch, in_label, has_label, has_function}
use Rattle.es3_labels.specs.Misplaced.{misplaced, jump, again, is_loop}
use Rattle.cajita_names.specs.Declarations as role
use Rattle.cajita_names.specs.Declarations.{Declaration, declared_as, declarations, body_declarations}
use Rattle.cajita_names.specs.Scope.{Scope, in_catch, bound, has_own}
use Rattle.cajita_rules.specs.Faults.{Fault, faults_in, hidden}
use Rattle.valija_rules.specs.Faults as valija
use Rattle.valija_forms.specs.Numbered.{both, three}
use Rattle.valija_forms.specs.Forms.{key_now, over_keys}
use Rattle.valija_parts.specs.Lower.{lowered, written, lowered_function, functions_before, within, declares_function}
use Rattle.valija_accepted.proofs.Lists.{never, left_there, no_front, no_back, none_there, something, same_self}
use Rattle.valija_accepted.proofs.Words.{declarable}
use Rattle.valija_accepted.proofs.Formed.{Formed, FormedBody}
use Rattle.valija_accepted.proofs.Scopes.{Holds, placed_own, around_catch}
use Rattle.valija_accepted.proofs.Parts.{Good, IsClean, Kept, front, back, behind, before, plain_kept, one_kept, both_kept, three_kept, four_kept, taking_kept}
use Rattle.valija_accepted.proofs.Declared.{taken_by}
use Rattle.valija_accepted.proofs.Bodies.{labelled, V, M}
use Rattle.valija_accepted.proofs.Asking.{text_clean, set_clean}
use Rattle.valija_accepted.proofs.Names.{write_name_clean, target_of}
use Rattle.valija_accepted.proofs.Loops.{at_key_clean, over_keys_clean}
use Rattle.valija_accepted.proofs.Forms.{block_clean, var_clean, expression_clean, throw_clean, branch_clean, while_clean, do_clean, for_clean, continue_clean, break_clean, return_clean, switch_clean, try_clean, more_stmts_clean, more_items_clean, some_stmt_clean, some_block_clean, first_var_clean, first_expr_clean, more_cases_clean, some_handler_clean, label_kept}
use Rattle.valija_accepted.proofs.Functions.{GoodFunction, good_inner, inner, inner_fits, receiver_function_clean, declares_clean}
use Rattle.valija_accepted.proofs.Standing.{front_in, back_in, in_the_catch, in_the_body, as_list, Expr, Stmt, Lines, Target}
use Rattle.valija_accepted.proofs.Assignments.{is_place, no_place}
use Rattle.valija_accepted.proofs.Declared.{lowered_body}
use Rattle.valija_forms.specs.Forms.{taking_receiver}

pub block_form : (ss : Placed t.stmts) → Lines ss → Stmt t.stmt (p.block ss)
unfolding lowered lowered_function valija.faults_in faults_in misplaced declarations
block_form ss ss1 = record { kept = λ s r total f a h w. one_kept _ (λ l x c. block_clean c) (ss1.kept s r total f a (as_list s a ss h) w) }

pub var_form : (is : Placed t.items) → Stmt t.items is → Stmt t.stmt (p.var is)
unfolding lowered lowered_function valija.faults_in faults_in misplaced declarations
var_form is is1 = record { kept = λ s r total f a h w. one_kept _ (λ l x c. var_clean c) (is1.kept s r total f a h w) }

pub empty_form : Stmt t.stmt p.empty
unfolding lowered lowered_function valija.faults_in faults_in misplaced declarations
empty_form = record { kept = λ s r total f a h w. plain_kept _ (λ l. record { rules = refl; jumps = refl }) }

pub expression_form : (e : Placed t.expr) → Expr t.expr e → Stmt t.stmt (p.expression e)
unfolding lowered lowered_function valija.faults_in faults_in misplaced declarations
expression_form e e1 = record { kept = λ s r total f a h w. one_kept _ (λ l x c. expression_clean c) (e1.kept s r total f a a h) }

pub branch_form : (e : Placed t.expr) (x : Placed t.stmt) (m : Placed t.maybe_stmt) → Expr t.expr e → Stmt t.stmt x → Stmt t.maybe_stmt m → Stmt t.stmt (p.branch e x m)
unfolding lowered lowered_function valija.faults_in faults_in misplaced declarations
branch_form e x m e1 x1 m1 = record { kept = λ s r total f a h w. three_kept _ (λ l i j k c d g. branch_clean c d g) (e1.kept s r total f a a (front _ _ (front _ _ h))) (x1.kept s r total f a (back (V s t.expr e) (M a t.expr e) (front _ _ h)) (front_in (declarations t.maybe_stmt m) w)) (m1.kept s r total f a (back (V s t.expr e ++ V s t.stmt x) (M a t.expr e ++ M a t.stmt x) h) (back_in (declarations t.stmt x) w)) }

pub while_form : (e : Placed t.expr) (x : Placed t.stmt) → Expr t.expr e → Stmt t.stmt x → Stmt t.stmt (p.while_loop e x)
unfolding lowered lowered_function valija.faults_in faults_in misplaced declarations
while_form e x e1 x1 = record { kept = λ s r total f a h w. both_kept _ (λ l i j c d. while_clean c d) (e1.kept s r total f a a (front _ _ h)) (x1.kept s r total f (in_loop a) (back (V s t.expr e) (M a t.expr e) h) w) }

pub do_form : (x : Placed t.stmt) (e : Placed t.expr) → Stmt t.stmt x → Expr t.expr e → Stmt t.stmt (p.do_loop x e)
unfolding lowered lowered_function valija.faults_in faults_in misplaced declarations
do_form x e x1 e1 = record { kept = λ s r total f a h w. both_kept _ (λ l i j c d. do_clean c d) (x1.kept s r total f (in_loop a) (front _ _ h) w) (e1.kept s r total f a a (back (V s t.stmt x) (M (in_loop a) t.stmt x) h)) }

pub for_form : (i : Placed t.first) (m n : Placed t.maybe_expr) (x : Placed t.stmt) → Stmt t.first i → Expr t.maybe_expr m → Expr t.maybe_expr n → Stmt t.stmt x → Stmt t.stmt (p.for_loop i m n x)
unfolding lowered lowered_function valija.faults_in faults_in misplaced declarations
for_form i m n x i1 m1 n1 x1 = record { kept = λ s r total f a h w. four_kept _ (λ l j k o q c d g e. for_clean c d g e) (i1.kept s r total f a (front _ _ (front _ _ (front _ _ h))) (front_in (declarations t.stmt x) w)) (m1.kept s r total f a a (back (V s t.first i) (M a t.first i) (front _ _ (front _ _ h)))) (n1.kept s r total f a a (back (V s t.first i ++ V s t.maybe_expr m) (M a t.first i ++ M a t.maybe_expr m) (front _ _ h))) (x1.kept s r total f (in_loop a) (back ((V s t.first i ++ V s t.maybe_expr m) ++ V s t.maybe_expr n) ((M a t.first i ++ M a t.maybe_expr m) ++ M a t.maybe_expr n) h) (back_in (declarations t.first i) w)) }

pub for_in_form : (i : Placed t.loop_target) (e : Placed t.expr) (x : Placed t.stmt) → Target i → Expr t.expr e → Stmt t.stmt x → Stmt t.stmt (p.for_in i e x)
unfolding lowered lowered_function valija.faults_in faults_in misplaced declarations written
for_in_form i e x i1 e1 x1 = record { kept = λ s r total f a h w. taking_kept 3 (λ n. three (over_keys n (n + 1) (n + 2)) (written s i (key_now n)) (lowered s t.expr e) (lowered s t.stmt x)) (λ n. three_kept _ (λ few j k o c d g. let i0 : Holds _ n = f.temporaries n (omega arith) in let i1 : Holds _ (n + 1) = f.temporaries (n + 1) (omega arith) in let i2 : Holds _ (n + 2) = f.temporaries (n + 2) (omega arith) in over_keys_clean f.outer.home i0 i1 i2 c d g) (i1.kept s r total (n + 3) (key_now n) f a (in_loop a) (front _ _ (front _ _ h)) (front_in (declarations t.stmt x) w) (λ few. at_key_clean (f.temporaries (n + 1) (omega arith)) (f.temporaries (n + 2) (omega arith)))) (e1.kept s r total f a a (back (V s t.loop_target i) (M a t.loop_target i) (front _ _ h))) (x1.kept s r total f (in_loop a) (back (V s t.loop_target i ++ V s t.expr e) (M a t.loop_target i ++ M a t.expr e) h) (back_in (declarations t.loop_target i) w))) }

pub continue_form : (l : Option Word) (at : ℕ) → Stmt t.stmt (p.continue l at)
unfolding lowered lowered_function valija.faults_in faults_in misplaced declarations
continue_form l at = record { kept = λ s r total f a h w. plain_kept _ (λ o. continue_clean l at h.rules h.jumps) }

pub break_form : (l : Option Word) (at : ℕ) → Stmt t.stmt (p.break l at)
unfolding lowered lowered_function valija.faults_in faults_in misplaced declarations
break_form l at = record { kept = λ s r total f a h w. plain_kept _ (λ o. break_clean l at h.rules h.jumps) }

pub return_form : (m : Placed t.maybe_expr) (at : ℕ) → Expr t.maybe_expr m → Stmt t.stmt (p.return m at)
unfolding lowered lowered_function valija.faults_in faults_in misplaced declarations
return_form m at m1 = record { kept = λ s r total f a h w. one_kept _ (λ l x c. return_clean at (no_front (jump (has_function a) at) (M a t.maybe_expr m) h.jumps) c) (m1.kept s r total f a a (labelled [] (jump (has_function a) at) h)) }

pub with_form : (e : Placed t.expr) (x : Placed t.stmt) (at : ℕ) → Stmt t.stmt (p.with_object e x at)
unfolding lowered lowered_function valija.faults_in faults_in misplaced declarations
with_form e x at = record { kept = λ s r total f a h w. something _ _ h.rules }

pub switch_form : (e : Placed t.expr) (cs : Placed t.cases) → Expr t.expr e → Stmt t.cases cs → Stmt t.stmt (p.switch e cs)
unfolding lowered lowered_function valija.faults_in faults_in misplaced declarations
switch_form e cs e1 cs1 = record { kept = λ s r total f a h w. both_kept _ (λ l x y c d. switch_clean c d) (e1.kept s r total f a a (front _ _ h)) (cs1.kept s r total f (in_switch a) (back (V s t.expr e) (M a t.expr e) h) w) }

pub label_form : (l : Word) (x : Placed t.stmt) → Stmt t.stmt x → Stmt t.stmt (p.label l x)
unfolding lowered lowered_function valija.faults_in faults_in misplaced declarations
label_form l x x1 = record { kept = λ s r total f a h w. label_kept s l x (no_front (hidden l) (V s t.stmt x) h.rules) (no_front (again (has_label a l.text) l) (M (in_label l.text (is_loop x) a) t.stmt x) h.jumps) (x1.kept s r total f (in_label l.text (is_loop x) a) (labelled (hidden l) (again (has_label a l.text) l) h) w) }

pub throw_form : (e : Placed t.expr) → Expr t.expr e → Stmt t.stmt (p.throw e)
unfolding lowered lowered_function valija.faults_in faults_in misplaced declarations
throw_form e e1 = record { kept = λ s r total f a h w. one_kept _ (λ l x c. throw_clean c) (e1.kept s r total f a a h) }

pub try_form : (ss : Placed t.stmts) (c : Placed t.handler) (m : Placed t.maybe_block) → Lines ss → Stmt t.handler c → Stmt t.maybe_block m → Stmt t.stmt (p.try ss c m)
unfolding lowered lowered_function valija.faults_in faults_in misplaced declarations
try_form ss c m ss1 c1 m1 = record { kept = λ s r total f a h w. three_kept _ (λ l x y z i j k. try_clean i j k) (ss1.kept s r total f a (as_list s a ss (front _ _ (front _ _ h))) (front_in (declarations t.handler c) (front_in (declarations t.maybe_block m) w))) (c1.kept s r total f a (back (V s t.stmts ss) (M a t.stmts ss) (front _ _ h)) (back_in (declarations t.stmts ss) (front_in (declarations t.maybe_block m) w))) (m1.kept s r total f a (back (V s t.stmts ss ++ V s t.handler c) (M a t.stmts ss ++ M a t.handler c) h) (back_in (declarations t.stmts ss ++ declarations t.handler c) w)) }

pub declare_form : (g : Placed t.func) → Stmt t.stmt (p.declare g)
unfolding lowered lowered_function valija.faults_in faults_in misplaced declarations
declare_form g = record { kept = λ s r total f a h w. absurd h.formed }

pub no_items_form : Stmt t.items p.no_items
unfolding lowered lowered_function valija.faults_in faults_in misplaced declarations
no_items_form = record { kept = λ s r total f a h w. plain_kept _ (λ l. record { rules = refl; jumps = refl }) }

pub more_items_form : (x : Word) (m : Placed t.maybe_expr) (is : Placed t.items) → Expr t.maybe_expr m → Stmt t.items is → Stmt t.items (p.more_items x m is)
unfolding lowered lowered_function valija.faults_in faults_in misplaced declarations
more_items_form x m is m1 is1 = record { kept = λ s r total f a h w. both_kept _ (λ l i j c d. more_items_clean x (declarable x (no_front (valija.declared x) (V s t.maybe_expr m) (no_front (valija.declared x ++ V s t.maybe_expr m) (V s t.items is) h.rules))) c d) (m1.kept s r total f a a (behind (valija.declared x) (front _ _ h))) (is1.kept s r total f a (back (valija.declared x ++ V s t.maybe_expr m) (M a t.maybe_expr m) h) (back_in (declared_as role.variable x ∷ []) w)) }

pub no_stmt_form : Stmt t.maybe_stmt p.no_stmt
unfolding lowered lowered_function valija.faults_in faults_in misplaced declarations
no_stmt_form = record { kept = λ s r total f a h w. plain_kept _ (λ l. record { rules = refl; jumps = refl }) }

pub some_stmt_form : (x : Placed t.stmt) → Stmt t.stmt x → Stmt t.maybe_stmt (p.some_stmt x)
unfolding lowered lowered_function valija.faults_in faults_in misplaced declarations
some_stmt_form x x1 = record { kept = λ s r total f a h w. one_kept _ (λ l y c. some_stmt_clean c) (x1.kept s r total f a h w) }

pub no_block_form : Stmt t.maybe_block p.no_block
unfolding lowered lowered_function valija.faults_in faults_in misplaced declarations
no_block_form = record { kept = λ s r total f a h w. plain_kept _ (λ l. record { rules = refl; jumps = refl }) }

pub some_block_form : (ss : Placed t.stmts) → Lines ss → Stmt t.maybe_block (p.some_block ss)
unfolding lowered lowered_function valija.faults_in faults_in misplaced declarations
some_block_form ss ss1 = record { kept = λ s r total f a h w. one_kept _ (λ l y c. some_block_clean c) (ss1.kept s r total f a (as_list s a ss h) w) }

pub no_first_form : Stmt t.first p.no_first
unfolding lowered lowered_function valija.faults_in faults_in misplaced declarations
no_first_form = record { kept = λ s r total f a h w. plain_kept _ (λ l. record { rules = refl; jumps = refl }) }

pub first_var_form : (is : Placed t.items) → Stmt t.items is → Stmt t.first (p.first_var is)
unfolding lowered lowered_function valija.faults_in faults_in misplaced declarations
first_var_form is is1 = record { kept = λ s r total f a h w. one_kept _ (λ l x c. first_var_clean c) (is1.kept s r total f a h w) }

pub first_expr_form : (e : Placed t.expr) → Expr t.expr e → Stmt t.first (p.first_expr e)
unfolding lowered lowered_function valija.faults_in faults_in misplaced declarations
first_expr_form e e1 = record { kept = λ s r total f a h w. one_kept _ (λ l x c. first_expr_clean c) (e1.kept s r total f a a h) }

pub no_cases_form : Stmt t.cases p.no_cases
unfolding lowered lowered_function valija.faults_in faults_in misplaced declarations
no_cases_form = record { kept = λ s r total f a h w. plain_kept _ (λ l. record { rules = refl; jumps = refl }) }

pub more_cases_form : (m : Placed t.maybe_expr) (ss : Placed t.stmts) (cs : Placed t.cases) → Expr t.maybe_expr m → Lines ss → Stmt t.cases cs → Stmt t.cases (p.more_cases m ss cs)
unfolding lowered lowered_function valija.faults_in faults_in misplaced declarations
more_cases_form m ss cs m1 ss1 cs1 = record { kept = λ s r total f a h w. three_kept _ (λ l x y z c d g. more_cases_clean c d g) (m1.kept s r total f a a (front _ _ (front _ _ h))) (ss1.kept s r total f a (as_list s a ss (back (V s t.maybe_expr m) (M a t.maybe_expr m) (front _ _ h))) (front_in (declarations t.cases cs) w)) (cs1.kept s r total f a (back (V s t.maybe_expr m ++ V s t.stmts ss) (M a t.maybe_expr m ++ M a t.stmts ss) h) (back_in (declarations t.stmts ss) w)) }

pub no_handler_form : Stmt t.handler p.no_handler
unfolding lowered lowered_function valija.faults_in faults_in misplaced declarations
no_handler_form = record { kept = λ s r total f a h w. plain_kept _ (λ l. record { rules = refl; jumps = refl }) }

pub some_handler_form : (x : Word) (ss : Placed t.stmts) → Lines ss → Stmt t.handler (p.some_handler x ss)
unfolding lowered lowered_function valija.faults_in faults_in misplaced declarations
some_handler_form x ss ss1 = record { kept = λ s r total f a h w. let both = no_front (valija.declared x ++ valija.masking s x) (V (in_catch x.text s) t.stmts ss) h.rules in let d = declarable x (no_front (valija.declared x) (valija.masking s x) both) in let none = none_there 7 x (has_own s x.text) (no_back (valija.declared x) (valija.masking s x) both) in one_kept _ (λ l y c. some_handler_clean x d (f.owned x.text d.usable.own_name none) c) (ss1.kept (in_catch x.text s) (in_catch x.text r) total (around_catch x.text f) a (as_list (in_catch x.text s) a ss (behind (valija.declared x ++ valija.masking s x) h)) (in_the_catch x.text w)) }

pub loop_var_form : (x : Word) → Target (p.loop_var x)
unfolding lowered lowered_function valija.faults_in faults_in misplaced declarations written
loop_var_form x = record { kept = λ s r total low v f a b h w g. let d = declarable x h.rules in plain_kept _ (λ l. write_name_clean f b x d.usable d.no_arguments (placed_own (bound s x.text) (w.placed x.text (left_there (same_units x.text x.text) false (same_self x.text)))) (g l)) }

pub loop_name_form : (x : Word) → Target (p.loop_expr (p.name x))
unfolding lowered lowered_function valija.faults_in faults_in misplaced declarations written
loop_name_form x = record { kept = λ s r total low v f a b h w g. let d = target_of s x h.rules in plain_kept _ (λ l. write_name_clean f b x d.usable d.no_arguments d.no_import (g l)) }

pub loop_dot_form : (e : Placed t.expr) (k : Word) → Expr t.expr e → Target (p.loop_expr (p.dot e k))
unfolding lowered lowered_function valija.faults_in faults_in misplaced declarations written
loop_dot_form e k e1 = record { kept = λ s r total low v f a b h w g. one_kept _ (λ l o c. set_clean f.outer.home c (text_clean k.text) (g l)) (e1.kept s r total f a b (before (hidden k) (before [] h))) }

pub loop_index_form : (e k : Placed t.expr) → Expr t.expr e → Expr t.expr k → Target (p.loop_expr (p.index e k))
unfolding lowered lowered_function valija.faults_in faults_in misplaced declarations written
loop_index_form e k e1 k1 = record { kept = λ s r total low v f a b h w g. both_kept _ (λ l x y c d. set_clean f.outer.home c d (g l)) (e1.kept s r total f a b (front _ _ (before [] h))) (k1.kept s r total f a b (back (V s t.expr e) (M a t.expr e) (before [] h))) }

pub loop_form : (e : Placed t.expr) → is_place e ≡ false → Target (p.loop_expr e)
unfolding valija.faults_in
loop_form e other = record { kept = λ s r total low v f a b h w g. no_place s e other h.rules }

-- ---- lists of statements

pub no_stmts_form : Lines p.no_stmts
unfolding lowered functions_before faults_in misplaced
no_stmts_form = record { kept = λ s r total f a h w. plain_kept _ (λ l. record { rules = refl; jumps = refl }); functions = λ s r total f a h. record { rules = refl; jumps = refl } }

-- a function that is declared stands in front
pub declared_form : (n : Word) (ps : List Word) (body : Placed t.stmts) (at : ℕ) (ss : Placed t.stmts) → Lines body → Lines ss → Lines (p.more_stmts (p.declare (p.fun (Some n) ps body at)) ss)
unfolding lowered functions_before valija.faults_in misplaced declarations
declared_form n ps body at ss body1 ss1 = record {
  kept = λ s r total f a h w. ss1.kept s r total f a (back (faults s) (M in_function t.stmts body) h) (back_in (declared_as role.function n ∷ []) w);
  functions = λ s r total f a h.
      let here : Good (FormedBody body) (faults s) (M in_function t.stmts body) = front _ _ h in
      let g : GoodFunction s ps body = behind (valija.declared n) here in
      let one_more : IsClean r a t.expr (taking_receiver ps (lowered_body (within s ps body) body)) = receiver_function_clean a f.outer ps body g
      (body1.kept (within s ps body) (inner s r ps body) (taken_by (within s ps body) body) (inner_fits f.outer ps body g) in_function (good_inner s ps body g) (in_the_body s ps body))
      (body1.functions (within s ps body) (inner s r ps body) (taken_by (within s ps body) body) (inner_fits f.outer ps body g) in_function (good_inner s ps body g)) in
      more_stmts_clean (declares_clean n (declarable n (no_front (valija.declared n) _ here.rules)) one_more) (ss1.functions s r total f a (back (faults s) (M in_function t.stmts body) h));
}
  where
    faults : Scope → List Fault
    faults s = valija.declared n ++ ((valija.all_declared ps ++ valija.redeclared [] (body_declarations ps body)) ++ V (within s ps body) t.stmts body)

pub nameless_form : (ps : List Word) (body : Placed t.stmts) (at : ℕ) (ss : Placed t.stmts) → Lines (p.more_stmts (p.declare (p.fun None ps body at)) ss)
nameless_form ps body at ss = record { kept = λ s r total f a h w. absurd h.formed; functions = λ s r total f a h. absurd h.formed }

-- another statement stands where it stood
lowered_more : (s : Scope) (x : Placed t.stmt) (ss : Placed t.stmts) → declares_function x ≡ false → lowered s t.stmts (p.more_stmts x ss) ≡ both p.more_stmts (lowered s t.stmt x) (lowered s t.stmts ss)
unfolding lowered
lowered_more s (p.declare f) ss other = never (sym other)
lowered_more s x ss other = refl

functions_more : (s : Scope) (x : Placed t.stmt) (ss : Placed t.stmts) → declares_function x ≡ false → functions_before s (p.more_stmts x ss) ≡ functions_before s ss
unfolding functions_before
functions_more s (p.declare f) ss other = never (sym other)
functions_more s x ss other = refl

formed_more : (x : Placed t.stmt) (ss : Placed t.stmts) → declares_function x ≡ false → FormedBody (p.more_stmts x ss) → Formed t.stmt x × FormedBody ss
formed_more (p.declare f) ss other h = never (sym other)
formed_more x ss other h = h

pub more_stmts_form : (x : Placed t.stmt) (ss : Placed t.stmts) → declares_function x ≡ false → Stmt t.stmt x → Lines ss → Lines (p.more_stmts x ss)
unfolding valija.faults_in misplaced declarations
more_stmts_form x ss other x1 ss1 = record {
  kept = λ s r total f a h w.
      let g : Good (Formed t.stmt x × FormedBody ss) (V s t.stmt x ++ V s t.stmts ss) (M a t.stmt x ++ M a t.stmts ss) = record { formed = formed_more x ss other h.formed; rules = h.rules; jumps = h.jumps } in
      subst (λ z. Kept r a total 0 t.stmts z) (sym (lowered_more s x ss other))
      (both_kept p.more_stmts (λ l i j c d. more_stmts_clean c d) (x1.kept s r total f a (front _ _ g) (front_in (declarations t.stmts ss) w)) (ss1.kept s r total f a (back (V s t.stmt x) (M a t.stmt x) g) (back_in (declarations t.stmt x) w)));
  functions = λ s r total f a h.
      let g : Good (Formed t.stmt x × FormedBody ss) (V s t.stmt x ++ V s t.stmts ss) (M a t.stmt x ++ M a t.stmts ss) = record { formed = formed_more x ss other h.formed; rules = h.rules; jumps = h.jumps } in
      subst (IsClean r a t.stmts) (sym (functions_more s x ss other)) (ss1.functions s r total f a (back (V s t.stmt x) (M a t.stmt x) g));
}
