-- Rewriting keeps each jump's target: what stands for a part is targeted where the part is, in a function in place of a program.
use Rattle.std.proofs.Common.{◌≡◌, ℕ, zero, suc, ◌+◌, Bool, true, false, List, [], ◌∷◌, Option, Some, None, refl, ap, ◌∙◌}
use Rattle.std.specs.Prelude.{◌&&◌, not}
use Rattle.std.proofs.lemmas.Bool.{and_from, and_parts}
use Rattle.es3_tree.specs.Tree as t
use Rattle.es3_tree.specs.declared.BinOp.TheVariants as bin
use Rattle.es3_labels.specs.Around.{Around, in_program, in_function, in_loop, in_switch, in_label, has_loop, has_break, has_label, has_loop_label, has_function}
use Rattle.cajita_tree.specs.Tree as c
use Rattle.cajita_rewrite.specs.Rewrite.{of_sort, temps, declared, others, joined, name_items, temp_items, args_items, var_stmts, head_items, marks, import_stmts, result_stmts, rewritten, program_of}
use Rattle.cajoled_jumps.specs.Targets.{continues, breaks, is_loop, targeted, is_resolved_loop, resolved_targeted}
use Rattle.cajoled_jumps.proofs.Expressions.{same_expr, same_key}

-- ---- what stands around it

abbrev pub within_function : Around → Around
within_function in_program = in_function
within_function in_function = in_function
within_function (in_loop a) = in_loop (within_function a)
within_function (in_switch a) = in_switch (within_function a)
within_function (in_label l loop a) = in_label l loop (within_function a)

same_loop : (a : Around) → has_loop (within_function a) ≡ has_loop a
same_loop in_program = refl
same_loop in_function = refl
same_loop (in_loop a) = refl
same_loop (in_switch a) = same_loop a
same_loop (in_label l loop a) = same_loop a

same_break : (a : Around) → has_break (within_function a) ≡ has_break a
same_break in_program = refl
same_break in_function = refl
same_break (in_loop a) = refl
same_break (in_switch a) = refl
same_break (in_label l loop a) = same_break a

same_label : (a : Around) (x : List ℕ) → has_label (within_function a) x ≡ has_label a x
same_label in_program x = refl
same_label in_function x = refl
same_label (in_loop a) x = same_label a x
same_label (in_switch a) x = same_label a x
same_label (in_label l loop a) x = simp (same_label a x) refl

same_loop_label : (a : Around) (x : List ℕ) → has_loop_label (within_function a) x ≡ has_loop_label a x
same_loop_label in_program x = refl
same_loop_label in_function x = refl
same_loop_label (in_loop a) x = same_loop_label a x
same_loop_label (in_switch a) x = same_loop_label a x
same_loop_label (in_label l loop a) x = simp (same_loop_label a x) refl

returns : (a : Around) → has_function (within_function a) ≡ true
returns in_program = refl
returns in_function = refl
returns (in_loop a) = returns a
returns (in_switch a) = returns a
returns (in_label l loop a) = returns a

continuing : (a : Around) (l : Option (List ℕ)) → continues (within_function a) l ≡ continues a l
continuing a None = same_loop a
continuing a (Some l) = same_loop_label a l

breaking : (a : Around) (l : Option (List ℕ)) → breaks (within_function a) l ≡ breaks a l
breaking a None = same_break a
breaking a (Some l) = same_label a l

-- what stands for a loop is one
loops : (n : ℕ) (x : c.Tree c.stmt) → is_loop (rewritten false c.stmt n x) ≡ is_resolved_loop x
unfolding rewritten
loops n (c.block xs) = refl
loops n (c.var is) = refl
loops n c.empty = refl
loops n (c.expression e) = refl
loops n (c.branch e x y) = refl
loops n (c.while_loop e x) = refl
loops n (c.do_loop x e) = refl
loops n (c.for_loop i e u x) = refl
loops n (c.for_in (c.variable x) e b) = refl
loops n (c.for_in (c.member o k) e b) = refl
loops n (c.continue l) = refl
loops n (c.break l) = refl
loops n (c.return e) = refl
loops n (c.switch e cs) = refl
loops n (c.label l x) = loops n x
loops n (c.throw e) = refl
loops n (c.try xs h f) = refl

-- ---- lists of statements and of variables

joined_kept : (a : Around) (xs ys : t.Tree t.stmts) → targeted a t.stmts xs ≡ true → targeted a t.stmts ys ≡ true → targeted a t.stmts (joined xs ys) ≡ true
unfolding targeted
joined_kept a t.no_stmts ys h i = i
joined_kept a (t.more_stmts x xs) ys h i = let k = and_parts (targeted a t.stmt x) (targeted a t.stmts xs) h in and_from _ _ k.0 (joined_kept a xs ys k.1 i)

marks_kept : (a : Around) (fs : c.Tree c.funcs) (rest : t.Tree t.stmts) → targeted a t.stmts rest ≡ true → targeted a t.stmts (marks fs rest) ≡ true
unfolding targeted
marks_kept a c.no_funcs rest h = h
marks_kept a (c.more_funcs (c.fun None params args body) fs) rest h = marks_kept a fs rest h
marks_kept a (c.more_funcs (c.fun (Some x) params args body) fs) rest h = marks_kept a fs rest h

imports_kept : (a : Around) (xs : List (List ℕ)) (rest : t.Tree t.stmts) → targeted a t.stmts rest ≡ true → targeted a t.stmts (import_stmts xs rest) ≡ true
unfolding targeted
imports_kept a [] rest h = h
imports_kept a (x ∷ xs) rest h = imports_kept a xs rest h

names_kept : (a : Around) (xs : List (List ℕ)) → targeted a t.items (name_items xs t.no_items) ≡ true
unfolding targeted
names_kept a [] = refl
names_kept a (x ∷ xs) = names_kept a xs

temps_kept : (a : Around) (i n : ℕ) (is : t.Tree t.items) → targeted a t.items is ≡ true → targeted a t.items (temp_items i n is) ≡ true
unfolding targeted
temps_kept a i zero is h = h
temps_kept a i (suc n) is h = temps_kept a (suc i) n is h

head_kept : (a : Around) (b : c.Tree c.body) → targeted a t.items (head_items b) ≡ true
head_kept a (c.a_body fs vars xs) = temps_kept a 0 (temps c.stmts xs) (name_items (others vars (declared c.stmts xs)) t.no_items) (names_kept a (others vars (declared c.stmts xs)))

args_kept : (a : Around) (args : Bool) (is : t.Tree t.items) → targeted a t.items is ≡ true → targeted a t.items (args_items args is) ≡ true
unfolding targeted
args_kept a false is h = h
args_kept a true is h = h

vars_kept : (a : Around) (is : t.Tree t.items) (rest : t.Tree t.stmts) → targeted a t.items is ≡ true → targeted a t.stmts rest ≡ true → targeted a t.stmts (var_stmts is rest) ≡ true
unfolding targeted
vars_kept a t.no_items rest h i = i
vars_kept a (t.more_items x e is) rest h i = and_from _ _ h i

-- ---- parts that are targeted together

two : {x y b d : Bool} → (x ≡ true → b ≡ true) → (y ≡ true → d ≡ true) → (x && y) ≡ true → (b && d) ≡ true
two {x = x} {y = y} {b = b} {d = d} f g h = let k = and_parts x y h in and_from b d (f k.0) (g k.1)

three : {x y z b d e : Bool} → (x ≡ true → b ≡ true) → (y ≡ true → d ≡ true) → (z ≡ true → e ≡ true) → ((x && y) && z) ≡ true → ((b && d) && e) ≡ true
three {x = x} {y = y} {z = z} {b = b} {d = d} {e = e} f g i h = two {x = x && y} {y = z} {b = b && d} {d = e} (two f g) i h

-- as arguments of a guard
one_argument : {b : Bool} → b ≡ true → (b && true) ≡ true
one_argument {b = b} h = and_from b true h refl

two_arguments : {x y b d : Bool} → (x ≡ true → b ≡ true) → (y ≡ true → d ≡ true) → (x && y) ≡ true → (b && (d && true)) ≡ true
two_arguments f g h = two f (λ k. one_argument (g k)) h

three_arguments : {x y z b d e : Bool} → (x ≡ true → b ≡ true) → (y ≡ true → d ≡ true) → (z ≡ true → e ≡ true) → ((x && y) && z) ≡ true → (b && (d && (e && true))) ≡ true
three_arguments {x = x} {y = y} {z = z} {b = b} {d = d} {e = e} f g i h =
    let k = and_parts (x && y) z h in let l = and_parts x y k.0 in and_from b (d && (e && true)) (f l.0) (and_from d (e && true) (g l.1) (one_argument (i k.1)))

-- in a loop over keys that writes each to a member, which is found anew in each turn
member_loop : {x y z w b d e g : Bool} → (x ≡ true → b ≡ true) → (y ≡ true → d ≡ true) → (z ≡ true → e ≡ true) → (w ≡ true → g ≡ true) → (((x && y) && z) && w) ≡ true
    → (((((e && true) && true) && true) && true) && ((((b && (d && true)) && (g && true)) && true) && true)) ≡ true
member_loop {x = x} {y = y} {z = z} {w = w} {b = b} {d = d} {e = e} {g = g} f h i j all =
    let k = and_parts ((x && y) && z) w all in
    let l = and_parts (x && y) z k.0 in
    let written : (b && (d && true)) ≡ true = two_arguments f h l.0 in
    let body : ((b && (d && true)) && (g && true)) ≡ true = and_from (b && (d && true)) (g && true) written (one_argument (j k.1)) in
    and_from ((((e && true) && true) && true) && true) ((((b && (d && true)) && (g && true)) && true) && true) (one_argument (one_argument (one_argument (one_argument (i l.1))))) (one_argument (one_argument body))

-- ---- each form

pub kept : (a : Around) (m : Bool) (s : c.Sort) (n : ℕ) (x : c.Tree s) → resolved_targeted a s x ≡ true → targeted (within_function a) (of_sort s) (rewritten m s n x) ≡ true
unfolding rewritten targeted resolved_targeted
kept a m _ n c.null h = refl
kept a m _ n (c.bool b) h = refl
kept a m _ n (c.num i) h = refl
kept a m _ n (c.text u) h = refl
kept a m _ n (c.name x) h = refl
kept a m _ n c.args h = refl
kept a m _ n (c.array es) h = one_argument (kept a false c.exprs n es h)
kept a m _ n (c.record_of fs) h = one_argument (kept a false c.fields n fs h)
kept a m _ n (c.function f) h = one_argument (kept a false c.func 0 f h)
kept a m _ n (c.read e k) h = two_arguments (kept a false c.expr n e) (kept a false c.key (n + temps c.expr e) k) h
kept a m _ n (c.call e es) h = two (λ i. one_argument (kept a false c.expr n e i)) (kept a false c.exprs (n + temps c.expr e) es) h
kept a m _ n (c.method e k es) h = three_arguments (kept a false c.expr n e) (kept a false c.key (n + temps c.expr e) k) (kept a false c.exprs (n + (temps c.expr e + temps c.key k)) es) h
kept a m _ n (c.new e es) h = two_arguments (kept a false c.expr n e) (kept a false c.exprs (n + temps c.expr e) es) h
kept a m _ n (c.delete e k) h = two_arguments (kept a false c.expr n e) (kept a false c.key (n + temps c.expr e) k) h
kept a m _ n (c.step up before (c.variable x)) h = refl
kept a m _ n (c.step up true (c.member e (c.fixed k))) h = two (kept a false c.expr (n + 1) e) (λ i. refl) h
kept a m _ n (c.step up true (c.member e (c.computed f))) h = one_argument (two_arguments (kept a false c.expr (n + 2) e) (kept a false c.expr (n + 2 + temps c.expr e) f) h)
kept a m _ n (c.step up false (c.member e (c.fixed k))) h = one_argument (one_argument (two (kept a false c.expr (n + 2) e) (λ i. refl) h))
kept a m _ n (c.step up false (c.member e (c.computed f))) h =
    one_argument (one_argument (one_argument (two_arguments (kept a false c.expr (n + 3) e) (kept a false c.expr (n + 3 + temps c.expr e) f) h)))
kept a m _ n (c.assign None (c.variable x) e) h = kept a false c.expr n e h
kept a m _ n (c.assign (Some op) (c.variable x) e) h = kept a false c.expr n e h
kept a m _ n (c.assign None (c.member e k) v) h = three_arguments (kept a false c.expr n e) (kept a false c.key (n + temps c.expr e) k) (kept a false c.expr (n + (temps c.expr e + temps c.key k)) v) h
kept a m _ n (c.assign (Some op) (c.member e (c.fixed k)) v) h =
    two (λ i. kept a false c.expr (n + 1) e (and_parts (resolved_targeted a c.expr e) true i).0) (λ i. one_argument (kept a false c.expr (n + 1 + temps c.expr e) v i)) h
kept a m _ n (c.assign (Some op) (c.member e (c.computed f)) v) h =
    two (two_arguments (kept a false c.expr (n + 2) e) (kept a false c.expr (n + 2 + temps c.expr e) f)) (λ i. one_argument (kept a false c.expr (n + 2 + (temps c.expr e + temps c.expr f)) v i)) h
kept a m _ n (c.unary op e) h = kept a false c.expr n e h
kept a m _ n (c.binary bin.InObject x y) h = two_arguments (kept a false c.expr n x) (kept a false c.expr (n + temps c.expr x) y) h
kept a m _ n (c.binary bin.InstanceOf x y) h = two_arguments (kept a false c.expr n x) (kept a false c.expr (n + temps c.expr x) y) h
kept a m _ n (c.binary op x y) h = two (kept a false c.expr n x) (kept a false c.expr (n + temps c.expr x) y) h
kept a m _ n (c.and x y) h = two (kept a false c.expr n x) (kept a false c.expr (n + temps c.expr x) y) h
kept a m _ n (c.or x y) h = two (kept a false c.expr n x) (kept a false c.expr (n + temps c.expr x) y) h
kept a m _ n (c.choice x y z) h = three (kept a false c.expr n x) (kept a false c.expr (n + temps c.expr x) y) (kept a false c.expr (n + (temps c.expr x + temps c.expr y)) z) h
kept a m _ n (c.comma x y) h = two (kept a false c.expr n x) (kept a false c.expr (n + temps c.expr x) y) h
kept a m _ n c.no_exprs h = refl
kept a m _ n (c.more_exprs e es) h = two (kept a false c.expr n e) (kept a false c.exprs (n + temps c.expr e) es) h
kept a m _ n c.no_fields h = refl
kept a m _ n (c.more_fields k e fs) h = two (kept a false c.expr n e) (kept a false c.fields (n + temps c.expr e) fs) h
kept a m _ n (c.fixed k) h = refl
kept a m _ n (c.computed e) h = kept a false c.expr n e h
kept a m _ n (c.variable x) h = refl
kept a m _ n (c.member e k) h = refl
kept a m _ n c.no_expr h = refl
kept a m _ n (c.some_expr e) h = kept a false c.expr n e h
kept a m _ n (c.block xs) h = kept a false c.stmts n xs h
kept a m _ n (c.var is) h = kept a false c.items n is h
kept a m _ n c.empty h = refl
kept a true _ n (c.expression e) h = kept a false c.expr n e h
kept a false _ n (c.expression e) h = kept a false c.expr n e h
kept a m _ n (c.branch e x y) h = three (kept a false c.expr n e) (kept a false c.stmt (n + temps c.expr e) x) (kept a false c.maybe_stmt (n + (temps c.expr e + temps c.stmt x)) y) h
kept a m _ n (c.while_loop e x) h = two (kept a false c.expr n e) (kept (in_loop a) false c.stmt (n + temps c.expr e) x) h
kept a m _ n (c.do_loop x e) h = two (kept (in_loop a) false c.stmt n x) (kept a false c.expr (n + temps c.stmt x) e) h
kept a m _ n (c.for_loop i e u x) h =
    two (three (kept a false c.first n i) (kept a false c.maybe_expr (n + temps c.first i) e) (kept a false c.maybe_expr (n + (temps c.first i + temps c.maybe_expr e)) u))
    (kept (in_loop a) false c.stmt (n + (temps c.first i + (temps c.maybe_expr e + temps c.maybe_expr u))) x) h
kept a m _ n (c.for_in (c.variable x) e b) h =
    two (λ i. one_argument (one_argument (one_argument (one_argument (kept a false c.expr (n + 3) e i))))) (λ i. one_argument (one_argument (one_argument (kept (in_loop a) false c.stmt (n + 3 + temps c.expr e) b i)))) h
kept a m _ n (c.for_in (c.member o k) e b) h =
    member_loop (λ i. kept (in_loop a) false c.expr (n + 3) o (same_expr (in_loop a) a o ∙ i)) (λ i. kept (in_loop a) false c.key (n + 3 + temps c.expr o) k (same_key (in_loop a) a k ∙ i)) (kept a false c.expr (n + 3 + (temps c.expr o + temps c.key k)) e)
    (kept (in_loop a) false c.stmt (n + 3 + (temps c.expr o + (temps c.key k + temps c.expr e))) b) h
kept a m _ n (c.continue l) h = continuing a l ∙ h
kept a m _ n (c.break l) h = breaking a l ∙ h
kept a m _ n (c.return e) h = two (λ i. returns a) (kept a false c.maybe_expr n e) h
kept a m _ n (c.switch e cs) h = two (kept a false c.expr n e) (kept (in_switch a) false c.cases (n + temps c.expr e) cs) h
kept a m _ n (c.label l x) h =
    two (λ i. ap not (same_label a l) ∙ i) (λ i. ap (λ b. targeted (in_label l b (within_function a)) t.stmt (rewritten false c.stmt n x)) (loops n x) ∙ kept (in_label l (is_resolved_loop x) a) false c.stmt n x i) h
kept a m _ n (c.throw e) h = kept a false c.expr n e h
kept a m _ n (c.try xs k f) h = three (kept a false c.stmts n xs) (kept a false c.handler (n + temps c.stmts xs) k) (kept a false c.maybe_block (n + (temps c.stmts xs + temps c.handler k)) f) h
kept a m _ n c.no_stmts h = refl
kept a m _ n (c.more_stmts x xs) h = two (kept a m c.stmt n x) (kept a m c.stmts (n + temps c.stmt x) xs) h
kept a m _ n c.no_items h = refl
kept a m _ n (c.more_items x e is) h = two (kept a false c.maybe_expr n e) (kept a false c.items (n + temps c.maybe_expr e) is) h
kept a m _ n c.no_stmt h = refl
kept a m _ n (c.some_stmt x) h = kept a false c.stmt n x h
kept a m _ n c.no_block h = refl
kept a m _ n (c.some_block xs) h = kept a false c.stmts n xs h
kept a m _ n c.no_first h = refl
kept a m _ n (c.first_var is) h = kept a false c.items n is h
kept a m _ n (c.first_expr e) h = kept a false c.expr n e h
kept a m _ n c.no_cases h = refl
kept a m _ n (c.more_cases e xs cs) h = three (kept a false c.maybe_expr n e) (kept a false c.stmts (n + temps c.maybe_expr e) xs) (kept a false c.cases (n + (temps c.maybe_expr e + temps c.stmts xs)) cs) h
kept a m _ n c.no_handler h = refl
kept a m _ n (c.some_handler x xs) h = kept a false c.stmts n xs h
kept a m _ n (c.fun name params args body) h =
    vars_kept in_function (args_items args (head_items body)) (rewritten false c.body 0 body) (args_kept in_function args (head_items body) (head_kept in_function body)) (kept in_function false c.body 0 body h)
kept a m _ n c.no_funcs h = refl
kept a m _ n (c.more_funcs f fs) h = two (kept a false c.func 0 f) (kept a false c.funcs 0 fs) h
kept a m _ n (c.a_body fs vars xs) h =
    let k = and_parts (resolved_targeted a c.funcs fs) (resolved_targeted a c.stmts xs) h in
    joined_kept (within_function a) (rewritten false c.funcs 0 fs) (marks fs (rewritten m c.stmts 0 xs)) (kept a false c.funcs 0 fs k.0) (marks_kept (within_function a) fs (rewritten m c.stmts 0 xs) (kept a m c.stmts 0 xs k.1))
kept a m _ n (c.a_module imports body) h =
    let result : targeted in_function t.stmts result_stmts ≡ true = refl in
    let statements = joined_kept in_function (rewritten true c.body 0 body) result_stmts (kept in_program true c.body 0 body h) result in
    one_argument (one_argument (and_from _ _ (head_kept in_function body) (imports_kept in_function imports (joined (rewritten true c.body 0 body) result_stmts) statements)))

-- the program of a module
pub program_targeted : (m : c.Tree c.program) → resolved_targeted in_program c.program m ≡ true → targeted in_program t.program (program_of m) ≡ true
unfolding rewritten targeted
program_targeted (c.a_module imports body) h = kept in_program false c.program 0 (c.a_module imports body) h
