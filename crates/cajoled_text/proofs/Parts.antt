-- Each form of a module, rewritten, is one that tokens spell where its parts are.
use Rattle.std.proofs.Common.{ℕ, ◌+◌, ◌<◌, Bool, true, false, List, Some, None, refl, ◌∙◌, arith}
use Rattle.std.specs.Prelude.{ℤ, Option, codes}
use Rattle.es3_tree.specs.Tree as t
use Rattle.es3_tree.specs.declared.UnOp.{UnOp}
use Rattle.es3_tree.specs.declared.BinOp.{BinOp}
use Rattle.es3_tree.specs.declared.BinOp.TheVariants as bin
use Rattle.es3_grammar.specs.Levels.{an_and, an_or, an_assign}
use Rattle.cajita_tree.specs.Tree as c
use Rattle.cajita_rewrite.specs.Rewrite.{result_name, arguments_copy, joined, others, name_items, args_items, declared, head_items, marks, temps, rewritten}
use Rattle.source_sizes.specs.Sizes.{inner_temps}
use Rattle.cajoled_text.specs.Clean.{HasItems, HasName, Clean}
use Rattle.cajoled_text.proofs.Operators.{of_and, of_or, of_assign}
use Rattle.cajoled_text.proofs.Forms as form
use Rattle.cajoled_text.proofs.Forms.{Written, Expression, Expressions, number, literal, named, join, assigned, array, call, unary, choice, null, boolean, no_more, more}
use Rattle.cajoled_text.proofs.Calls.{of_one, of_two, of_three, read, write, key_known, number_read, operation, both, more_by_one, temporary, held, after_one, after_two}
use Rattle.cajoled_text.proofs.Statements.{Value, Items, Listed, no_value, value, item, variables, no_expr, some_expr, Statements, no_stmts, more_stmts, block, empty, statement, branch_alone, branch_else, while_loop, do_loop, First, no_first, first_var, first_expr, for_loop, continued, broken, returned, label, thrown, no_cases, case, otherwise, switch, caught, at_last, caught_at_last}
use Rattle.cajoled_text.proofs.Bodies.{other_names, names_listed, temps_listed, args_listed, Body, body_of, line, declaration, with_variables, func}
use Rattle.cajoled_text.proofs.KeysLoop.{its_key, over_keys}
use Rattle.cajoled_text.proofs.Kept.{still_closed, still_one}

-- a declaration of variables declares one
some_items : (is : c.Tree c.items) → HasItems is → (n : ℕ) → Listed (rewritten false c.items n is) → Items (rewritten false c.items n is)
unfolding rewritten
some_items c.no_items some n h = absurd some
some_items (c.more_items x e is) some n h = h

-- the temporaries of a body, and the names that no `var` of it declares
pub head_listed : (b : c.Tree c.body) → Clean c.body b → temps c.body b < 18446744073709551616 → Listed (head_items b)
unfolding Clean
head_listed (c.a_body fs vars xs) h few = temps_listed 0 (temps c.stmts xs) (name_items (others vars (declared c.stmts xs)) t.no_items) (omega arith) (names_listed (others vars (declared c.stmts xs)) (other_names vars (declared c.stmts xs) h.1))

-- `___.func(N);` for each function that a body declares
marked : (fs : c.Tree c.funcs) (rest : t.Tree t.stmts) → Clean c.funcs fs → Body rest → Body (marks fs rest)
unfolding Clean
marked c.no_funcs rest h q = q
marked (c.more_funcs (c.fun None ps args b) fs) rest h q = absurd h.0
marked (c.more_funcs (c.fun (Some x) ps args b) fs) rest h q = line _ _ (statement _ (of_one (codes "func") _ (refl, refl) (named x h.1.0))) (marked fs rest h.2 q)

-- a declared function has a name
declares : (f : c.Tree c.func) (ss : t.Tree t.stmts) → HasName f → Written t.func 0 (rewritten false c.func 0 f) → Body ss → Body (t.more_stmts (t.declare (rewritten false c.func 0 f)) ss)
unfolding rewritten
declares (c.fun None ps args b) ss named p q = absurd named
declares (c.fun (Some x) ps args b) ss named p q = declaration x ps _ ss p q

-- how a rewritten part is spelled, by its kind: wherever the numbers of its temporaries begin, where there are few enough of them with those of its functions
pub record MaybeExpr (m : t.Tree t.maybe_expr) : Type 0 where
  pub optional : Written t.maybe_expr 0 m
  pub initial : Value m

abbrev pub Ok : (s : c.Sort) → c.Tree s → Type 0
Ok c.expr x = (n : ℕ) → n + (temps c.expr x + inner_temps c.expr x) < 18446744073709551616 → Expression (rewritten false c.expr n x)
Ok c.exprs x = (n : ℕ) → n + (temps c.exprs x + inner_temps c.exprs x) < 18446744073709551616 → Expressions (rewritten false c.exprs n x)
Ok c.fields x = (n : ℕ) → n + (temps c.fields x + inner_temps c.fields x) < 18446744073709551616 → Expressions (rewritten false c.fields n x)
Ok c.key x = (n : ℕ) → n + (temps c.key x + inner_temps c.key x) < 18446744073709551616 → Expression (rewritten false c.key n x)
Ok c.maybe_expr x = (n : ℕ) → n + (temps c.maybe_expr x + inner_temps c.maybe_expr x) < 18446744073709551616 → MaybeExpr (rewritten false c.maybe_expr n x)
Ok c.items x = (n : ℕ) → n + (temps c.items x + inner_temps c.items x) < 18446744073709551616 → Listed (rewritten false c.items n x)
Ok c.first x = (n : ℕ) → n + (temps c.first x + inner_temps c.first x) < 18446744073709551616 → First (rewritten false c.first n x)
Ok c.cases x = (n : ℕ) → n + (temps c.cases x + inner_temps c.cases x) < 18446744073709551616 → Written t.cases 0 (rewritten false c.cases n x)
Ok c.stmt x = (m : Bool) (n : ℕ) → n + (temps c.stmt x + inner_temps c.stmt x) < 18446744073709551616 → Written t.stmt 0 (rewritten m c.stmt n x)
Ok c.stmts x = (m : Bool) (n : ℕ) → n + (temps c.stmts x + inner_temps c.stmts x) < 18446744073709551616 → Statements (rewritten m c.stmts n x)
Ok c.func x = inner_temps c.func x < 18446744073709551616 → Written t.func 0 (rewritten false c.func 0 x)
Ok c.funcs x = inner_temps c.funcs x < 18446744073709551616 → (rest : t.Tree t.stmts) → Body rest → Body (joined (rewritten false c.funcs 0 x) rest)
Ok c.body x = (m : Bool) → temps c.body x + inner_temps c.body x < 18446744073709551616 → Body (rewritten m c.body 0 x)
-- what these stand in says how they are spelled
Ok s x = Unit {0}

-- ---- each form

pub null_form : Clean c.expr c.null → Ok c.expr c.null
unfolding rewritten Clean inner_temps
null_form h n lt = null

pub bool_form : (b : Bool) → Clean c.expr (c.bool b) → Ok c.expr (c.bool b)
unfolding rewritten Clean inner_temps
bool_form b h n lt = boolean b

pub num_form : (a : ℤ) → Clean c.expr (c.num a) → Ok c.expr (c.num a)
unfolding rewritten Clean inner_temps
num_form a h n lt = number a h

pub text_form : (us : List ℕ) → Clean c.expr (c.text us) → Ok c.expr (c.text us)
unfolding rewritten Clean inner_temps
text_form us h n lt = literal us h

pub name_form : (x : List ℕ) → Clean c.expr (c.name x) → Ok c.expr (c.name x)
unfolding rewritten Clean inner_temps
name_form x h n lt = named x h

pub array_form : (es : c.Tree c.exprs) → Clean c.expr (c.array es) → Ok c.exprs es → Ok c.expr (c.array es)
unfolding rewritten Clean inner_temps
array_form es h es_ok n lt = of_one (codes "initializeArray") _ (refl, refl) (array _ (es_ok n lt))

pub record_of_form : (fs : c.Tree c.fields) → Clean c.expr (c.record_of fs) → Ok c.fields fs → Ok c.expr (c.record_of fs)
unfolding rewritten Clean inner_temps
record_of_form fs h fs_ok n lt = of_one (codes "initializeMap") _ (refl, refl) (array _ (fs_ok n lt))

pub read_form : (e : c.Tree c.expr) (k : c.Tree c.key) → Clean c.expr (c.read e k) → Ok c.expr e → Ok c.key k → Ok c.expr (c.read e k)
unfolding rewritten Clean inner_temps
read_form e k h e_ok k_ok n lt = read _ _ (e_ok n (omega arith)) (k_ok (n + temps c.expr e) (omega arith))

pub delete_form : (e : c.Tree c.expr) (k : c.Tree c.key) → Clean c.expr (c.delete e k) → Ok c.expr e → Ok c.key k → Ok c.expr (c.delete e k)
unfolding rewritten Clean inner_temps
delete_form e k h e_ok k_ok n lt = of_two (codes "deletePub") _ _ (refl, refl) (e_ok n (omega arith)) (k_ok (n + temps c.expr e) (omega arith))

pub step_variable_form : (up : Bool) (ahead : Bool) (x : List ℕ) → Clean c.expr (c.step up ahead (c.variable x)) → Ok c.expr (c.step up ahead (c.variable x))
unfolding rewritten Clean inner_temps
step_variable_form up ahead x h n lt = form.step up ahead x h

pub step_ahead_fixed_form : (up : Bool) (e : c.Tree c.expr) (k : List ℕ) → Clean c.expr (c.step up true (c.member e (c.fixed k))) → Ok c.expr e → Ok c.expr (c.step up true (c.member e (c.fixed k)))
unfolding rewritten Clean inner_temps
step_ahead_fixed_form up e k h e_ok n lt =
    let object = temporary n (omega arith) in
    let its_key = literal k h.1 in
    after_one n _ _ (omega arith) (e_ok (n + 1) (omega arith)) (write _ _ _ object its_key (more_by_one up _ (number_read _ _ object its_key)))

pub step_ahead_computed_form : (up : Bool) (e : c.Tree c.expr) (f : c.Tree c.expr) → Clean c.expr (c.step up true (c.member e (c.computed f))) → Ok c.expr e → Ok c.expr f → Ok c.expr (c.step up true (c.member e (c.computed f)))
unfolding rewritten Clean inner_temps
step_ahead_computed_form up e f h e_ok f_ok n lt =
    let object = temporary n (omega arith) in
    let its_key = temporary (n + 1) (omega arith) in
    after_two n _ _ _ (omega arith) (e_ok (n + 2) (omega arith)) (key_known _ (f_ok (n + 2 + temps c.expr e) (omega arith)))
    (write _ _ _ object its_key (more_by_one up _ (number_read _ _ object its_key)))

pub step_behind_fixed_form : (up : Bool) (e : c.Tree c.expr) (k : List ℕ) → Clean c.expr (c.step up false (c.member e (c.fixed k))) → Ok c.expr e → Ok c.expr (c.step up false (c.member e (c.fixed k)))
unfolding rewritten Clean inner_temps
step_behind_fixed_form up e k h e_ok n lt =
    let object = temporary n (omega arith) in
    let old = temporary (n + 1) (omega arith) in
    let its_key = literal k h.1 in
    both _ _ (after_two n _ _ _ (omega arith) (e_ok (n + 2) (omega arith)) (number_read _ _ object its_key) (write _ _ _ object its_key (more_by_one up _ old))) old

pub step_behind_computed_form : (up : Bool) (e : c.Tree c.expr) (f : c.Tree c.expr) → Clean c.expr (c.step up false (c.member e (c.computed f))) → Ok c.expr e → Ok c.expr f → Ok c.expr (c.step up false (c.member e (c.computed f)))
unfolding rewritten Clean inner_temps
step_behind_computed_form up e f h e_ok f_ok n lt =
    let object = temporary n (omega arith) in
    let its_key = temporary (n + 1) (omega arith) in
    let old = temporary (n + 2) (omega arith) in
    let known = key_known _ (f_ok (n + 3 + temps c.expr e) (omega arith)) in
    both _ _ (both _ _ (after_two n _ _ _ (omega arith) (e_ok (n + 3) (omega arith)) known (held (n + 2) _ (omega arith) (number_read _ _ object its_key)))
    (write _ _ _ object its_key (more_by_one up _ old))) old

pub assign_variable_form : (x : List ℕ) (e : c.Tree c.expr) → Clean c.expr (c.assign None (c.variable x) e) → Ok c.expr e → Ok c.expr (c.assign None (c.variable x) e)
unfolding rewritten Clean inner_temps
assign_variable_form x e h e_ok n lt = assigned x _ h.1 (e_ok n (omega arith))

pub update_variable_form : (op : BinOp) (x : List ℕ) (e : c.Tree c.expr) → Clean c.expr (c.assign (Some op) (c.variable x) e) → Ok c.expr e → Ok c.expr (c.assign (Some op) (c.variable x) e)
unfolding rewritten Clean inner_temps
update_variable_form op x e h e_ok n lt = join (an_assign (Some op)) _ _ (of_assign op h.0) refl (named x h.1) (e_ok n (omega arith))

pub assign_member_form : (e : c.Tree c.expr) (k : c.Tree c.key) (v : c.Tree c.expr) → Clean c.expr (c.assign None (c.member e k) v) → Ok c.expr e → Ok c.key k → Ok c.expr v → Ok c.expr (c.assign None (c.member e k) v)
unfolding rewritten Clean inner_temps
assign_member_form e k v h e_ok k_ok v_ok n lt = write _ _ _ (e_ok n (omega arith)) (k_ok (n + temps c.expr e) (omega arith)) (v_ok (n + (temps c.expr e + temps c.key k)) (omega arith))

pub update_fixed_form : (op : BinOp) (e : c.Tree c.expr) (k : List ℕ) (v : c.Tree c.expr) → Clean c.expr (c.assign (Some op) (c.member e (c.fixed k)) v) → Ok c.expr e → Ok c.expr v → Ok c.expr (c.assign (Some op) (c.member e (c.fixed k)) v)
unfolding rewritten Clean inner_temps
update_fixed_form op e k v h e_ok v_ok n lt =
    let object = temporary n (omega arith) in
    let its_key = literal k h.1.1 in
    after_one n _ _ (omega arith) (e_ok (n + 1) (omega arith))
    (write _ _ _ object its_key (operation op _ _ (read _ _ object its_key) (v_ok (n + 1 + temps c.expr e) (omega arith))))

pub update_computed_form : (op : BinOp) (e : c.Tree c.expr) (f : c.Tree c.expr) (v : c.Tree c.expr) → Clean c.expr (c.assign (Some op) (c.member e (c.computed f)) v) → Ok c.expr e → Ok c.expr f → Ok c.expr v → Ok c.expr (c.assign (Some op) (c.member e (c.computed f)) v)
unfolding rewritten Clean inner_temps
update_computed_form op e f v h e_ok f_ok v_ok n lt =
    let object = temporary n (omega arith) in
    let its_key = temporary (n + 1) (omega arith) in
    after_two n _ _ _ (omega arith) (e_ok (n + 2) (omega arith)) (key_known _ (f_ok (n + 2 + temps c.expr e) (omega arith)))
    (write _ _ _ object its_key (operation op _ _ (read _ _ object its_key) (v_ok (n + 2 + (temps c.expr e + temps c.expr f)) (omega arith))))

pub unary_form : (op : UnOp) (e : c.Tree c.expr) → Clean c.expr (c.unary op e) → Ok c.expr e → Ok c.expr (c.unary op e)
unfolding rewritten Clean inner_temps
unary_form op e h e_ok n lt = unary op _ (e_ok n lt)

pub and_form : (x : c.Tree c.expr) (y : c.Tree c.expr) → Clean c.expr (c.and x y) → Ok c.expr x → Ok c.expr y → Ok c.expr (c.and x y)
unfolding rewritten Clean inner_temps
and_form x y h x_ok y_ok n lt = join an_and _ _ of_and refl (x_ok n (omega arith)) (y_ok (n + temps c.expr x) (omega arith))

pub or_form : (x : c.Tree c.expr) (y : c.Tree c.expr) → Clean c.expr (c.or x y) → Ok c.expr x → Ok c.expr y → Ok c.expr (c.or x y)
unfolding rewritten Clean inner_temps
or_form x y h x_ok y_ok n lt = join an_or _ _ of_or refl (x_ok n (omega arith)) (y_ok (n + temps c.expr x) (omega arith))

pub choice_form : (x : c.Tree c.expr) (y : c.Tree c.expr) (z : c.Tree c.expr) → Clean c.expr (c.choice x y z) → Ok c.expr x → Ok c.expr y → Ok c.expr z → Ok c.expr (c.choice x y z)
unfolding rewritten Clean inner_temps
choice_form x y z h x_ok y_ok z_ok n lt = choice _ _ _ (x_ok n (omega arith)) (y_ok (n + temps c.expr x) (omega arith)) (z_ok (n + (temps c.expr x + temps c.expr y)) (omega arith))

pub comma_form : (x : c.Tree c.expr) (y : c.Tree c.expr) → Clean c.expr (c.comma x y) → Ok c.expr x → Ok c.expr y → Ok c.expr (c.comma x y)
unfolding rewritten Clean inner_temps
comma_form x y h x_ok y_ok n lt = both _ _ (x_ok n (omega arith)) (y_ok (n + temps c.expr x) (omega arith))

pub args_form : Clean c.expr c.args → Ok c.expr c.args
unfolding rewritten Clean inner_temps
args_form h n lt = named arguments_copy (refl, refl)

pub function_form : (f : c.Tree c.func) → Clean c.expr (c.function f) → Ok c.func f → Ok c.expr (c.function f)
unfolding rewritten Clean inner_temps
function_form f h f_ok n lt = of_one (codes "func") _ (refl, refl) (form.function _ (f_ok (omega arith)))

pub call_form : (e : c.Tree c.expr) (es : c.Tree c.exprs) → Clean c.expr (c.call e es) → Ok c.expr e → Ok c.exprs es → Ok c.expr (c.call e es)
unfolding rewritten Clean inner_temps
call_form e es h e_ok es_ok n lt = call _ _ (of_one (codes "asSimpleFunc") _ (refl, refl) (e_ok n (omega arith))) (es_ok (n + temps c.expr e) (omega arith))

pub method_form : (e : c.Tree c.expr) (k : c.Tree c.key) (es : c.Tree c.exprs) → Clean c.expr (c.method e k es) → Ok c.expr e → Ok c.key k → Ok c.exprs es → Ok c.expr (c.method e k es)
unfolding rewritten Clean inner_temps
method_form e k es h e_ok k_ok es_ok n lt = of_three (codes "callPub") _ _ _ (refl, refl) (e_ok n (omega arith)) (k_ok (n + temps c.expr e) (omega arith)) (array _ (es_ok (n + (temps c.expr e + temps c.key k)) (omega arith)))

pub new_form : (e : c.Tree c.expr) (es : c.Tree c.exprs) → Clean c.expr (c.new e es) → Ok c.expr e → Ok c.exprs es → Ok c.expr (c.new e es)
unfolding rewritten Clean inner_temps
new_form e es h e_ok es_ok n lt = of_two (codes "construct") _ _ (refl, refl) (e_ok n (omega arith)) (array _ (es_ok (n + temps c.expr e) (omega arith)))

pub no_exprs_form : Clean c.exprs c.no_exprs → Ok c.exprs c.no_exprs
unfolding rewritten Clean inner_temps
no_exprs_form h n lt = no_more

pub more_exprs_form : (e : c.Tree c.expr) (es : c.Tree c.exprs) → Clean c.exprs (c.more_exprs e es) → Ok c.expr e → Ok c.exprs es → Ok c.exprs (c.more_exprs e es)
unfolding rewritten Clean inner_temps
more_exprs_form e es h e_ok es_ok n lt = more _ _ (e_ok n (omega arith)) (es_ok (n + temps c.expr e) (omega arith))

pub no_fields_form : Clean c.fields c.no_fields → Ok c.fields c.no_fields
unfolding rewritten Clean inner_temps
no_fields_form h n lt = no_more

pub more_fields_form : (k : List ℕ) (e : c.Tree c.expr) (rest : c.Tree c.fields) → Clean c.fields (c.more_fields k e rest) → Ok c.expr e → Ok c.fields rest → Ok c.fields (c.more_fields k e rest)
unfolding rewritten Clean inner_temps
more_fields_form k e rest h e_ok rest_ok n lt = more _ _ (literal k h.0) (more _ _ (e_ok n (omega arith)) (rest_ok (n + temps c.expr e) (omega arith)))

pub fixed_form : (k : List ℕ) → Clean c.key (c.fixed k) → Ok c.key (c.fixed k)
unfolding rewritten Clean inner_temps
fixed_form k h n lt = literal k h

pub computed_form : (e : c.Tree c.expr) → Clean c.key (c.computed e) → Ok c.expr e → Ok c.key (c.computed e)
unfolding rewritten Clean inner_temps
computed_form e h e_ok n lt = e_ok n lt

pub no_items_form : Clean c.items c.no_items → Ok c.items c.no_items
unfolding rewritten Clean inner_temps
no_items_form h n lt = tt

pub more_items_form : (x : List ℕ) (e : c.Tree c.maybe_expr) (is : c.Tree c.items) → Clean c.items (c.more_items x e is) → Ok c.maybe_expr e → Ok c.items is → Ok c.items (c.more_items x e is)
unfolding rewritten Clean inner_temps
more_items_form x e is h e_ok is_ok n lt = item x (rewritten false c.maybe_expr n e) (rewritten false c.items (n + temps c.maybe_expr e) is) h.0 ((e_ok n (omega arith)).initial) (is_ok (n + temps c.maybe_expr e) (omega arith))

pub no_first_form : Clean c.first c.no_first → Ok c.first c.no_first
unfolding rewritten Clean inner_temps
no_first_form h n lt = no_first

pub first_var_form : (is : c.Tree c.items) → Clean c.first (c.first_var is) → Ok c.items is → Ok c.first (c.first_var is)
unfolding rewritten Clean inner_temps
first_var_form is h is_ok n lt = first_var _ (some_items is h.0 n (is_ok n lt))

pub first_expr_form : (e : c.Tree c.expr) → Clean c.first (c.first_expr e) → Ok c.expr e → Ok c.first (c.first_expr e)
unfolding rewritten Clean inner_temps
first_expr_form e h e_ok n lt = first_expr _ (e_ok n lt)

pub block_form : (xs : c.Tree c.stmts) → Clean c.stmt (c.block xs) → Ok c.stmts xs → Ok c.stmt (c.block xs)
unfolding rewritten Clean inner_temps
block_form xs h xs_ok m n lt = block _ (xs_ok false n lt)

pub var_form : (is : c.Tree c.items) → Clean c.stmt (c.var is) → Ok c.items is → Ok c.stmt (c.var is)
unfolding rewritten Clean inner_temps
var_form is h is_ok m n lt = variables _ (some_items is h.0 n (is_ok n lt))

pub empty_form : Clean c.stmt c.empty → Ok c.stmt c.empty
unfolding rewritten Clean inner_temps
empty_form h m n lt = empty

pub branch_alone_form : (e : c.Tree c.expr) (x : c.Tree c.stmt) → Clean c.stmt (c.branch e x c.no_stmt) → Ok c.expr e → Ok c.stmt x → Ok c.stmt (c.branch e x c.no_stmt)
unfolding rewritten Clean inner_temps
branch_alone_form e x h e_ok x_ok m n lt = branch_alone _ _ (e_ok n (omega arith)) (x_ok false (n + temps c.expr e) (omega arith))

pub branch_else_form : (e : c.Tree c.expr) (x : c.Tree c.stmt) (y : c.Tree c.stmt) → Clean c.stmt (c.branch e x (c.some_stmt y)) → Ok c.expr e → Ok c.stmt x → Ok c.stmt y → Ok c.stmt (c.branch e x (c.some_stmt y))
unfolding rewritten Clean inner_temps
branch_else_form e x y h e_ok x_ok y_ok m n lt =
    branch_else _ (rewritten false c.stmt (n + temps c.expr e) x) _ (still_closed false x (n + temps c.expr e) h.3) (e_ok n (omega arith)) (x_ok false (n + temps c.expr e) (omega arith))
    (y_ok false (n + (temps c.expr e + temps c.stmt x)) (omega arith))

pub while_loop_form : (e : c.Tree c.expr) (x : c.Tree c.stmt) → Clean c.stmt (c.while_loop e x) → Ok c.expr e → Ok c.stmt x → Ok c.stmt (c.while_loop e x)
unfolding rewritten Clean inner_temps
while_loop_form e x h e_ok x_ok m n lt = while_loop _ _ (e_ok n (omega arith)) (x_ok false (n + temps c.expr e) (omega arith))

pub do_loop_form : (x : c.Tree c.stmt) (e : c.Tree c.expr) → Clean c.stmt (c.do_loop x e) → Ok c.stmt x → Ok c.expr e → Ok c.stmt (c.do_loop x e)
unfolding rewritten Clean inner_temps
do_loop_form x e h x_ok e_ok m n lt = do_loop _ _ (x_ok false n (omega arith)) (e_ok (n + temps c.stmt x) (omega arith))

pub for_loop_form : (i : c.Tree c.first) (e : c.Tree c.maybe_expr) (u : c.Tree c.maybe_expr) (x : c.Tree c.stmt) → Clean c.stmt (c.for_loop i e u x) → Ok c.first i → Ok c.maybe_expr e → Ok c.maybe_expr u → Ok c.stmt x → Ok c.stmt (c.for_loop i e u x)
unfolding rewritten Clean inner_temps
for_loop_form i e u x h i_ok e_ok u_ok x_ok m n lt =
    for_loop _ _ _ _ (i_ok n (omega arith)) ((e_ok (n + temps c.first i) (omega arith)).optional) ((u_ok (n + (temps c.first i + temps c.maybe_expr e)) (omega arith)).optional)
    (x_ok false (n + (temps c.first i + (temps c.maybe_expr e + temps c.maybe_expr u))) (omega arith))

pub for_in_variable_form : (x : List ℕ) (e : c.Tree c.expr) (b : c.Tree c.stmt) → Clean c.stmt (c.for_in (c.variable x) e b) → Ok c.expr e → Ok c.stmt b → Ok c.stmt (c.for_in (c.variable x) e b)
unfolding rewritten Clean inner_temps
for_in_variable_form x e b h e_ok b_ok m n lt = over_keys n _ _ _ (omega arith) (e_ok (n + 3) (omega arith)) (statement _ (assigned x _ h.0 (its_key n (omega arith)))) (b_ok false (n + 3 + temps c.expr e) (omega arith))

pub for_in_member_form : (o : c.Tree c.expr) (k : c.Tree c.key) (e : c.Tree c.expr) (b : c.Tree c.stmt) → Clean c.stmt (c.for_in (c.member o k) e b) → Ok c.expr o → Ok c.key k → Ok c.expr e → Ok c.stmt b → Ok c.stmt (c.for_in (c.member o k) e b)
unfolding rewritten Clean inner_temps
for_in_member_form o k e b h o_ok k_ok e_ok b_ok m n lt =
    over_keys n _ _ _ (omega arith) (e_ok (n + 3 + (temps c.expr o + temps c.key k)) (omega arith))
    (statement _ (write _ _ _ (o_ok (n + 3) (omega arith)) (k_ok (n + 3 + temps c.expr o) (omega arith)) (its_key n (omega arith))))
    (b_ok false (n + 3 + (temps c.expr o + (temps c.key k + temps c.expr e))) (omega arith))

pub continue_form : (l : Option (List ℕ)) → Clean c.stmt (c.continue l) → Ok c.stmt (c.continue l)
unfolding rewritten Clean inner_temps
continue_form l h m n lt = continued l h

pub break_form : (l : Option (List ℕ)) → Clean c.stmt (c.break l) → Ok c.stmt (c.break l)
unfolding rewritten Clean inner_temps
break_form l h m n lt = broken l h

pub return_form : (e : c.Tree c.maybe_expr) → Clean c.stmt (c.return e) → Ok c.maybe_expr e → Ok c.stmt (c.return e)
unfolding rewritten Clean inner_temps
return_form e h e_ok m n lt = returned _ ((e_ok n lt).optional)

pub switch_form : (e : c.Tree c.expr) (cs : c.Tree c.cases) → Clean c.stmt (c.switch e cs) → Ok c.expr e → Ok c.cases cs → Ok c.stmt (c.switch e cs)
unfolding rewritten Clean inner_temps
switch_form e cs h e_ok cs_ok m n lt = switch _ (rewritten false c.cases (n + temps c.expr e) cs) (still_one cs (n + temps c.expr e) ∙ h.2) (e_ok n (omega arith)) (cs_ok (n + temps c.expr e) (omega arith))

pub label_form : (l : List ℕ) (x : c.Tree c.stmt) → Clean c.stmt (c.label l x) → Ok c.stmt x → Ok c.stmt (c.label l x)
unfolding rewritten Clean inner_temps
label_form l x h x_ok m n lt = label l _ h.0 (x_ok false n lt)

pub throw_form : (e : c.Tree c.expr) → Clean c.stmt (c.throw e) → Ok c.expr e → Ok c.stmt (c.throw e)
unfolding rewritten Clean inner_temps
throw_form e h e_ok m n lt = thrown _ (e_ok n lt)

pub try_catch_form : (xs : c.Tree c.stmts) (x : List ℕ) (hs : c.Tree c.stmts) → Clean c.stmt (c.try xs (c.some_handler x hs) c.no_block) → Ok c.stmts xs → Ok c.stmts hs → Ok c.stmt (c.try xs (c.some_handler x hs) c.no_block)
unfolding rewritten Clean inner_temps
try_catch_form xs x hs h xs_ok hs_ok m n lt = caught _ x _ h.1.0 (xs_ok false n (omega arith)) (hs_ok false (n + temps c.stmts xs) (omega arith))

pub try_finally_form : (xs : c.Tree c.stmts) (ls : c.Tree c.stmts) → Clean c.stmt (c.try xs c.no_handler (c.some_block ls)) → Ok c.stmts xs → Ok c.stmts ls → Ok c.stmt (c.try xs c.no_handler (c.some_block ls))
unfolding rewritten Clean inner_temps
try_finally_form xs ls h xs_ok ls_ok m n lt = at_last _ _ (xs_ok false n (omega arith)) (ls_ok false (n + (temps c.stmts xs + temps c.handler c.no_handler)) (omega arith))

pub try_both_form : (xs : c.Tree c.stmts) (x : List ℕ) (hs : c.Tree c.stmts) (ls : c.Tree c.stmts) → Clean c.stmt (c.try xs (c.some_handler x hs) (c.some_block ls)) → Ok c.stmts xs → Ok c.stmts hs → Ok c.stmts ls → Ok c.stmt (c.try xs (c.some_handler x hs) (c.some_block ls))
unfolding rewritten Clean inner_temps
try_both_form xs x hs ls h xs_ok hs_ok ls_ok m n lt = caught_at_last _ x _ _ h.1.0 (xs_ok false n (omega arith)) (hs_ok false (n + temps c.stmts xs) (omega arith)) (ls_ok false (n + (temps c.stmts xs + temps c.stmts hs)) (omega arith))

pub no_stmts_form : Clean c.stmts c.no_stmts → Ok c.stmts c.no_stmts
unfolding rewritten Clean inner_temps
no_stmts_form h m n lt = no_stmts

pub more_stmts_form : (x : c.Tree c.stmt) (xs : c.Tree c.stmts) → Clean c.stmts (c.more_stmts x xs) → Ok c.stmt x → Ok c.stmts xs → Ok c.stmts (c.more_stmts x xs)
unfolding rewritten Clean inner_temps
more_stmts_form x xs h x_ok xs_ok m n lt = more_stmts _ _ (x_ok m n (omega arith)) (xs_ok m (n + temps c.stmt x) (omega arith))

pub no_cases_form : Clean c.cases c.no_cases → Ok c.cases c.no_cases
unfolding rewritten Clean inner_temps
no_cases_form h n lt = no_cases

pub default_form : (xs : c.Tree c.stmts) (cs : c.Tree c.cases) → Clean c.cases (c.more_cases c.no_expr xs cs) → Ok c.stmts xs → Ok c.cases cs → Ok c.cases (c.more_cases c.no_expr xs cs)
unfolding rewritten Clean inner_temps
default_form xs cs h xs_ok cs_ok n lt = otherwise _ _ (xs_ok false (n + temps c.maybe_expr c.no_expr) (omega arith)) (cs_ok (n + (temps c.maybe_expr c.no_expr + temps c.stmts xs)) (omega arith))

pub case_form : (e : c.Tree c.expr) (xs : c.Tree c.stmts) (cs : c.Tree c.cases) → Clean c.cases (c.more_cases (c.some_expr e) xs cs) → Ok c.expr e → Ok c.stmts xs → Ok c.cases cs → Ok c.cases (c.more_cases (c.some_expr e) xs cs)
unfolding rewritten Clean inner_temps
case_form e xs cs h e_ok xs_ok cs_ok n lt = case _ _ _ (e_ok n (omega arith)) (xs_ok false (n + temps c.expr e) (omega arith)) (cs_ok (n + (temps c.expr e + temps c.stmts xs)) (omega arith))

pub fun_form : (x : Option (List ℕ)) (ps : List (List ℕ)) (args : Bool) (b : c.Tree c.body) → Clean c.func (c.fun x ps args b) → Ok c.body b → Ok c.func (c.fun x ps args b)
unfolding rewritten Clean inner_temps
fun_form x ps args b h b_ok lt = func x ps _ h.0 h.1 (with_variables (args_items args (head_items b)) (rewritten false c.body 0 b) (args_listed args (head_items b) (head_listed b h.2 (omega arith))) (b_ok false lt).whole)

pub no_funcs_form : Clean c.funcs c.no_funcs → Ok c.funcs c.no_funcs
unfolding rewritten Clean inner_temps
no_funcs_form h lt rest q = q

pub more_funcs_form : (f : c.Tree c.func) (fs : c.Tree c.funcs) → Clean c.funcs (c.more_funcs f fs) → Ok c.func f → Ok c.funcs fs → Ok c.funcs (c.more_funcs f fs)
unfolding rewritten Clean inner_temps
more_funcs_form f fs h f_ok fs_ok lt rest q = declares f (joined (rewritten false c.funcs 0 fs) rest) h.0 (f_ok (omega arith)) (fs_ok (omega arith) rest q)

pub a_body_form : (fs : c.Tree c.funcs) (vars : List (List ℕ)) (xs : c.Tree c.stmts) → Clean c.body (c.a_body fs vars xs) → Ok c.funcs fs → Ok c.stmts xs → Ok c.body (c.a_body fs vars xs)
unfolding rewritten Clean inner_temps
a_body_form fs vars xs h fs_ok xs_ok m lt = fs_ok (omega arith) (marks fs (rewritten m c.stmts 0 xs)) (marked fs (rewritten m c.stmts 0 xs) h.0 (body_of (rewritten m c.stmts 0 xs) (xs_ok m 0 (omega arith))))

pub binary_form : (op : BinOp) (x y : c.Tree c.expr) → Clean c.expr (c.binary op x y) → Ok c.expr x → Ok c.expr y → Ok c.expr (c.binary op x y)
unfolding rewritten Clean inner_temps
binary_form bin.InObject x y h p q n lt = of_two (codes "inPub") _ _ (refl, refl) (p n (omega arith)) (q (n + temps c.expr x) (omega arith))
binary_form bin.InstanceOf x y h p q n lt = of_two (codes "instanceOf") _ _ (refl, refl) (p n (omega arith)) (q (n + temps c.expr x) (omega arith))
binary_form op x y h p q n lt = operation op _ _ (p n (omega arith)) (q (n + temps c.expr x) (omega arith))

pub no_expr_form : Ok c.maybe_expr c.no_expr
unfolding rewritten
no_expr_form n lt = record { optional = no_expr; initial = no_value }

pub some_expr_form : (e : c.Tree c.expr) → Ok c.expr e → Ok c.maybe_expr (c.some_expr e)
unfolding rewritten inner_temps
some_expr_form e p n lt = record { optional = some_expr _ (p n lt); initial = value _ (p n lt) }

-- directly in a module an expression statement is assigned to its result
pub expression_form : (e : c.Tree c.expr) → Ok c.expr e → Ok c.stmt (c.expression e)
unfolding rewritten inner_temps
expression_form e p true n lt = statement _ (assigned result_name _ (refl, refl) (p n lt))
expression_form e p false n lt = statement _ (p n lt)
