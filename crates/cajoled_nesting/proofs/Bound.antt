-- What stands for a part nests at most four times as deep as the part, and four more.
use Rattle.std.proofs.Common.{ℕ, zero, suc, ◌+◌, ◌*◌, ◌≤◌, Bool, true, false, List, [], ◌∷◌, Some, None, arith}
use Rattle.std.specs.Prelude.{max}
use Rattle.es3_tree.specs.declared.BinOp.TheVariants as bin
use Rattle.es3_tree.specs.Tree as t
use Rattle.es3_tree.specs.Measure.{nest}
use Rattle.cajita_tree.specs.Tree as c
use Rattle.cajita_rewrite.specs.Rewrite.{temps, declared, others, program_of}
use Rattle.cajoled_nesting.specs.Nesting.{guard, marked, imported, name_head, temp_head, head, deep, depth}
use Rattle.cajoled_nesting.proofs.Deep.{deep_is}

-- ---- numbers: so deep is what stands for what nests n deep

pub record In (a n : ℕ) : Type 0 where
  pub holds : a ≤ 4 * n + 4

in_one : (a n : ℕ) → In a n → In (1 + a) (1 + n)
in_one a n h = record { holds = omega arith }

in_max : (a b n k : ℕ) → In a n → In b k → In (max a b) (max n k)
in_max a b n k h i = record { holds = omega arith }

in_guard : (a n : ℕ) → In a n → In (guard a) (1 + n)
in_guard a n h = record { holds = omega arith }

in_list_guard : (a n : ℕ) → In a n → In (guard (1 + a)) (1 + n)
in_list_guard a n h = record { holds = omega arith }

in_two : (a b n k : ℕ) → In a n → In b k → In (1 + max a b) (1 + max n k)
in_two a b n k h i = in_one (max a b) (max n k) (in_max a b n k h i)

in_three : (a b d n k l : ℕ) → In a n → In b k → In d l → In (1 + max a (max b d)) (1 + max n (max k l))
in_three a b d n k l h i j = in_two a (max b d) n (max k l) h (in_max b d k l i j)

in_call : (a b n k : ℕ) → In a n → In b k → In (1 + max (guard a) b) (1 + max n k)
in_call a b n k h i = record { holds = omega arith }

in_method : (a b d n k l : ℕ) → In a n → In b k → In d l → In (guard (max a (max b (1 + d)))) (1 + max (1 + max n k) l)
in_method a b d n k l h i j = record { holds = omega arith }

in_new : (a b n k : ℕ) → In a n → In b k → In (guard (max a (1 + b))) (1 + max n k)
in_new a b n k h i = record { holds = omega arith }

in_delete : (a b n k : ℕ) → In a n → In b k → In (guard (max a b)) (2 + max n k)
in_delete a b n k h i = record { holds = omega arith }

in_step_before : (a n k : ℕ) → In a n → In (max 7 (2 + a)) (1 + (1 + max n k))
in_step_before a n k h = record { holds = omega arith }

in_step_before_computed : (a b n k : ℕ) → In a n → In b k → In (max 7 (max (3 + a) (4 + b))) (1 + (1 + max n k))
in_step_before_computed a b n k h i = record { holds = omega arith }

in_step_behind : (a n k : ℕ) → In a n → In (max 8 (4 + a)) (1 + (1 + max n k))
in_step_behind a n k h = record { holds = omega arith }

in_step_behind_computed : (a b n k : ℕ) → In a n → In b k → In (max 8 (max (5 + a) (6 + b))) (1 + (1 + max n k))
in_step_behind_computed a b n k h i = record { holds = omega arith }

in_assign_variable : (a n : ℕ) → In a n → In (1 + max 1 a) (1 + max 0 n)
in_assign_variable a n h = record { holds = omega arith }

in_assign : (a b d n k l : ℕ) → In a n → In b k → In d l → In (guard (max a (max b d))) (1 + max (1 + max n k) l)
in_assign a b d n k l h i j = record { holds = omega arith }

in_assign_fixed : (a d n k l : ℕ) → In a n → In d l → In (max 6 (max (2 + a) (3 + d))) (1 + max (1 + max n k) l)
in_assign_fixed a d n k l h j = record { holds = omega arith }

in_assign_computed : (a b d n k l : ℕ) → In a n → In b k → In d l → In (max 6 (max (3 + a) (max (4 + b) (3 + d)))) (1 + max (1 + max n k) l)
in_assign_computed a b d n k l h i j = record { holds = omega arith }

in_field : (a b n k : ℕ) → In a n → In b k → In (max 1 (max a b)) (max n k)
in_field a b n k h i = record { holds = omega arith }

in_result : (a n : ℕ) → In a n → In (2 + max 1 a) (1 + n)
in_result a n h = record { holds = omega arith }

in_keys : (a b n k : ℕ) → In a n → In b k → In (max 8 (max (4 + a) (4 + b))) (1 + max 0 (max n k))
in_keys a b n k h i = record { holds = omega arith }

in_keys_member : (x y a b i j n k : ℕ) → In x i → In y j → In a n → In b k → In (max 8 (max (4 + a) (max (4 + b) (6 + max x y)))) (1 + max (1 + max i j) (max n k))
in_keys_member x y a b i j n k f g h l = record { holds = omega arith }

in_function : (e a n : ℕ) → e ≤ 4 → In a n → In (1 + max e a) (1 + n)
in_function e a n h i = record { holds = omega arith }

in_body : (a e b n k : ℕ) → In a n → e ≤ 4 → In b k → In (max a (max e b)) (max n k)
in_body a e b n k h i j = record { holds = omega arith }

marked_few : (fs : c.Tree c.funcs) → marked fs ≤ 4
marked_few c.no_funcs = omega arith
marked_few (c.more_funcs (c.fun None params args body) fs) = marked_few fs
marked_few (c.more_funcs (c.fun (Some x) params args body) fs) = let h = marked_few fs in omega arith

pub imported_few : (xs : List (List ℕ)) → imported xs ≤ 4
imported_few [] = omega arith
imported_few (x ∷ xs) = let h = imported_few xs in omega arith

temp_few : (n : ℕ) (xs : List (List ℕ)) → temp_head n (name_head xs) ≤ 4
temp_few zero [] = omega arith
temp_few zero (x ∷ xs) = omega arith
temp_few (suc n) xs = omega arith

head_few : (args : Bool) (body : c.Tree c.body) → head args body ≤ 4
head_few true body = omega arith
head_few false (c.a_body fs vars xs) = temp_few (temps c.stmts xs) (others vars (declared c.stmts xs))

in_step_variable : In 2 1
in_step_variable = record { holds = omega arith }

in_module : (i a n : ℕ) → i ≤ 4 → In a n → 4 + max 2 (max i a) ≤ 4 * n + 8
in_module i a n h k = omega arith

leaf : (n : ℕ) → In 1 n
leaf n = record { holds = omega arith }

none : (n : ℕ) → In 0 n
none n = record { holds = omega arith }

-- ---- each form

-- a module has what loads it besides
abbrev Within : Bool → (s : c.Sort) → c.Tree s → Type 0
Within m c.program x = deep m c.program x ≤ 4 * depth c.program x + 8
Within m s x = In (deep m s x) (depth s x)

pub within : (m : Bool) (s : c.Sort) (x : c.Tree s) → Within m s x
unfolding deep depth
within m _ c.null = leaf 1
within m _ (c.bool b) = leaf 1
within m _ (c.num n) = leaf 1
within m _ (c.text u) = leaf 1
within m _ (c.name x) = leaf 1
within m _ c.args = leaf 1
within m _ (c.array es) = in_list_guard _ _ (within false c.exprs es)
within m _ (c.record_of fs) = in_list_guard _ _ (within false c.fields fs)
within m _ (c.function f) = in_list_guard _ _ (within false c.func f)
within m _ (c.read e k) = in_guard _ _ (in_max _ _ _ _ (within false c.expr e) (within false c.key k))
within m _ (c.call e es) = in_call _ _ _ _ (within false c.expr e) (within false c.exprs es)
within m _ (c.method e k es) = in_method _ _ _ _ _ _ (within false c.expr e) (within false c.key k) (within false c.exprs es)
within m _ (c.new e es) = in_new _ _ _ _ (within false c.expr e) (within false c.exprs es)
within m _ (c.delete e k) = in_delete _ _ _ _ (within false c.expr e) (within false c.key k)
within m _ (c.step up before (c.variable x)) = in_step_variable
within m _ (c.step up true (c.member e (c.fixed k))) = in_step_before _ _ _ (within false c.expr e)
within m _ (c.step up true (c.member e (c.computed f))) = in_step_before_computed _ _ _ _ (within false c.expr e) (within false c.expr f)
within m _ (c.step up false (c.member e (c.fixed k))) = in_step_behind _ _ _ (within false c.expr e)
within m _ (c.step up false (c.member e (c.computed f))) = in_step_behind_computed _ _ _ _ (within false c.expr e) (within false c.expr f)
within m _ (c.assign None (c.variable x) e) = in_assign_variable _ _ (within false c.expr e)
within m _ (c.assign (Some op) (c.variable x) e) = in_assign_variable _ _ (within false c.expr e)
within m _ (c.assign None (c.member e k) v) = in_assign _ _ _ _ _ _ (within false c.expr e) (within false c.key k) (within false c.expr v)
within m _ (c.assign (Some op) (c.member e (c.fixed k)) v) = in_assign_fixed _ _ _ _ _ (within false c.expr e) (within false c.expr v)
within m _ (c.assign (Some op) (c.member e (c.computed f)) v) = in_assign_computed _ _ _ _ _ _ (within false c.expr e) (within false c.expr f) (within false c.expr v)
within m _ (c.unary op e) = in_one _ _ (within false c.expr e)
within m _ (c.binary bin.InObject x y) = in_guard _ _ (in_max _ _ _ _ (within false c.expr x) (within false c.expr y))
within m _ (c.binary bin.InstanceOf x y) = in_guard _ _ (in_max _ _ _ _ (within false c.expr x) (within false c.expr y))
within m _ (c.binary op x y) = in_two _ _ _ _ (within false c.expr x) (within false c.expr y)
within m _ (c.and x y) = in_two _ _ _ _ (within false c.expr x) (within false c.expr y)
within m _ (c.or x y) = in_two _ _ _ _ (within false c.expr x) (within false c.expr y)
within m _ (c.choice x y z) = in_three _ _ _ _ _ _ (within false c.expr x) (within false c.expr y) (within false c.expr z)
within m _ (c.comma x y) = in_two _ _ _ _ (within false c.expr x) (within false c.expr y)
within m _ c.no_exprs = none 0
within m _ (c.more_exprs e es) = in_max _ _ _ _ (within false c.expr e) (within false c.exprs es)
within m _ c.no_fields = none 0
within m _ (c.more_fields k e rest) = in_field _ _ _ _ (within false c.expr e) (within false c.fields rest)
within m _ (c.fixed k) = leaf 0
within m _ (c.computed e) = within false c.expr e
within m _ (c.variable x) = leaf 0
within m _ (c.member e k) = leaf (1 + max (depth c.expr e) (depth c.key k))
within m _ c.no_expr = none 0
within m _ (c.some_expr e) = within false c.expr e
within m _ (c.block xs) = in_one _ _ (within false c.stmts xs)
within m _ (c.var is) = in_one _ _ (within false c.items is)
within m _ c.empty = leaf 1
within true _ (c.expression e) = in_result _ _ (within false c.expr e)
within false _ (c.expression e) = in_one _ _ (within false c.expr e)
within m _ (c.branch e x y) = in_three _ _ _ _ _ _ (within false c.expr e) (within false c.stmt x) (within false c.maybe_stmt y)
within m _ (c.while_loop e x) = in_two _ _ _ _ (within false c.expr e) (within false c.stmt x)
within m _ (c.do_loop x e) = in_two _ _ _ _ (within false c.stmt x) (within false c.expr e)
within m _ (c.for_loop i e u x) = in_three _ _ _ _ _ _ (within false c.first i) (within false c.maybe_expr e) (in_max _ _ _ _ (within false c.maybe_expr u) (within false c.stmt x))
within m _ (c.for_in (c.variable x) e b) = in_keys _ _ _ _ (within false c.expr e) (within false c.stmt b)
within m _ (c.for_in (c.member o k) e b) = in_keys_member _ _ _ _ _ _ _ _ (within false c.expr o) (within false c.key k) (within false c.expr e) (within false c.stmt b)
within m _ (c.continue l) = leaf 1
within m _ (c.break l) = leaf 1
within m _ (c.return e) = in_one _ _ (within false c.maybe_expr e)
within m _ (c.switch e cs) = in_two _ _ _ _ (within false c.expr e) (within false c.cases cs)
within m _ (c.label l x) = in_one _ _ (within false c.stmt x)
within m _ (c.throw e) = in_one _ _ (within false c.expr e)
within m _ (c.try xs h f) = in_three _ _ _ _ _ _ (within false c.stmts xs) (within false c.handler h) (within false c.maybe_block f)
within m _ c.no_stmts = none 0
within m _ (c.more_stmts x xs) = in_max _ _ _ _ (within m c.stmt x) (within m c.stmts xs)
within m _ c.no_items = none 0
within m _ (c.more_items x e is) = in_max _ _ _ _ (within false c.maybe_expr e) (within false c.items is)
within m _ c.no_stmt = none 0
within m _ (c.some_stmt x) = within false c.stmt x
within m _ c.no_block = none 0
within m _ (c.some_block xs) = within false c.stmts xs
within m _ c.no_first = none 0
within m _ (c.first_var is) = within false c.items is
within m _ (c.first_expr e) = within false c.expr e
within m _ c.no_cases = none 0
within m _ (c.more_cases e xs cs) = in_max _ _ _ _ (within false c.maybe_expr e) (in_max _ _ _ _ (within false c.stmts xs) (within false c.cases cs))
within m _ c.no_handler = none 0
within m _ (c.some_handler x xs) = within false c.stmts xs
within m _ (c.fun name params args body) = in_function _ _ _ (head_few args body) (within false c.body body)
within m _ c.no_funcs = none 0
within m _ (c.more_funcs f fs) = in_max _ _ _ _ (in_one _ _ (within false c.func f)) (within false c.funcs fs)
within m _ (c.a_body fs vars xs) = in_body _ _ _ _ _ (within false c.funcs fs) (marked_few fs) (within m c.stmts xs)
within m _ (c.a_module imports body) = in_module _ _ _ (imported_few imports) (within true c.body body)

pub module_within : (m : c.Tree c.program) → nest t.program (program_of m) ≤ 4 * depth c.program m + 8
module_within m = let e = deep_is false c.program 0 m in let h : deep false c.program m ≤ 4 * depth c.program m + 8 = within false c.program m in omega (arith, e, h)
