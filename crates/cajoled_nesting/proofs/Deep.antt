-- How deep what stands for a part nests, from how deep what stands for its parts does.
use Rattle.std.proofs.Common.{◌≡◌, ℕ, zero, suc, ◌+◌, Bool, true, false, List, [], ◌∷◌, Some, None, refl, sym, ap, ◌∙◌, arith}
use Rattle.std.specs.Prelude.{max}
use Rattle.es3_tree.specs.Tree as t
use Rattle.es3_tree.specs.Measure.{nest}
use Rattle.es3_tree.specs.declared.BinOp.TheVariants as bin
use Rattle.cajita_tree.specs.Tree as c
use Rattle.cajita_rewrite.specs.Rewrite.{of_sort, temps, declared, others, joined, name_items, temp_items, var_stmts, head_items, marks, import_stmts, result_stmts, rewritten}
use Rattle.cajoled_nesting.specs.Nesting.{marked, imported, name_head, temp_head, deep}
use Rattle.cajoled_nesting.proofs.Numbers.{ap2, ap3, ap4, zero_max, max_assoc, single_guard, pair_guard, triple_guard, step_before_fixed, step_before_computed, step_behind_fixed, step_behind_computed, assign_fixed, assign_computed, keys_variable, keys_member, load_depth, module_depth}

-- ---- lists of statements and of variables

joined_depth : (a b : t.Tree t.stmts) → nest t.stmts (joined a b) ≡ max (nest t.stmts a) (nest t.stmts b)
joined_depth t.no_stmts b = sym (zero_max (nest t.stmts b))
joined_depth (t.more_stmts x a) b = ap (max (nest t.stmt x)) (joined_depth a b) ∙ max_assoc (nest t.stmt x) (nest t.stmts a) (nest t.stmts b)

marks_depth : (fs : c.Tree c.funcs) (rest : t.Tree t.stmts) → nest t.stmts (marks fs rest) ≡ max (marked fs) (nest t.stmts rest)
marks_depth c.no_funcs rest = sym (zero_max (nest t.stmts rest))
marks_depth (c.more_funcs (c.fun None params args body) fs) rest = marks_depth fs rest
marks_depth (c.more_funcs (c.fun (Some x) params args body) fs) rest = ap (max 4) (marks_depth fs rest) ∙ max_assoc 4 (marked fs) (nest t.stmts rest)

imports_depth : (xs : List (List ℕ)) (rest : t.Tree t.stmts) → nest t.stmts (import_stmts xs rest) ≡ max (imported xs) (nest t.stmts rest)
imports_depth [] rest = sym (zero_max (nest t.stmts rest))
imports_depth (x ∷ xs) rest = ap (max 4) (imports_depth xs rest) ∙ max_assoc 4 (imported xs) (nest t.stmts rest)

name_depth : (xs : List (List ℕ)) → nest t.items (name_items xs t.no_items) ≡ 0
name_depth [] = refl
name_depth (x ∷ xs) = zero_max (nest t.items (name_items xs t.no_items)) ∙ name_depth xs

temp_depth : (i n : ℕ) (is : t.Tree t.items) → nest t.items (temp_items i n is) ≡ nest t.items is
temp_depth i zero is = refl
temp_depth i (suc n) is = zero_max (nest t.items (temp_items (suc i) n is)) ∙ temp_depth (suc i) n is

items_depth : (n : ℕ) (xs : List (List ℕ)) → nest t.items (temp_items 0 n (name_items xs t.no_items)) ≡ 0
items_depth n xs = temp_depth 0 n (name_items xs t.no_items) ∙ name_depth xs

head_depth : (n : ℕ) (xs : List (List ℕ)) (rest : t.Tree t.stmts) → nest t.stmts (var_stmts (temp_items 0 n (name_items xs t.no_items)) rest) ≡ max (temp_head n (name_head xs)) (nest t.stmts rest)
head_depth zero [] rest = sym (zero_max (nest t.stmts rest))
head_depth zero (x ∷ xs) rest = ap (λ k. max (1 + max 0 k) (nest t.stmts rest)) (name_depth xs)
head_depth (suc n) xs rest = ap (λ k. max (1 + max 0 k) (nest t.stmts rest)) (temp_depth 1 n (name_items xs t.no_items) ∙ name_depth xs)

-- ---- each form

pub deep_is : (m : Bool) (s : c.Sort) (n : ℕ) (x : c.Tree s) → nest (of_sort s) (rewritten m s n x) ≡ deep m s x
unfolding rewritten deep
deep_is m _ n c.null = refl
deep_is m _ n (c.bool b) = refl
deep_is m _ n (c.num a) = refl
deep_is m _ n (c.text u) = refl
deep_is m _ n (c.name x) = refl
deep_is m _ n c.args = refl
deep_is m _ n (c.array es) = ap (λ a. 1 + max 2 (max (1 + a) 0)) (deep_is false c.exprs n es) ∙ single_guard (1 + deep false c.exprs es)
deep_is m _ n (c.record_of fs) = ap (λ a. 1 + max 2 (max (1 + a) 0)) (deep_is false c.fields n fs) ∙ single_guard (1 + deep false c.fields fs)
deep_is m _ n (c.function f) = ap (λ a. 1 + max 2 (max (1 + a) 0)) (deep_is false c.func 0 f) ∙ single_guard (1 + deep false c.func f)
deep_is m _ n (c.read e k) = ap2 (λ a b. 1 + max 2 (max a (max b 0))) (deep_is false c.expr n e) (deep_is false c.key (n + temps c.expr e) k) ∙ pair_guard (deep false c.expr e) (deep false c.key k)
deep_is m _ n (c.call e es) = ap2 (λ a b. 1 + max a b) (ap (λ a. 1 + max 2 (max a 0)) (deep_is false c.expr n e) ∙ single_guard (deep false c.expr e)) (deep_is false c.exprs (n + temps c.expr e) es)
deep_is m _ n (c.method e k es) =
    ap3 (λ a b d. 1 + max 2 (max a (max b (max (1 + d) 0)))) (deep_is false c.expr n e) (deep_is false c.key (n + temps c.expr e) k) (deep_is false c.exprs (n + (temps c.expr e + temps c.key k)) es)
    ∙ triple_guard (deep false c.expr e) (deep false c.key k) (1 + deep false c.exprs es)
deep_is m _ n (c.new e es) = ap2 (λ a b. 1 + max 2 (max a (max (1 + b) 0))) (deep_is false c.expr n e) (deep_is false c.exprs (n + temps c.expr e) es) ∙ pair_guard (deep false c.expr e) (1 + deep false c.exprs es)
deep_is m _ n (c.delete e k) = ap2 (λ a b. 1 + max 2 (max a (max b 0))) (deep_is false c.expr n e) (deep_is false c.key (n + temps c.expr e) k) ∙ pair_guard (deep false c.expr e) (deep false c.key k)
deep_is m _ n (c.step up before (c.variable x)) = refl
deep_is m _ n (c.step up true (c.member e (c.fixed k))) = ap (λ a. 1 + max (1 + max 1 a) 6) (deep_is false c.expr (n + 1) e) ∙ step_before_fixed (deep false c.expr e)
deep_is m _ n (c.step up true (c.member e (c.computed f))) =
    ap2 (λ a b. 1 + max (1 + max (1 + max 1 a) (1 + max 1 (1 + max 2 (max b 0)))) 6) (deep_is false c.expr (n + 2) e) (deep_is false c.expr (n + 2 + temps c.expr e) f) ∙ step_before_computed (deep false c.expr e) (deep false c.expr f)
deep_is m _ n (c.step up false (c.member e (c.fixed k))) = ap (λ a. 1 + max (1 + max (1 + max (1 + max 1 a) 5) 3) 1) (deep_is false c.expr (n + 2) e) ∙ step_behind_fixed (deep false c.expr e)
deep_is m _ n (c.step up false (c.member e (c.computed f))) =
    ap2 (λ a b. 1 + max (1 + max (1 + max (1 + max (1 + max 1 a) (1 + max 1 (1 + max 2 (max b 0)))) 5) 3) 1) (deep_is false c.expr (n + 3) e) (deep_is false c.expr (n + 3 + temps c.expr e) f)
    ∙ step_behind_computed (deep false c.expr e) (deep false c.expr f)
deep_is m _ n (c.assign None (c.variable x) e) = ap (λ a. 1 + max 1 a) (deep_is false c.expr n e)
deep_is m _ n (c.assign (Some op) (c.variable x) e) = ap (λ a. 1 + max 1 a) (deep_is false c.expr n e)
deep_is m _ n (c.assign None (c.member e k) v) =
    ap3 (λ a b d. 1 + max 2 (max a (max b (max d 0)))) (deep_is false c.expr n e) (deep_is false c.key (n + temps c.expr e) k) (deep_is false c.expr (n + (temps c.expr e + temps c.key k)) v)
    ∙ triple_guard (deep false c.expr e) (deep false c.key k) (deep false c.expr v)
deep_is m _ n (c.assign (Some op) (c.member e (c.fixed k)) v) =
    ap2 (λ a b. 1 + max (1 + max 1 a) (1 + max 2 (max 1 (max 1 (max (1 + max 3 b) 0))))) (deep_is false c.expr (n + 1) e) (deep_is false c.expr (n + 1 + temps c.expr e) v) ∙ assign_fixed (deep false c.expr e) (deep false c.expr v)
deep_is m _ n (c.assign (Some op) (c.member e (c.computed f)) v) =
    ap3 (λ a b d. 1 + max (1 + max (1 + max 1 a) (1 + max 1 (1 + max 2 (max b 0)))) (1 + max 2 (max 1 (max 1 (max (1 + max 3 d) 0)))))
    (deep_is false c.expr (n + 2) e) (deep_is false c.expr (n + 2 + temps c.expr e) f) (deep_is false c.expr (n + 2 + (temps c.expr e + temps c.expr f)) v)
    ∙ assign_computed (deep false c.expr e) (deep false c.expr f) (deep false c.expr v)
deep_is m _ n (c.unary op e) = ap (λ a. 1 + a) (deep_is false c.expr n e)
deep_is m _ n (c.binary bin.InObject x y) = ap2 (λ a b. 1 + max 2 (max a (max b 0))) (deep_is false c.expr n x) (deep_is false c.expr (n + temps c.expr x) y) ∙ pair_guard (deep false c.expr x) (deep false c.expr y)
deep_is m _ n (c.binary bin.InstanceOf x y) = ap2 (λ a b. 1 + max 2 (max a (max b 0))) (deep_is false c.expr n x) (deep_is false c.expr (n + temps c.expr x) y) ∙ pair_guard (deep false c.expr x) (deep false c.expr y)
deep_is m _ n (c.binary op x y) = ap2 (λ a b. 1 + max a b) (deep_is false c.expr n x) (deep_is false c.expr (n + temps c.expr x) y)
deep_is m _ n (c.and x y) = ap2 (λ a b. 1 + max a b) (deep_is false c.expr n x) (deep_is false c.expr (n + temps c.expr x) y)
deep_is m _ n (c.or x y) = ap2 (λ a b. 1 + max a b) (deep_is false c.expr n x) (deep_is false c.expr (n + temps c.expr x) y)
deep_is m _ n (c.choice x y z) = ap3 (λ a b d. 1 + max a (max b d)) (deep_is false c.expr n x) (deep_is false c.expr (n + temps c.expr x) y) (deep_is false c.expr (n + (temps c.expr x + temps c.expr y)) z)
deep_is m _ n (c.comma x y) = ap2 (λ a b. 1 + max a b) (deep_is false c.expr n x) (deep_is false c.expr (n + temps c.expr x) y)
deep_is m _ n c.no_exprs = refl
deep_is m _ n (c.more_exprs e es) = ap2 max (deep_is false c.expr n e) (deep_is false c.exprs (n + temps c.expr e) es)
deep_is m _ n c.no_fields = refl
deep_is m _ n (c.more_fields k e rest) = ap2 (λ a b. max 1 (max a b)) (deep_is false c.expr n e) (deep_is false c.fields (n + temps c.expr e) rest)
deep_is m _ n (c.fixed k) = refl
deep_is m _ n (c.computed e) = deep_is false c.expr n e
deep_is m _ n (c.variable x) = refl
deep_is m _ n (c.member e k) = refl
deep_is m _ n c.no_expr = refl
deep_is m _ n (c.some_expr e) = deep_is false c.expr n e
deep_is m _ n (c.block xs) = ap (λ a. 1 + a) (deep_is false c.stmts n xs)
deep_is m _ n (c.var is) = ap (λ a. 1 + a) (deep_is false c.items n is)
deep_is m _ n c.empty = refl
deep_is true _ n (c.expression e) = ap (λ a. 1 + (1 + max 1 a)) (deep_is false c.expr n e) ∙ twice (max 1 (deep false c.expr e))
  where
    twice : (k : ℕ) → 1 + (1 + k) ≡ 2 + k
    twice k = omega arith
deep_is false _ n (c.expression e) = ap (λ a. 1 + a) (deep_is false c.expr n e)
deep_is m _ n (c.branch e x y) = ap3 (λ a b d. 1 + max a (max b d)) (deep_is false c.expr n e) (deep_is false c.stmt (n + temps c.expr e) x) (deep_is false c.maybe_stmt (n + (temps c.expr e + temps c.stmt x)) y)
deep_is m _ n (c.while_loop e x) = ap2 (λ a b. 1 + max a b) (deep_is false c.expr n e) (deep_is false c.stmt (n + temps c.expr e) x)
deep_is m _ n (c.do_loop x e) = ap2 (λ a b. 1 + max a b) (deep_is false c.stmt n x) (deep_is false c.expr (n + temps c.stmt x) e)
deep_is m _ n (c.for_loop i e u x) =
    ap4 (λ a b d g. 1 + max a (max b (max d g))) (deep_is false c.first n i) (deep_is false c.maybe_expr (n + temps c.first i) e) (deep_is false c.maybe_expr (n + (temps c.first i + temps c.maybe_expr e)) u)
    (deep_is false c.stmt (n + (temps c.first i + (temps c.maybe_expr e + temps c.maybe_expr u))) x)
deep_is m _ n (c.for_in (c.variable x) e b) =
    ap2 (λ a d. 1 + max (1 + max (1 + max (1 + max 1 a) 4) 2) (max 3 (max 2 (1 + max (1 + max 3 (max (1 + max 4 (max d 0)) 0)) 0)))) (deep_is false c.expr (n + 3) e) (deep_is false c.stmt (n + 3 + temps c.expr e) b)
    ∙ keys_variable (deep false c.expr e) (deep false c.stmt b)
deep_is m _ n (c.for_in (c.member o k) e b) =
    ap4 (λ x y a d. 1 + max (1 + max (1 + max (1 + max 1 a) 4) 2) (max 3 (max 2 (1 + max (1 + max 3 (max (1 + max (1 + (1 + max 2 (max x (max y 2)))) (max d 0)) 0)) 0))))
    (deep_is false c.expr (n + 3) o) (deep_is false c.key (n + 3 + temps c.expr o) k) (deep_is false c.expr (n + 3 + (temps c.expr o + temps c.key k)) e) (deep_is false c.stmt (n + 3 + (temps c.expr o + (temps c.key k + temps c.expr e))) b)
    ∙ keys_member (deep false c.expr o) (deep false c.key k) (deep false c.expr e) (deep false c.stmt b)
deep_is m _ n (c.continue l) = refl
deep_is m _ n (c.break l) = refl
deep_is m _ n (c.return e) = ap (λ a. 1 + a) (deep_is false c.maybe_expr n e)
deep_is m _ n (c.switch e cs) = ap2 (λ a b. 1 + max a b) (deep_is false c.expr n e) (deep_is false c.cases (n + temps c.expr e) cs)
deep_is m _ n (c.label l x) = ap (λ a. 1 + a) (deep_is false c.stmt n x)
deep_is m _ n (c.throw e) = ap (λ a. 1 + a) (deep_is false c.expr n e)
deep_is m _ n (c.try xs h f) = ap3 (λ a b d. 1 + max a (max b d)) (deep_is false c.stmts n xs) (deep_is false c.handler (n + temps c.stmts xs) h) (deep_is false c.maybe_block (n + (temps c.stmts xs + temps c.handler h)) f)
deep_is m _ n c.no_stmts = refl
deep_is m _ n (c.more_stmts x xs) = ap2 max (deep_is m c.stmt n x) (deep_is m c.stmts (n + temps c.stmt x) xs)
deep_is m _ n c.no_items = refl
deep_is m _ n (c.more_items x e is) = ap2 max (deep_is false c.maybe_expr n e) (deep_is false c.items (n + temps c.maybe_expr e) is)
deep_is m _ n c.no_stmt = refl
deep_is m _ n (c.some_stmt x) = deep_is false c.stmt n x
deep_is m _ n c.no_block = refl
deep_is m _ n (c.some_block xs) = deep_is false c.stmts n xs
deep_is m _ n c.no_first = refl
deep_is m _ n (c.first_var is) = deep_is false c.items n is
deep_is m _ n (c.first_expr e) = deep_is false c.expr n e
deep_is m _ n c.no_cases = refl
deep_is m _ n (c.more_cases e xs cs) = ap3 (λ a b d. max a (max b d)) (deep_is false c.maybe_expr n e) (deep_is false c.stmts (n + temps c.maybe_expr e) xs) (deep_is false c.cases (n + (temps c.maybe_expr e + temps c.stmts xs)) cs)
deep_is m _ n c.no_handler = refl
deep_is m _ n (c.some_handler x xs) = deep_is false c.stmts n xs
deep_is m _ n (c.fun name params true (c.a_body fs vars xs)) =
    ap2 (λ a b. 1 + max (1 + max 3 a) b) (items_depth (temps c.stmts xs) (others vars (declared c.stmts xs))) (deep_is false c.body 0 (c.a_body fs vars xs))
deep_is m _ n (c.fun name params false (c.a_body fs vars xs)) =
    ap (λ a. 1 + a) (head_depth (temps c.stmts xs) (others vars (declared c.stmts xs)) (rewritten false c.body 0 (c.a_body fs vars xs)))
    ∙ ap (λ a. 1 + max (temp_head (temps c.stmts xs) (name_head (others vars (declared c.stmts xs)))) a) (deep_is false c.body 0 (c.a_body fs vars xs))
deep_is m _ n c.no_funcs = refl
deep_is m _ n (c.more_funcs f fs) = ap2 (λ a b. max (1 + a) b) (deep_is false c.func 0 f) (deep_is false c.funcs 0 fs)
deep_is m _ n (c.a_body fs vars xs) =
    joined_depth (rewritten false c.funcs 0 fs) (marks fs (rewritten m c.stmts 0 xs))
    ∙ ap2 max (deep_is false c.funcs 0 fs) (marks_depth fs (rewritten m c.stmts 0 xs) ∙ ap (max (marked fs)) (deep_is m c.stmts 0 xs))
deep_is m _ n (c.a_module imports (c.a_body fs vars xs)) =
    load_depth (max (1 + max 0 (nest t.items (head_items (c.a_body fs vars xs)))) (nest t.stmts (import_stmts imports (joined (rewritten true c.body 0 (c.a_body fs vars xs)) result_stmts))))
    ∙ ap (λ a. 4 + a)
    (ap2 (λ a b. max (1 + max 0 a) b) (items_depth (temps c.stmts xs) (others vars (declared c.stmts xs)))
    (imports_depth imports (joined (rewritten true c.body 0 (c.a_body fs vars xs)) result_stmts)
    ∙ ap (max (imported imports)) (joined_depth (rewritten true c.body 0 (c.a_body fs vars xs)) result_stmts ∙ ap (λ a. max a 2) (deep_is true c.body 0 (c.a_body fs vars xs))))
    ∙ module_depth (imported imports) (deep true c.body (c.a_body fs vars xs)))
