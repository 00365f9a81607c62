-- How deep each form is that is the same in Cajita, from how deep its parts are.
use Rattle.std.proofs.Common.{ℕ, ◌+◌, ◌≤◌, Bool, true, false, List, Option, Some, None, cond, arith}
use Rattle.std.specs.Prelude.{ℤ, max}
use Rattle.es3_tree.specs.Tree as t
use Rattle.es3_tree.specs.Placed as p
use Rattle.es3_tree.specs.Placed.{Placed, Word}
use Rattle.es3_tree.specs.declared.UnOp.{UnOp}
use Rattle.es3_tree.specs.declared.UnOp.TheVariants.{Delete}
use Rattle.es3_tree.specs.declared.BinOp.{BinOp}
use Rattle.es3_tree.specs.declared.BinOp.TheVariants.{InObject, InstanceOf}
use Rattle.cajita_tree.specs.Tree as c
use Rattle.cajita_tree.specs.Parts.{called, target_of}
use Rattle.cajita_names.specs.Scope.{is_arguments}
use Rattle.cajita_forms.specs.Options.{one, from, both}
use Rattle.cajita_forms.specs.Forms.{name_or_arguments, unary_of}
use Rattle.scope_rules.specs.Resolve.{resolved}
use Rattle.cajoled_nesting.specs.Nesting.{deep}
use Rattle.valija_nesting.proofs.Parts.{Most, form, nothing, more, one_part, from_part, two_parts, three_parts, Nests}

-- ---- names, operators, what is called and what is written to

pub name_within : (m : Bool) (x : List ℕ) → deep m c.expr (name_or_arguments x) ≤ 1
unfolding deep
name_within m x = by (is_arguments x)
  where
    by : (b : Bool) → deep m c.expr (cond b c.args (c.name x)) ≤ 1
    by true = omega arith
    by false = omega arith

binary_within : (m : Bool) (n k : ℕ) (op : BinOp) (x y : c.Tree c.expr) → deep false c.expr x ≤ n → deep false c.expr y ≤ k → deep m c.expr (c.binary op x y) ≤ 1 + max 2 (max n k)
unfolding deep
binary_within m n k InObject x y h i = omega arith
binary_within m n k InstanceOf x y h i = omega arith
binary_within m n k op x y h i = omega arith

operator_within : (n : ℕ) (op : UnOp) (x : c.Tree c.expr) → deep false c.expr x ≤ n → Most c.expr (1 + n) (unary_of op x)
unfolding deep
operator_within n Delete (c.read e k) h = form (c.delete e k) (λ m. omega (arith, h))
operator_within n Delete x h = nothing c.expr (1 + n)
operator_within n op x h = form (c.unary op x) (λ m. omega (arith, h))

-- a call, of a member or not
called_within : (m : Bool) (n k : ℕ) (x : c.Tree c.expr) (xs : c.Tree c.exprs) → deep false c.expr x ≤ n → deep false c.exprs xs ≤ k → deep m c.expr (called x xs) ≤ 1 + max (1 + max 2 n) (1 + k)
unfolding deep
called_within m n k (c.read e f) xs h i = omega (arith, h, i)
called_within m n k x xs h i = omega (arith, h, i)

-- what is written to is a variable, or a member whose parts nest less than the member
stepped_within : (up before : Bool) (n : ℕ) (x : c.Tree c.expr) → deep false c.expr x ≤ n → Most c.expr (max 8 (5 + n)) (one (c.step up before) (target_of x))
unfolding deep
stepped_within up before n (c.name x) h = form (c.step up before (c.variable x)) (λ m. omega arith)
stepped_within up true n (c.read e (c.fixed k)) h = form (c.step up true (c.member e (c.fixed k))) (λ m. omega (arith, h))
stepped_within up true n (c.read e (c.computed f)) h = form (c.step up true (c.member e (c.computed f))) (λ m. omega (arith, h))
stepped_within up false n (c.read e (c.fixed k)) h = form (c.step up false (c.member e (c.fixed k))) (λ m. omega (arith, h))
stepped_within up false n (c.read e (c.computed f)) h = form (c.step up false (c.member e (c.computed f))) (λ m. omega (arith, h))
stepped_within up before n x h = nothing c.expr (max 8 (5 + n))

stepped_part : (up before : Bool) (n : ℕ) (o : Option (c.Tree c.expr)) → Most c.expr n o → Most c.expr (max 8 (5 + n)) (one (c.step up before) (from target_of o))
stepped_part up before n None h = nothing c.expr (max 8 (5 + n))
stepped_part up before n (Some x) h = stepped_within up before n x (h.most false)

set_within : (op : Option BinOp) (k : ℕ) (x : List ℕ) (v : c.Tree c.expr) → deep false c.expr v ≤ k → (m : Bool) → deep m c.expr (c.assign op (c.variable x) v) ≤ 1 + max 1 k
unfolding deep
set_within None k x v h m = omega (arith, h)
set_within (Some op) k x v h m = omega (arith, h)

written_within : (op : Option BinOp) (n k : ℕ) (x v : c.Tree c.expr) → deep false c.expr x ≤ n → deep false c.expr v ≤ k → Most c.expr (max 6 (3 + max n k)) (both (c.assign op) (target_of x) (Some v))
unfolding deep
written_within op n k (c.name x) v h i = more (form (c.assign op (c.variable x) v) (set_within op k x v i)) (omega arith)
written_within None n k (c.read e f) v h i = form (c.assign None (c.member e f) v) (λ m. omega (arith, h, i))
written_within (Some op) n k (c.read e (c.fixed f)) v h i = form (c.assign (Some op) (c.member e (c.fixed f)) v) (λ m. omega (arith, h, i))
written_within (Some op) n k (c.read e (c.computed f)) v h i = form (c.assign (Some op) (c.member e (c.computed f)) v) (λ m. omega (arith, h, i))
written_within op n k x v h i = nothing c.expr (max 6 (3 + max n k))

unwritten : (op : Option BinOp) (l : ℕ) (o : Option (c.Tree c.target)) → Most c.expr l (both (c.assign op) o None)
unwritten op l None = nothing c.expr l
unwritten op l (Some x) = nothing c.expr l

written_part : (op : Option BinOp) (n k : ℕ) (o u : Option (c.Tree c.expr)) → Most c.expr n o → Most c.expr k u → Most c.expr (max 6 (3 + max n k)) (both (c.assign op) (from target_of o) u)
written_part op n k None u h i = nothing c.expr (max 6 (3 + max n k))
written_part op n k (Some x) None h i = unwritten op (max 6 (3 + max n k)) (target_of x)
written_part op n k (Some x) (Some v) h i = written_within op n k x v (h.most false) (i.most false)

-- a name alone
set_name : (op : Option BinOp) (k : ℕ) (x : List ℕ) (b : Bool) (u : Option (c.Tree c.expr)) → Most c.expr k u → Most c.expr (1 + max 1 k) (both (c.assign op) (target_of (cond b c.args (c.name x))) u)
set_name op k x true u h = nothing c.expr (1 + max 1 k)
set_name op k x false None h = nothing c.expr (1 + max 1 k)
set_name op k x false (Some v) h = form (c.assign op (c.variable x) v) (set_within op k x v (h.most false))

step_name : (up before : Bool) (x : List ℕ) (b : Bool) → Most c.expr 2 (one (c.step up before) (target_of (cond b c.args (c.name x))))
unfolding deep
step_name up before x true = nothing c.expr 2
step_name up before x false = form (c.step up before (c.variable x)) (λ m. omega arith)

-- ---- expressions

pub null_nests : Nests t.expr 1 p.null
unfolding resolved deep
null_nests = record { there = form c.null (λ m. omega arith) }

pub bool_nests : (b : Bool) → Nests t.expr 1 (p.bool b)
unfolding resolved deep
bool_nests b = record { there = form (c.bool b) (λ m. omega arith) }

pub num_nests : (n : ℤ) → Nests t.expr 1 (p.num n)
unfolding resolved deep
num_nests n = record { there = form (c.num n) (λ m. omega arith) }

pub text_nests : (us : List ℕ) → Nests t.expr 1 (p.text us)
unfolding resolved deep
text_nests us = record { there = form (c.text us) (λ m. omega arith) }

pub name_nests : (x : Word) → Nests t.expr 1 (p.name x)
unfolding resolved
name_nests x = record { there = form (name_or_arguments x.text) (λ m. name_within m x.text) }

pub array_nests : {n : ℕ} {es : Placed t.exprs} → Nests t.exprs n es → Nests t.expr (1 + max 2 (1 + n)) (p.array es)
unfolding resolved deep
array_nests h = record { there = one_part c.array h.there (λ m x i. omega (arith, i)) }

pub object_nests : {n : ℕ} {fs : Placed t.fields} → Nests t.fields n fs → Nests t.expr (1 + max 2 (1 + n)) (p.object fs)
unfolding resolved deep
object_nests h = record { there = one_part c.record_of h.there (λ m x i. omega (arith, i)) }

pub function_nests : {n : ℕ} {f : Placed t.func} → Nests t.func n f → Nests t.expr (1 + max 2 (1 + n)) (p.function f)
unfolding resolved deep
function_nests h = record { there = one_part c.function h.there (λ m x i. omega (arith, i)) }

pub dot_nests : {n : ℕ} {e : Placed t.expr} (k : Word) → Nests t.expr n e → Nests t.expr (1 + max 2 n) (p.dot e k)
unfolding resolved deep
dot_nests k h = record { there = one_part (λ x. c.read x (c.fixed k.text)) h.there (λ m x i. omega (arith, i)) }

pub index_nests : {n d : ℕ} {e f : Placed t.expr} → Nests t.expr n e → Nests t.expr d f → Nests t.expr (1 + max 2 (max n d)) (p.index e f)
unfolding resolved deep
index_nests h i = record { there = two_parts (λ x y. c.read x (c.computed y)) h.there i.there (λ m x y j k. omega (arith, j, k)) }

pub call_nests : {n d : ℕ} {e : Placed t.expr} {es : Placed t.exprs} → Nests t.expr n e → Nests t.exprs d es → Nests t.expr (1 + max (1 + max 2 n) (1 + d)) (p.call e es)
unfolding resolved
call_nests {n} {d} h i = record { there = two_parts called h.there i.there (λ m x y j k. called_within m n d x y j k) }

pub unary_nests : {n : ℕ} {e : Placed t.expr} (op : UnOp) (at : ℕ) → Nests t.expr n e → Nests t.expr (1 + n) (p.unary op e at)
unfolding resolved
unary_nests {n} op at h = record { there = from_part (unary_of op) h.there (λ x i. operator_within n op x i) }

pub step_nests : {n : ℕ} {e : Placed t.expr} (up before : Bool) → Nests t.expr n e → Nests t.expr (max 8 (5 + n)) (p.step up before e)
unfolding resolved
step_nests {n} {e} up before h = record { there = stepped_part up before n (resolved t.expr e) h.there }

pub step_name_nests : (up before : Bool) (x : Word) → Nests t.expr 2 (p.step up before (p.name x))
unfolding resolved
step_name_nests up before x = record { there = step_name up before x.text (is_arguments x.text) }

pub binary_nests : {n d : ℕ} {e f : Placed t.expr} (op : BinOp) → Nests t.expr n e → Nests t.expr d f → Nests t.expr (1 + max 2 (max n d)) (p.binary op e f)
unfolding resolved
binary_nests {n} {d} op h i = record { there = two_parts (c.binary op) h.there i.there (λ m x y j k. binary_within m n d op x y j k) }

pub and_nests : {n d : ℕ} {e f : Placed t.expr} → Nests t.expr n e → Nests t.expr d f → Nests t.expr (1 + max n d) (p.and e f)
unfolding resolved deep
and_nests h i = record { there = two_parts c.and h.there i.there (λ m x y j k. omega (arith, j, k)) }

pub or_nests : {n d : ℕ} {e f : Placed t.expr} → Nests t.expr n e → Nests t.expr d f → Nests t.expr (1 + max n d) (p.or e f)
unfolding resolved deep
or_nests h i = record { there = two_parts c.or h.there i.there (λ m x y j k. omega (arith, j, k)) }

pub choice_nests : {n d l : ℕ} {e f g : Placed t.expr} → Nests t.expr n e → Nests t.expr d f → Nests t.expr l g → Nests t.expr (1 + max n (max d l)) (p.choice e f g)
unfolding resolved deep
choice_nests h i o = record { there = three_parts c.choice h.there i.there o.there (λ m x y z j k q. omega (arith, j, k, q)) }

pub comma_nests : {n d : ℕ} {e f : Placed t.expr} → Nests t.expr n e → Nests t.expr d f → Nests t.expr (1 + max n d) (p.comma e f)
unfolding resolved deep
comma_nests h i = record { there = two_parts c.comma h.there i.there (λ m x y j k. omega (arith, j, k)) }

pub assign_nests : {n d : ℕ} {e v : Placed t.expr} (op : Option BinOp) → Nests t.expr n e → Nests t.expr d v → Nests t.expr (max 6 (3 + max n d)) (p.assign op e v)
unfolding resolved
assign_nests {n} {d} {e} {v} op h i = record { there = written_part op n d (resolved t.expr e) (resolved t.expr v) h.there i.there }

pub assign_name_nests : {d : ℕ} {v : Placed t.expr} (op : Option BinOp) (x : Word) → Nests t.expr d v → Nests t.expr (1 + max 1 d) (p.assign op (p.name x) v)
unfolding resolved
assign_name_nests {d} {v} op x h = record { there = set_name op d x.text (is_arguments x.text) (resolved t.expr v) h.there }

-- ---- lists of expressions, and the pairs of a record

pub no_exprs_nests : Nests t.exprs 0 p.no_exprs
unfolding resolved deep
no_exprs_nests = record { there = form c.no_exprs (λ m. omega arith) }

pub more_exprs_nests : {n d : ℕ} {e : Placed t.expr} {es : Placed t.exprs} → Nests t.expr n e → Nests t.exprs d es → Nests t.exprs (max n d) (p.more_exprs e es)
unfolding resolved deep
more_exprs_nests h i = record { there = two_parts c.more_exprs h.there i.there (λ m x y j k. omega (arith, j, k)) }

pub no_fields_nests : Nests t.fields 0 p.no_fields
unfolding resolved deep
no_fields_nests = record { there = form c.no_fields (λ m. omega arith) }

pub more_fields_nests : {n d : ℕ} {e : Placed t.expr} {rest : Placed t.fields} (k : Word) → Nests t.expr n e → Nests t.fields d rest → Nests t.fields (max 1 (max n d)) (p.more_fields k e rest)
unfolding resolved deep
more_fields_nests k h i = record { there = two_parts (c.more_fields k.text) h.there i.there (λ m x y j q. omega (arith, j, q)) }

pub no_expr_nests : Nests t.maybe_expr 0 p.no_expr
unfolding resolved deep
no_expr_nests = record { there = form c.no_expr (λ m. omega arith) }

pub some_expr_nests : {n : ℕ} {e : Placed t.expr} → Nests t.expr n e → Nests t.maybe_expr n (p.some_expr e)
unfolding resolved deep
some_expr_nests h = record { there = one_part c.some_expr h.there (λ m x i. omega (arith, i)) }
