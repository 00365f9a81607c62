-- A resolved part nests no deeper than the part of the source that it stands for.
use Rattle.std.proofs.Common.{◌≡◌, ℕ, ◌+◌, ◌≤◌, Bool, true, false, List, Option, Some, None, cond, subst, arith}
use Rattle.std.specs.Prelude.{max, IfSome}
use Rattle.es3_tree.specs.Tree as t
use Rattle.es3_tree.specs.Measure.{nest}
use Rattle.es3_tree.specs.Placed as p
use Rattle.es3_tree.specs.Placed.{Placed}
use Rattle.es3_tree.specs.declared.UnOp.{UnOp}
use Rattle.es3_tree.specs.declared.UnOp.TheVariants.{Delete}
use Rattle.es3_grammar.specs.Plain.{plain}
use Rattle.cajita_tree.specs.Tree as c
use Rattle.cajita_tree.specs.Parts.{called, target_of}
use Rattle.cajita_names.specs.Once.{vars_of}
use Rattle.cajita_names.specs.Scope.{is_arguments}
use Rattle.cajita_forms.specs.Options.{one, both, three, four, from}
use Rattle.cajita_forms.specs.Forms.{text_of, texts_of, name_or_arguments, unary_of}
use Rattle.cajita_forms.specs.Arguments.{names_arguments}
use Rattle.cajita_rewrite.specs.Rewrite.{program_of}
use Rattle.scope_rules.specs.Resolve.{of_sort, resolved, declared_functions, imports_of, module_of}
use Rattle.cajoled_nesting.specs.Nesting.{depth}
use Rattle.cajoled_nesting.proofs.Bound.{module_within}

-- what is there nests so deep at most
record Nests (s : c.Sort) (n : ℕ) (o : Option (c.Tree s)) : Type 0 where
  most : IfSome o (λ y. depth s y ≤ n)

-- ---- forms by their parts

form : {s : c.Sort} (n : ℕ) (y : c.Tree s) → depth s y ≤ n → Nests s n (Some y)
form n y h = record { most = h }

deeper : {s : c.Sort} (n m : ℕ) {o : Option (c.Tree s)} → n ≤ m → Nests s n o → Nests s m o
deeper n m {o = None} e h = record { most = tt }
deeper n m {o = Some x} e h = let k = h.most in record { most = omega arith }

one_part : {s r : c.Sort} {n : ℕ} {o : Option (c.Tree s)} (l : ℕ) (f : c.Tree s → c.Tree r) → ((x : c.Tree s) → depth s x ≤ n → depth r (f x) ≤ l) → Nests s n o → Nests r l (one f o)
one_part {o = None} l f g h = record { most = tt }
one_part {o = Some x} l f g h = record { most = g x h.most }

from_part : {s r : c.Sort} {n : ℕ} {o : Option (c.Tree s)} (l : ℕ) (f : c.Tree s → Option (c.Tree r)) → ((x : c.Tree s) → depth s x ≤ n → Nests r l (f x)) → Nests s n o → Nests r l (from f o)
from_part {o = None} l f g h = record { most = tt }
from_part {o = Some x} l f g h = g x h.most

two_parts : {s r q : c.Sort} {n m : ℕ} {o : Option (c.Tree s)} {u : Option (c.Tree r)} (l : ℕ) (f : c.Tree s → c.Tree r → c.Tree q) → ((x : c.Tree s) (y : c.Tree r) → depth s x ≤ n → depth r y ≤ m → depth q (f x y) ≤ l) → Nests s n o → Nests r m u → Nests q l (both f o u)
two_parts {o = None} l f g h i = record { most = tt }
two_parts {o = Some x} {u = None} l f g h i = record { most = tt }
two_parts {o = Some x} {u = Some y} l f g h i = record { most = g x y h.most i.most }

three_parts : {s r q a : c.Sort} {n m d : ℕ} {o : Option (c.Tree s)} {u : Option (c.Tree r)} {v : Option (c.Tree q)} (l : ℕ) (f : c.Tree s → c.Tree r → c.Tree q → c.Tree a)
    → ((x : c.Tree s) (y : c.Tree r) (z : c.Tree q) → depth s x ≤ n → depth r y ≤ m → depth q z ≤ d → depth a (f x y z) ≤ l) → Nests s n o → Nests r m u → Nests q d v → Nests a l (three f o u v)
three_parts {o = None} l f g h i j = record { most = tt }
three_parts {o = Some x} {u = None} l f g h i j = record { most = tt }
three_parts {o = Some x} {u = Some y} {v = None} l f g h i j = record { most = tt }
three_parts {o = Some x} {u = Some y} {v = Some z} l f g h i j = record { most = g x y z h.most i.most j.most }

four_parts : {s r q w a : c.Sort} {n m d e : ℕ} {o : Option (c.Tree s)} {u : Option (c.Tree r)} {v : Option (c.Tree q)} {k : Option (c.Tree w)} (l : ℕ) (f : c.Tree s → c.Tree r → c.Tree q → c.Tree w → c.Tree a)
    → ((x : c.Tree s) (y : c.Tree r) (z : c.Tree q) (b : c.Tree w) → depth s x ≤ n → depth r y ≤ m → depth q z ≤ d → depth w b ≤ e → depth a (f x y z b) ≤ l) → Nests s n o → Nests r m u → Nests q d v → Nests w e k → Nests a l (four f o u v k)
four_parts {o = None} l f g h i j b = record { most = tt }
four_parts {o = Some x} {u = None} l f g h i j b = record { most = tt }
four_parts {o = Some x} {u = Some y} {v = None} l f g h i j b = record { most = tt }
four_parts {o = Some x} {u = Some y} {v = Some z} {k = None} l f g h i j b = record { most = tt }
four_parts {o = Some x} {u = Some y} {v = Some z} {k = Some w} l f g h i j b = record { most = g x y z w h.most i.most j.most b.most }

-- ---- names, calls, what is written to and what is deleted

name_part : (x : List ℕ) → depth c.expr (name_or_arguments x) ≤ 1
unfolding depth
name_part x = by (is_arguments x)
  where
    by : (b : Bool) → depth c.expr (cond b c.args (c.name x)) ≤ 1
    by true = omega arith
    by false = omega arith

called_part : (n m : ℕ) (x : c.Tree c.expr) (xs : c.Tree c.exprs) → depth c.expr x ≤ n → depth c.exprs xs ≤ m → depth c.expr (called x xs) ≤ 1 + max n m
unfolding depth
called_part n m (c.read e k) xs h i = omega arith
called_part n m x xs h i = omega arith

target_part : (n : ℕ) (x : c.Tree c.expr) → depth c.expr x ≤ n → Nests c.target n (target_of x)
unfolding depth
target_part n (c.name x) h = form n (c.variable x) (omega arith)
target_part n (c.read e k) h = form n (c.member e k) h
target_part n x h = record { most = tt }

operator_part : (n : ℕ) (op : UnOp) (x : c.Tree c.expr) → depth c.expr x ≤ n → Nests c.expr (1 + n) (unary_of op x)
unfolding depth
operator_part n Delete (c.read e k) h = form (1 + n) (c.delete e k) (omega arith)
operator_part n Delete x h = record { most = tt }
operator_part n op x h = form (1 + n) (c.unary op x) (omega arith)

-- ---- each form

abbrev N : (s : t.Sort) → Placed s → ℕ
N s x = nest s (plain s x)

mutual
  unfolding resolved depth

  nests : (s : t.Sort) (x : Placed s) → Nests (of_sort s) (N s x) (resolved s x)
  nests _ (p.this at) = record { most = tt }
  nests _ p.null = form 1 c.null (omega arith)
  nests _ (p.bool b) = form 1 (c.bool b) (omega arith)
  nests _ (p.num n) = form 1 (c.num n) (omega arith)
  nests _ (p.text us) = form 1 (c.text us) (omega arith)
  nests _ (p.name x) = form 1 (name_or_arguments x.text) (name_part x.text)
  nests _ (p.array xs) = one_part (1 + N t.exprs xs) c.array (λ x h. omega arith) (nests t.exprs xs)
  nests _ (p.object fs) = one_part (1 + N t.fields fs) c.record_of (λ x h. omega arith) (nests t.fields fs)
  nests _ (p.function f) = one_part (1 + N t.func f) c.function (λ x h. omega arith) (nests t.func f)
  nests _ (p.dot e k) = one_part (1 + N t.expr e) (λ y. c.read y (c.fixed k.text)) (λ x h. omega arith) (nests t.expr e)
  nests _ (p.index e f) = two_parts (1 + max (N t.expr e) (N t.expr f)) (λ y z. c.read y (c.computed z)) (λ x y h i. omega arith) (nests t.expr e) (nests t.expr f)
  nests _ (p.call e es) = two_parts (1 + max (N t.expr e) (N t.exprs es)) called (called_part (N t.expr e) (N t.exprs es)) (nests t.expr e) (nests t.exprs es)
  nests _ (p.new e es) = two_parts (1 + max (N t.expr e) (N t.exprs es)) c.new (λ x y h i. omega arith) (nests t.expr e) (nests t.exprs es)
  nests _ (p.unary op e at) = from_part (1 + N t.expr e) (unary_of op) (operator_part (N t.expr e) op) (nests t.expr e)
  nests _ (p.step up before e) = one_part (1 + N t.expr e) (c.step up before) (λ x h. omega arith) (from_part (N t.expr e) target_of (target_part (N t.expr e)) (nests t.expr e))
  nests _ (p.binary op e f) = two_parts (1 + max (N t.expr e) (N t.expr f)) (c.binary op) (λ x y h i. omega arith) (nests t.expr e) (nests t.expr f)
  nests _ (p.and e f) = two_parts (1 + max (N t.expr e) (N t.expr f)) c.and (λ x y h i. omega arith) (nests t.expr e) (nests t.expr f)
  nests _ (p.or e f) = two_parts (1 + max (N t.expr e) (N t.expr f)) c.or (λ x y h i. omega arith) (nests t.expr e) (nests t.expr f)
  nests _ (p.choice e f g) = three_parts (1 + max (N t.expr e) (max (N t.expr f) (N t.expr g))) c.choice (λ x y z h i j. omega arith) (nests t.expr e) (nests t.expr f) (nests t.expr g)
  nests _ (p.assign op e f) = two_parts (1 + max (N t.expr e) (N t.expr f)) (c.assign op) (λ x y h i. omega arith) (from_part (N t.expr e) target_of (target_part (N t.expr e)) (nests t.expr e)) (nests t.expr f)
  nests _ (p.comma e f) = two_parts (1 + max (N t.expr e) (N t.expr f)) c.comma (λ x y h i. omega arith) (nests t.expr e) (nests t.expr f)
  nests _ p.no_exprs = form 0 c.no_exprs (omega arith)
  nests _ (p.more_exprs e es) = two_parts (max (N t.expr e) (N t.exprs es)) c.more_exprs (λ x y h i. omega arith) (nests t.expr e) (nests t.exprs es)
  nests _ p.no_fields = form 0 c.no_fields (omega arith)
  nests _ (p.more_fields k e fs) = two_parts (max (N t.expr e) (N t.fields fs)) (c.more_fields k.text) (λ x y h i. omega arith) (nests t.expr e) (nests t.fields fs)
  nests _ p.no_expr = form 0 c.no_expr (omega arith)
  nests _ (p.some_expr e) = one_part (N t.expr e) c.some_expr (λ x h. omega arith) (nests t.expr e)
  nests _ (p.block ss) = one_part (1 + N t.stmts ss) c.block (λ x h. omega arith) (nests t.stmts ss)
  nests _ (p.var is) = one_part (1 + N t.items is) c.var (λ x h. omega arith) (nests t.items is)
  nests _ p.empty = form 1 c.empty (omega arith)
  nests _ (p.expression e) = one_part (1 + N t.expr e) c.expression (λ x h. omega arith) (nests t.expr e)
  nests _ (p.branch e x m) = three_parts (1 + max (N t.expr e) (max (N t.stmt x) (N t.maybe_stmt m))) c.branch (λ u v w h i j. omega arith) (nests t.expr e) (nests t.stmt x) (nests t.maybe_stmt m)
  nests _ (p.while_loop e x) = two_parts (1 + max (N t.expr e) (N t.stmt x)) c.while_loop (λ u v h i. omega arith) (nests t.expr e) (nests t.stmt x)
  nests _ (p.do_loop x e) = two_parts (1 + max (N t.stmt x) (N t.expr e)) c.do_loop (λ u v h i. omega arith) (nests t.stmt x) (nests t.expr e)
  nests _ (p.for_loop i e m x) = four_parts (1 + max (N t.first i) (max (N t.maybe_expr e) (max (N t.maybe_expr m) (N t.stmt x)))) c.for_loop (λ u v w z h k j l. omega arith) (nests t.first i) (nests t.maybe_expr e) (nests t.maybe_expr m) (nests t.stmt x)
  nests _ (p.for_in i e x) = three_parts (1 + max (N t.loop_target i) (max (N t.expr e) (N t.stmt x))) c.for_in (λ u v w h k j. omega arith) (nests t.loop_target i) (nests t.expr e) (nests t.stmt x)
  nests _ (p.continue l at) = form 1 (c.continue (text_of l)) (omega arith)
  nests _ (p.break l at) = form 1 (c.break (text_of l)) (omega arith)
  nests _ (p.return m at) = one_part (1 + N t.maybe_expr m) c.return (λ x h. omega arith) (nests t.maybe_expr m)
  nests _ (p.with_object e x at) = record { most = tt }
  nests _ (p.switch e cs) = two_parts (1 + max (N t.expr e) (N t.cases cs)) c.switch (λ u v h i. omega arith) (nests t.expr e) (nests t.cases cs)
  nests _ (p.label l x) = one_part (1 + N t.stmt x) (c.label l.text) (λ y h. omega arith) (nests t.stmt x)
  nests _ (p.throw e) = one_part (1 + N t.expr e) c.throw (λ x h. omega arith) (nests t.expr e)
  nests _ (p.try ss d m) = three_parts (1 + max (N t.stmts ss) (max (N t.handler d) (N t.maybe_block m))) c.try (λ u v w h i j. omega arith) (nests t.stmts ss) (nests t.handler d) (nests t.maybe_block m)
  nests _ (p.declare f) = form (1 + N t.func f) c.empty (omega arith)
  nests _ p.no_stmts = form 0 c.no_stmts (omega arith)
  nests _ (p.more_stmts (p.declare f) ss) = deeper (N t.stmts ss) (max (1 + N t.func f) (N t.stmts ss)) (omega arith) (nests t.stmts ss)
  nests _ (p.more_stmts x ss) = two_parts (max (N t.stmt x) (N t.stmts ss)) c.more_stmts (λ u v h i. omega arith) (nests t.stmt x) (nests t.stmts ss)
  nests _ p.no_items = form 0 c.no_items (omega arith)
  nests _ (p.more_items x m is) = two_parts (max (N t.maybe_expr m) (N t.items is)) (c.more_items x.text) (λ u v h i. omega arith) (nests t.maybe_expr m) (nests t.items is)
  nests _ p.no_stmt = form 0 c.no_stmt (omega arith)
  nests _ (p.some_stmt x) = one_part (N t.stmt x) c.some_stmt (λ y h. omega arith) (nests t.stmt x)
  nests _ p.no_block = form 0 c.no_block (omega arith)
  nests _ (p.some_block ss) = one_part (N t.stmts ss) c.some_block (λ y h. omega arith) (nests t.stmts ss)
  nests _ p.no_first = form 0 c.no_first (omega arith)
  nests _ (p.first_var is) = one_part (N t.items is) c.first_var (λ y h. omega arith) (nests t.items is)
  nests _ (p.first_expr e) = one_part (N t.expr e) c.first_expr (λ y h. omega arith) (nests t.expr e)
  nests _ (p.loop_var x) = form 0 (c.variable x.text) (omega arith)
  nests _ (p.loop_expr e) = from_part (N t.expr e) target_of (target_part (N t.expr e)) (nests t.expr e)
  nests _ p.no_cases = form 0 c.no_cases (omega arith)
  nests _ (p.more_cases m ss cs) = three_parts (max (N t.maybe_expr m) (max (N t.stmts ss) (N t.cases cs))) c.more_cases (λ u v w h i j. omega arith) (nests t.maybe_expr m) (nests t.stmts ss) (nests t.cases cs)
  nests _ p.no_handler = form 0 c.no_handler (omega arith)
  nests _ (p.some_handler x ss) = one_part (N t.stmts ss) (c.some_handler x.text) (λ y h. omega arith) (nests t.stmts ss)
  nests _ (p.fun name ps body at) = two_parts (1 + N t.stmts body) (λ fs ss. c.fun (text_of name) (texts_of ps) (names_arguments t.stmts body) (c.a_body fs (vars_of body) ss)) (λ u v h i. omega arith) (functions body) (nests t.stmts body)
  nests _ (p.script ss) = record { most = tt }

  functions : (ss : Placed t.stmts) → Nests c.funcs (N t.stmts ss) (declared_functions ss)
  functions p.no_stmts = form 0 c.no_funcs (omega arith)
  functions (p.more_stmts (p.declare f) ss) = two_parts (max (1 + N t.func f) (N t.stmts ss)) c.more_funcs (λ u v h i. omega arith) (nests t.func f) (functions ss)
  functions (p.more_stmts x ss) = deeper (N t.stmts ss) (max (N t.stmt x) (N t.stmts ss)) (omega arith) (functions ss)

-- ---- modules

of_body : (xs : List (List ℕ)) (vs : List (List ℕ)) (n : ℕ) (o : Option (c.Tree c.funcs)) (r : Option (c.Tree c.stmts)) → Nests c.funcs n o → Nests c.stmts n r
    → IfSome (one (c.a_module xs) (both (λ fs ss. c.a_body fs vs ss) o r)) (λ m. depth c.program m ≤ n)
unfolding depth
of_body xs vs n None r h i = tt
of_body xs vs n (Some fs) None h i = tt
of_body xs vs n (Some fs) (Some ss) h i = let a = h.most in let b = i.most in omega arith

pub module_nests : (grants : List (List ℕ)) (body : Placed t.stmts) (m : c.Tree c.program) → module_of grants body ≡ Some m → depth c.program m ≤ nest t.stmts (plain t.stmts body)
module_nests grants body m is =
    subst (λ o. IfSome o (λ q. depth c.program q ≤ N t.stmts body)) is (of_body (imports_of grants body) (vars_of body) (N t.stmts body) (declared_functions body) (resolved t.stmts body) (functions body) (nests t.stmts body))

-- the program of a source that nests at most 128 deep is read where at most 1,024 are allowed
pub source_nests : (grants : List (List ℕ)) (body : Placed t.stmts) (m : c.Tree c.program) → module_of grants body ≡ Some m → nest t.stmts (plain t.stmts body) ≤ 128 → nest t.program (program_of m) ≤ 520
source_nests grants body m is few = let h = module_nests grants body m is in let k = module_within m in omega arith
