-- Temporaries are counted by writes: no part asks for more than three of them for each step, assignment and `for .. in` loop in it, and so do the functions in it.
use Rattle.std.proofs.Common.{ℕ, suc, ◌+◌, ◌*◌, ◌≤◌, Bool, true, false, List, [], Option, Some, None, arith, cond}
use Rattle.std.specs.Prelude.{IfSome}
use Rattle.es3_tree.specs.Tree as t
use Rattle.es3_tree.specs.Placed as p
use Rattle.es3_tree.specs.Placed.{Placed}
use Rattle.es3_tree.specs.declared.UnOp.{UnOp}
use Rattle.es3_tree.specs.declared.UnOp.TheVariants.{Delete}
use Rattle.es3_tree.specs.declared.BinOp.{BinOp}
use Rattle.cajita_tree.specs.Tree as c
use Rattle.cajita_tree.specs.Parts.{called, target_of, deleted}
use Rattle.cajita_names.specs.Once.{vars_of}
use Rattle.cajita_names.specs.Scope.{is_arguments}
use Rattle.cajita_forms.specs.Options.{one, both, three, four, from}
use Rattle.cajita_forms.specs.Forms.{text_of, texts_of, name_or_arguments, unary_of}
use Rattle.cajita_forms.specs.Arguments.{names_arguments}
use Rattle.cajita_rewrite.specs.Rewrite.{temps, of_key, of_target}
use Rattle.scope_rules.specs.Resolve.{of_sort, behind, resolved, declared_functions}
use Rattle.source_sizes.specs.Sizes.{writes, inner_writes, inner_temps}

-- so many temporaries at most in a part, and in the functions in it
abbrev pub Takes : (s : c.Sort) → ℕ → ℕ → c.Tree s → Type 0
Takes s a b y = (temps s y ≤ a) × (inner_temps s y ≤ b)

-- what is there takes no more than three temporaries for each of so many writes, and neither do the functions in it
pub record Few (s : c.Sort) (n k : ℕ) (o : Option (c.Tree s)) : Type 0 where
  pub most : IfSome o (Takes s (3 * n) (3 * k))

-- ---- one part, and several together: the whole takes what its parts take

leaf : {s : c.Sort} (x : c.Tree s) → Takes s 0 0 x → Few s 0 0 (Some x)
leaf x g = record { most = omega (arith, g) }

one_part : {s r : c.Sort} {n k : ℕ} {o : Option (c.Tree s)} (f : c.Tree s → c.Tree r) → ((x : c.Tree s) → Takes r (temps s x) (inner_temps s x) (f x)) → Few s n k o → Few r n k (one f o)
one_part {o = None} f g h = record { most = tt }
one_part {o = Some x} f g h = record { most = omega (arith, g x, h.most) }

two_parts : {s r q : c.Sort} {n k m l : ℕ} {o : Option (c.Tree s)} {u : Option (c.Tree r)} (f : c.Tree s → c.Tree r → c.Tree q) →
    ((x : c.Tree s) (y : c.Tree r) → Takes q (temps s x + temps r y) (inner_temps s x + inner_temps r y) (f x y)) → Few s n k o → Few r m l u → Few q (n + m) (k + l) (both f o u)
two_parts {o = None} f g h i = record { most = tt }
two_parts {o = Some x} {u = None} f g h i = record { most = tt }
two_parts {o = Some x} {u = Some y} f g h i = record { most = omega (arith, g x y, h.most, i.most) }

three_parts : {s r q a : c.Sort} {n k m l d e : ℕ} {o : Option (c.Tree s)} {u : Option (c.Tree r)} {v : Option (c.Tree q)} (f : c.Tree s → c.Tree r → c.Tree q → c.Tree a) →
    ((x : c.Tree s) (y : c.Tree r) (z : c.Tree q) → Takes a (temps s x + (temps r y + temps q z)) (inner_temps s x + (inner_temps r y + inner_temps q z)) (f x y z)) →
    Few s n k o → Few r m l u → Few q d e v → Few a (n + (m + d)) (k + (l + e)) (three f o u v)
three_parts {o = None} f g h i j = record { most = tt }
three_parts {o = Some x} {u = None} f g h i j = record { most = tt }
three_parts {o = Some x} {u = Some y} {v = None} f g h i j = record { most = tt }
three_parts {o = Some x} {u = Some y} {v = Some z} f g h i j = record { most = omega (arith, g x y z, h.most, i.most, j.most) }

four_parts : {s r q i a : c.Sort} {n k m l d e n₁ k₁ : ℕ} {o : Option (c.Tree s)} {u : Option (c.Tree r)} {v : Option (c.Tree q)} {w : Option (c.Tree i)}
    (f : c.Tree s → c.Tree r → c.Tree q → c.Tree i → c.Tree a) →
    ((x : c.Tree s) (y : c.Tree r) (z : c.Tree q) (b : c.Tree i) →
    Takes a (temps s x + (temps r y + (temps q z + temps i b))) (inner_temps s x + (inner_temps r y + (inner_temps q z + inner_temps i b))) (f x y z b)) →
    Few s n k o → Few r m l u → Few q d e v → Few i n₁ k₁ w → Few a (n + (m + (d + n₁))) (k + (l + (e + k₁))) (four f o u v w)
four_parts {o = None} f g h i j e = record { most = tt }
four_parts {o = Some x} {u = None} f g h i j e = record { most = tt }
four_parts {o = Some x} {u = Some y} {v = None} f g h i j e = record { most = tt }
four_parts {o = Some x} {u = Some y} {v = Some z} {w = None} f g h i j e = record { most = tt }
four_parts {o = Some x} {u = Some y} {v = Some z} {w = Some b} f g h i j e = record { most = omega (arith, g x y z b, h.most, i.most, j.most, e.most) }

-- ---- a write: up to three temporaries are its own

one_written : {s r : c.Sort} {n k : ℕ} {o : Option (c.Tree s)} (f : c.Tree s → c.Tree r) → ((x : c.Tree s) → Takes r (3 + temps s x) (inner_temps s x) (f x)) → Few s n k o → Few r (suc n) k (one f o)
one_written {o = None} f g h = record { most = tt }
one_written {o = Some x} f g h = record { most = omega (arith, g x, h.most) }

two_written : {s r q : c.Sort} {n k m l : ℕ} {o : Option (c.Tree s)} {u : Option (c.Tree r)} (f : c.Tree s → c.Tree r → c.Tree q) →
    ((x : c.Tree s) (y : c.Tree r) → Takes q (3 + (temps s x + temps r y)) (inner_temps s x + inner_temps r y) (f x y)) → Few s n k o → Few r m l u → Few q (suc (n + m)) (k + l) (both f o u)
two_written {o = None} f g h i = record { most = tt }
two_written {o = Some x} {u = None} f g h i = record { most = tt }
two_written {o = Some x} {u = Some y} f g h i = record { most = omega (arith, g x y, h.most, i.most) }

three_written : {s r q a : c.Sort} {n k m l d e : ℕ} {o : Option (c.Tree s)} {u : Option (c.Tree r)} {v : Option (c.Tree q)} (f : c.Tree s → c.Tree r → c.Tree q → c.Tree a) →
    ((x : c.Tree s) (y : c.Tree r) (z : c.Tree q) → Takes a (3 + (temps s x + (temps r y + temps q z))) (inner_temps s x + (inner_temps r y + inner_temps q z)) (f x y z)) →
    Few s n k o → Few r m l u → Few q d e v → Few a (suc (n + (m + d))) (k + (l + e)) (three f o u v)
three_written {o = None} f g h i j = record { most = tt }
three_written {o = Some x} {u = None} f g h i j = record { most = tt }
three_written {o = Some x} {u = Some y} {v = None} f g h i j = record { most = tt }
three_written {o = Some x} {u = Some y} {v = Some z} f g h i j = record { most = omega (arith, g x y z, h.most, i.most, j.most) }

-- the temporaries that a write to a target takes itself
of_key_most : (k : c.Tree c.key) → of_key k ≤ 1
of_key_most (c.fixed k) = omega arith
of_key_most (c.computed e) = omega arith

of_target_most : (n : ℕ) (x : c.Tree c.target) → of_target n x ≤ n + 1
of_target_most n (c.variable x) = omega arith
of_target_most n (c.member e k) = omega (arith, of_key_most k)

step_most : (up before : Bool) (x : c.Tree c.target) → Takes c.expr (3 + temps c.target x) (inner_temps c.target x) (c.step up before x)
unfolding inner_temps
step_most up true x = omega (arith, of_target_most 1 x)
step_most up false x = omega (arith, of_target_most 2 x)

assign_most : (op : Option BinOp) (x : c.Tree c.target) (e : c.Tree c.expr) → Takes c.expr (3 + (temps c.target x + temps c.expr e)) (inner_temps c.target x + inner_temps c.expr e) (c.assign op x e)
unfolding inner_temps
assign_most None x e = omega arith
assign_most (Some op) x e = omega (arith, of_target_most 1 x)

-- ---- what becomes another form: names, calls, targets, what is deleted

name_most : (b : Bool) (u : List ℕ) → Takes c.expr 0 0 (cond b c.args (c.name u))
unfolding inner_temps
name_most true u = omega arith
name_most false u = omega arith

called_most : (x : c.Tree c.expr) (xs : c.Tree c.exprs) → Takes c.expr (temps c.expr x + temps c.exprs xs) (inner_temps c.expr x + inner_temps c.exprs xs) (called x xs)
unfolding inner_temps
called_most (c.read e k) xs = omega arith
called_most _ xs = omega arith

no_more : {s : c.Sort} (o : Option (c.Tree s)) (a b n k : ℕ) → IfSome o (Takes s a b) → a ≤ 3 * n → b ≤ 3 * k → IfSome o (Takes s (3 * n) (3 * k))
no_more None a b n k g h i = tt
no_more (Some y) a b n k g h i = omega (arith, g, h, i)

part_of : {s r : c.Sort} {n k : ℕ} {o : Option (c.Tree s)} (f : c.Tree s → Option (c.Tree r)) → ((x : c.Tree s) → IfSome (f x) (Takes r (temps s x) (inner_temps s x))) → Few s n k o → Few r n k (from f o)
part_of {o = None} f g h = record { most = tt }
part_of {n} {k} {o = Some x} f g h = record { most = no_more (f x) _ _ n k (g x) h.most.0 h.most.1 }

target_most : (x : c.Tree c.expr) → IfSome (target_of x) (Takes c.target (temps c.expr x) (inner_temps c.expr x))
unfolding inner_temps
target_most (c.name x) = omega arith
target_most (c.read e k) = omega arith
target_most _ = tt

deleted_most : (x : c.Tree c.expr) → IfSome (deleted x) (Takes c.expr (temps c.expr x) (inner_temps c.expr x))
unfolding inner_temps
deleted_most (c.read e k) = omega arith
deleted_most _ = tt

unary_most : (op : UnOp) (x : c.Tree c.expr) → IfSome (unary_of op x) (Takes c.expr (temps c.expr x) (inner_temps c.expr x))
unfolding inner_temps
unary_most Delete x = deleted_most x
unary_most _ x = omega arith

-- ---- functions, which have their own

a_function : {n k : ℕ} {o : Option (c.Tree c.func)} → Few c.func n k o → Few c.expr 0 k (one c.function o)
unfolding inner_temps
a_function {o = None} h = record { most = tt }
a_function {o = Some f} h = record { most = omega (arith, h.most) }

-- a body, whatever names it declares
abbrev pub a_plain_body : c.Tree c.funcs → c.Tree c.stmts → c.Tree c.body
a_plain_body fs ss = c.a_body fs [] ss

its_own : {n k : ℕ} (f : c.Tree c.funcs → c.Tree c.stmts → c.Tree c.func) →
    ((fs : c.Tree c.funcs) (ss : c.Tree c.stmts) → Takes c.func 0 (temps c.stmts ss + (inner_temps c.funcs fs + inner_temps c.stmts ss)) (f fs ss)) →
    (o : Option (c.Tree c.funcs)) (u : Option (c.Tree c.stmts)) → Few c.body n k (both a_plain_body o u) → Few c.func 0 (n + k) (both f o u)
unfolding inner_temps
its_own f g None u h = record { most = tt }
its_own f g (Some fs) None h = record { most = tt }
its_own f g (Some fs) (Some ss) h = record { most = omega (arith, g fs ss, h.most) }

listed : (x : Placed t.stmt) {n k m l : ℕ} {o : Option (c.Tree c.stmt)} {u : Option (c.Tree c.stmts)} → Few c.stmt n k o → Few c.stmts m l u → Few c.stmts (n + m) (k + l) (behind x o u)
unfolding inner_temps
listed (p.declare f) {n} {k} {m} {l} {u = u} h i = record { most = no_more u (3 * m) (3 * l) (n + m) (k + l) i.most (omega arith) (omega arith) }
listed _ h i = two_parts c.more_stmts (λ x y. omega arith) h i

-- a function that a body declares, and a statement of a body, before the rest of it
declares : {n k m l : ℕ} {f : Option (c.Tree c.func)} (o : Option (c.Tree c.funcs)) (u : Option (c.Tree c.stmts)) → Few c.func n k f → Few c.body m l (both a_plain_body o u) →
    Few c.body (0 + m) (k + l) (both a_plain_body (both c.more_funcs f o) u)
unfolding inner_temps
declares {f = None} o u h i = record { most = tt }
declares {f = Some f} None u h i = record { most = tt }
declares {f = Some f} (Some fs) None h i = record { most = tt }
declares {f = Some f} (Some fs) (Some ss) h i = record { most = omega (arith, h.most, i.most) }

states : {n k m l : ℕ} {s : Option (c.Tree c.stmt)} (o : Option (c.Tree c.funcs)) (u : Option (c.Tree c.stmts)) → Few c.stmt n k s → Few c.body m l (both a_plain_body o u) →
    Few c.body (n + m) (k + l) (both a_plain_body o (both c.more_stmts s u))
unfolding inner_temps
states {s = s} None u h i = record { most = tt }
states {s = None} (Some fs) u h i = record { most = tt }
states {s = Some s} (Some fs) None h i = record { most = tt }
states {s = Some s} (Some fs) (Some ss) h i = record { most = omega (arith, h.most, i.most) }

-- ---- every form

mutual
  unfolding writes inner_writes inner_temps resolved

  pub few : (s : t.Sort) (x : Placed s) → Few (of_sort s) (writes s x) (inner_writes s x) (resolved s x)
  few _ p.null = leaf c.null (omega arith)
  few _ (p.bool b) = leaf (c.bool b) (omega arith)
  few _ (p.num n) = leaf (c.num n) (omega arith)
  few _ (p.text u) = leaf (c.text u) (omega arith)
  few _ (p.name x) = leaf (name_or_arguments x.text) (name_most (is_arguments x.text) x.text)
  few _ (p.array es) = one_part c.array (λ x. omega arith) (few _ es)
  few _ (p.object fs) = one_part c.record_of (λ x. omega arith) (few _ fs)
  few _ (p.function f) = a_function (few _ f)
  few _ (p.dot e k) = one_part (λ x. c.read x (c.fixed k.text)) (λ x. omega arith) (few _ e)
  few _ (p.index e f) = two_parts (λ x y. c.read x (c.computed y)) (λ x y. omega arith) (few _ e) (few _ f)
  few _ (p.call e es) = two_parts called called_most (few _ e) (few _ es)
  few _ (p.new e es) = two_parts c.new (λ x y. omega arith) (few _ e) (few _ es)
  few _ (p.unary op e at) = part_of (unary_of op) (unary_most op) (few _ e)
  few _ (p.step up before e) = one_written (c.step up before) (step_most up before) (part_of target_of target_most (few _ e))
  few _ (p.binary op e f) = two_parts (c.binary op) (λ x y. omega arith) (few _ e) (few _ f)
  few _ (p.and e f) = two_parts c.and (λ x y. omega arith) (few _ e) (few _ f)
  few _ (p.or e f) = two_parts c.or (λ x y. omega arith) (few _ e) (few _ f)
  few _ (p.choice e f g) = three_parts c.choice (λ x y z. omega arith) (few _ e) (few _ f) (few _ g)
  few _ (p.assign op e f) = two_written (c.assign op) (assign_most op) (part_of target_of target_most (few _ e)) (few _ f)
  few _ (p.comma e f) = two_parts c.comma (λ x y. omega arith) (few _ e) (few _ f)
  few _ p.no_exprs = leaf c.no_exprs (omega arith)
  few _ (p.more_exprs e es) = two_parts c.more_exprs (λ x y. omega arith) (few _ e) (few _ es)
  few _ p.no_fields = leaf c.no_fields (omega arith)
  few _ (p.more_fields k e fs) = two_parts (c.more_fields k.text) (λ x y. omega arith) (few _ e) (few _ fs)
  few _ p.no_expr = leaf c.no_expr (omega arith)
  few _ (p.some_expr e) = one_part c.some_expr (λ x. omega arith) (few _ e)
  few _ (p.block ss) = one_part c.block (λ x. omega arith) (few _ ss)
  few _ (p.var is) = one_part c.var (λ x. omega arith) (few _ is)
  few _ p.empty = leaf c.empty (omega arith)
  few _ (p.expression e) = one_part c.expression (λ x. omega arith) (few _ e)
  few _ (p.branch e x m) = three_parts c.branch (λ x y z. omega arith) (few _ e) (few _ x) (few _ m)
  few _ (p.while_loop e x) = two_parts c.while_loop (λ x y. omega arith) (few _ e) (few _ x)
  few _ (p.do_loop x e) = two_parts c.do_loop (λ x y. omega arith) (few _ x) (few _ e)
  few _ (p.for_loop i e f x) = four_parts c.for_loop (λ x y z b. omega arith) (few _ i) (few _ e) (few _ f) (few _ x)
  few _ (p.for_in i e x) = three_written c.for_in (λ x y z. omega arith) (few _ i) (few _ e) (few _ x)
  few _ (p.continue l at) = leaf (c.continue (text_of l)) (omega arith)
  few _ (p.break l at) = leaf (c.break (text_of l)) (omega arith)
  few _ (p.return m at) = one_part c.return (λ x. omega arith) (few _ m)
  few _ (p.switch e cs) = two_parts c.switch (λ x y. omega arith) (few _ e) (few _ cs)
  few _ (p.label l x) = one_part (c.label l.text) (λ x. omega arith) (few _ x)
  few _ (p.throw e) = one_part c.throw (λ x. omega arith) (few _ e)
  few _ (p.try ss h m) = three_parts c.try (λ x y z. omega arith) (few _ ss) (few _ h) (few _ m)
  few _ (p.declare f) = record { most = omega arith }
  few _ p.no_stmts = leaf c.no_stmts (omega arith)
  few _ (p.more_stmts x ss) = listed x (few _ x) (few _ ss)
  few _ p.no_items = leaf c.no_items (omega arith)
  few _ (p.more_items x m is) = two_parts (c.more_items x.text) (λ x y. omega arith) (few _ m) (few _ is)
  few _ p.no_stmt = leaf c.no_stmt (omega arith)
  few _ (p.some_stmt x) = one_part c.some_stmt (λ x. omega arith) (few _ x)
  few _ p.no_block = leaf c.no_block (omega arith)
  few _ (p.some_block ss) = one_part c.some_block (λ x. omega arith) (few _ ss)
  few _ p.no_first = leaf c.no_first (omega arith)
  few _ (p.first_var is) = one_part c.first_var (λ x. omega arith) (few _ is)
  few _ (p.first_expr e) = one_part c.first_expr (λ x. omega arith) (few _ e)
  few _ (p.loop_var x) = leaf (c.variable x.text) (omega arith)
  few _ (p.loop_expr e) = part_of target_of target_most (few _ e)
  few _ p.no_cases = leaf c.no_cases (omega arith)
  few _ (p.more_cases m ss cs) = three_parts c.more_cases (λ x y z. omega arith) (few _ m) (few _ ss) (few _ cs)
  few _ p.no_handler = leaf c.no_handler (omega arith)
  few _ (p.some_handler x ss) = one_part (c.some_handler x.text) (λ x. omega arith) (few _ ss)
  few _ (p.fun name ps body at) =
      its_own (λ fs ss. c.fun (text_of name) (texts_of ps) (names_arguments t.stmts body) (c.a_body fs (vars_of body) ss)) (λ fs ss. omega arith) (declared_functions body) (resolved _ body) (few_in_body body)
  few _ (p.this at) = record { most = tt }
  few _ (p.with_object e x at) = record { most = tt }
  few _ (p.script ss) = record { most = tt }

  pub few_in_body : (ss : Placed t.stmts) → Few c.body (writes t.stmts ss) (inner_writes t.stmts ss) (both a_plain_body (declared_functions ss) (resolved t.stmts ss))
  few_in_body p.no_stmts = leaf (a_plain_body c.no_funcs c.no_stmts) (omega arith)
  few_in_body (p.more_stmts (p.declare f) ss) = declares (declared_functions ss) (resolved t.stmts ss) (few _ f) (few_in_body ss)
  few_in_body (p.more_stmts x ss) = states (declared_functions ss) (resolved t.stmts ss) (few _ x) (few_in_body ss)
