-- Resolving keeps each jump's target: a module that breaks no rule is targeted.
use Rattle.std.proofs.Common.{◌≡◌, ℕ, Bool, true, false, List, [], ◌∷◌, ◌++◌, map, Option, Some, None, cond, refl, sym, ap, subst, ◌∙◌}
use Rattle.std.specs.Prelude.{◌&&◌, not, IfSome}
use Rattle.std.proofs.lemmas.Bool.{and_from, and_parts}
use Rattle.es3_tree.specs.Tree as t
use Rattle.es3_tree.specs.Placed as p
use Rattle.es3_tree.specs.Placed.{Placed, Word}
use Rattle.es3_tree.specs.declared.UnOp.{UnOp}
use Rattle.es3_tree.specs.declared.UnOp.TheVariants.{Delete}
use Rattle.es3_grammar.specs.Plain.{plain, plain_name}
use Rattle.es3_labels.specs.Around.{Around, in_program, in_function, in_loop, in_switch, in_label, has_label, has_function}
use Rattle.es3_labels.specs.Misplaced.{Misplaced, misplaced}
use Rattle.cajita_tree.specs.Tree as c
use Rattle.cajita_tree.specs.Parts.{called, target_of}
use Rattle.cajita_names.specs.Once.{vars_of}
use Rattle.cajita_names.specs.Scope.{is_arguments}
use Rattle.cajita_forms.specs.Options.{one, both, three, four, from}
use Rattle.cajita_forms.specs.Forms.{text_of, texts_of, name_or_arguments, unary_of}
use Rattle.cajita_forms.specs.Arguments.{names_arguments}
use Rattle.cajita_rules.specs.Faults.{redeclared, faults_in, bad_label, module_scope, all_faults, faults, first}
use Rattle.cajita_rules.proofs.Order.{none_at_all}
use Rattle.scope_rules.proofs.Given.{no_back}
use Rattle.cajita_names.specs.Declarations.{declarations}
use Rattle.cajita_rewrite.specs.Rewrite.{program_of}
use Rattle.scope_rules.specs.Resolve.{of_sort, resolved, declared_functions, imports_of, module_of}
use Rattle.cajoled_jumps.specs.Targets.{continues, breaks, is_loop, targeted, is_resolved_loop, resolved_targeted}
use Rattle.cajoled_jumps.proofs.Places.{none_where_targeted}
use Rattle.cajoled_jumps.proofs.Rewritten.{program_targeted}

-- what is there is targeted, where the tree that it stands for is
record Aims (a : Around) (s : c.Sort) (b : Bool) (o : Option (c.Tree s)) : Type 0 where
  holds : b ≡ true → IfSome o (λ y. resolved_targeted a s y ≡ true)

-- ---- forms by their parts

form : {a : Around} {s : c.Sort} (b : Bool) (y : c.Tree s) → (b ≡ true → resolved_targeted a s y ≡ true) → Aims a s b (Some y)
form b y h = record { holds = h }

no_form : {a : Around} {s : c.Sort} (b : Bool) → Aims a s b None
no_form b = record { holds = λ h. tt }

one_part : {a d : Around} {s r : c.Sort} {b : Bool} {o : Option (c.Tree s)} (f : c.Tree s → c.Tree r) → ((x : c.Tree s) → resolved_targeted a s x ≡ true → resolved_targeted d r (f x) ≡ true) → Aims a s b o → Aims d r b (one f o)
one_part {o = None} f g h = record { holds = λ i. tt }
one_part {o = Some x} f g h = record { holds = λ i. g x (h.holds i) }

from_part : {a : Around} {s r : c.Sort} {b : Bool} {o : Option (c.Tree s)} (f : c.Tree s → Option (c.Tree r)) → ((x : c.Tree s) → resolved_targeted a s x ≡ true → IfSome (f x) (λ y. resolved_targeted a r y ≡ true)) → Aims a s b o → Aims a r b (from f o)
from_part {o = None} f g h = record { holds = λ i. tt }
from_part {o = Some x} f g h = record { holds = λ i. g x (h.holds i) }

two_parts : {a d e : Around} {s r q : c.Sort} {x y : Bool} {o : Option (c.Tree s)} {u : Option (c.Tree r)} (f : c.Tree s → c.Tree r → c.Tree q)
    → ((v : c.Tree s) (w : c.Tree r) → resolved_targeted a s v ≡ true → resolved_targeted d r w ≡ true → resolved_targeted e q (f v w) ≡ true) → Aims a s x o → Aims d r y u → Aims e q (x && y) (both f o u)
two_parts {o = None} f g h i = record { holds = λ j. tt }
two_parts {o = Some v} {u = None} f g h i = record { holds = λ j. tt }
two_parts {x = x} {y = y} {o = Some v} {u = Some w} f g h i = record { holds = λ j. let k = and_parts x y j in g v w (h.holds k.0) (i.holds k.1) }

three_parts : {a d e l : Around} {s r q k : c.Sort} {x y z : Bool} {o : Option (c.Tree s)} {u : Option (c.Tree r)} {v : Option (c.Tree q)} (f : c.Tree s → c.Tree r → c.Tree q → c.Tree k)
    → ((o : c.Tree s) (u : c.Tree r) (v : c.Tree q) → resolved_targeted a s o ≡ true → resolved_targeted d r u ≡ true → resolved_targeted e q v ≡ true → resolved_targeted l k (f o u v) ≡ true) → Aims a s x o → Aims d r y u → Aims e q z v
    → Aims l k ((x && y) && z) (three f o u v)
three_parts {o = None} f g h i j = record { holds = λ m. tt }
three_parts {o = Some o} {u = None} f g h i j = record { holds = λ m. tt }
three_parts {o = Some o} {u = Some u} {v = None} f g h i j = record { holds = λ m. tt }
three_parts {x = x} {y = y} {z = z} {o = Some o} {u = Some u} {v = Some v} f g h i j = record { holds = λ m. let n = and_parts (x && y) z m in let b = and_parts x y n.0 in g o u v (h.holds b.0) (i.holds b.1) (j.holds n.1) }

four_parts : {a d e l m : Around} {s r q k w : c.Sort} {x y z b : Bool} {o : Option (c.Tree s)} {u : Option (c.Tree r)} {v : Option (c.Tree q)} {n : Option (c.Tree k)} (f : c.Tree s → c.Tree r → c.Tree q → c.Tree k → c.Tree w)
    → ((o : c.Tree s) (u : c.Tree r) (v : c.Tree q) (n : c.Tree k) → resolved_targeted a s o ≡ true → resolved_targeted d r u ≡ true → resolved_targeted e q v ≡ true → resolved_targeted l k n ≡ true → resolved_targeted m w (f o u v n) ≡ true)
    → Aims a s x o → Aims d r y u → Aims e q z v → Aims l k b n → Aims m w (((x && y) && z) && b) (four f o u v n)
four_parts {o = None} f g h i j n = record { holds = λ k. tt }
four_parts {o = Some o} {u = None} f g h i j n = record { holds = λ k. tt }
four_parts {o = Some o} {u = Some u} {v = None} f g h i j n = record { holds = λ k. tt }
four_parts {o = Some o} {u = Some u} {v = Some v} {n = None} f g h i j l = record { holds = λ k. tt }
four_parts {x = x} {y = y} {z = z} {b = b} {o = Some o} {u = Some u} {v = Some v} {n = Some n} f g h i j l = record {
  holds = λ k. let c = and_parts ((x && y) && z) b k in let q = and_parts (x && y) z c.0 in let r = and_parts x y q.0 in g o u v n (h.holds r.0) (i.holds r.1) (j.holds q.1) (l.holds c.1);
}

-- ---- names, calls, what is written to and what is deleted

name_part : (a : Around) (x : List ℕ) → resolved_targeted a c.expr (name_or_arguments x) ≡ true
unfolding resolved_targeted
name_part a x = by (is_arguments x)
  where
    by : (b : Bool) → resolved_targeted a c.expr (cond b c.args (c.name x)) ≡ true
    by true = refl
    by false = refl

called_part : (a : Around) (x : c.Tree c.expr) (xs : c.Tree c.exprs) → resolved_targeted a c.expr x ≡ true → resolved_targeted a c.exprs xs ≡ true → resolved_targeted a c.expr (called x xs) ≡ true
unfolding resolved_targeted
called_part a (c.read e k) xs h i = and_from _ _ h i
called_part a x xs h i = and_from _ _ h i

target_part : (a : Around) (x : c.Tree c.expr) → resolved_targeted a c.expr x ≡ true → IfSome (target_of x) (λ y. resolved_targeted a c.target y ≡ true)
unfolding resolved_targeted
target_part a (c.name x) h = refl
target_part a (c.read e k) h = h
target_part a x h = tt

operator_part : (a : Around) (op : UnOp) (x : c.Tree c.expr) → resolved_targeted a c.expr x ≡ true → IfSome (unary_of op x) (λ y. resolved_targeted a c.expr y ≡ true)
unfolding resolved_targeted
operator_part a Delete (c.read e k) h = h
operator_part a Delete x h = tt
operator_part a op x h = h

-- ---- labels

-- what stands for a loop is one
record Loops (b : Bool) (o : Option (c.Tree c.stmt)) : Type 0 where
  same : IfSome o (λ y. is_resolved_loop y ≡ b)

loop_one : {s : c.Sort} {b : Bool} (o : Option (c.Tree s)) (f : c.Tree s → c.Tree c.stmt) → ((x : c.Tree s) → is_resolved_loop (f x) ≡ b) → Loops b (one f o)
loop_one None f g = record { same = tt }
loop_one (Some x) f g = record { same = g x }

loop_two : {s r : c.Sort} {b : Bool} (o : Option (c.Tree s)) (u : Option (c.Tree r)) (f : c.Tree s → c.Tree r → c.Tree c.stmt) → ((x : c.Tree s) (y : c.Tree r) → is_resolved_loop (f x y) ≡ b) → Loops b (both f o u)
loop_two None u f g = record { same = tt }
loop_two (Some x) None f g = record { same = tt }
loop_two (Some x) (Some y) f g = record { same = g x y }

loop_three : {s r q : c.Sort} {b : Bool} (o : Option (c.Tree s)) (u : Option (c.Tree r)) (v : Option (c.Tree q)) (f : c.Tree s → c.Tree r → c.Tree q → c.Tree c.stmt) → ((x : c.Tree s) (y : c.Tree r) (z : c.Tree q) → is_resolved_loop (f x y z) ≡ b)
    → Loops b (three f o u v)
loop_three None u v f g = record { same = tt }
loop_three (Some x) None v f g = record { same = tt }
loop_three (Some x) (Some y) None f g = record { same = tt }
loop_three (Some x) (Some y) (Some z) f g = record { same = g x y z }

loop_four : {s r q w : c.Sort} {b : Bool} (o : Option (c.Tree s)) (u : Option (c.Tree r)) (v : Option (c.Tree q)) (k : Option (c.Tree w)) (f : c.Tree s → c.Tree r → c.Tree q → c.Tree w → c.Tree c.stmt)
    → ((x : c.Tree s) (y : c.Tree r) (z : c.Tree q) (n : c.Tree w) → is_resolved_loop (f x y z n) ≡ b) → Loops b (four f o u v k)
loop_four None u v k f g = record { same = tt }
loop_four (Some x) None v k f g = record { same = tt }
loop_four (Some x) (Some y) None k f g = record { same = tt }
loop_four (Some x) (Some y) (Some z) None f g = record { same = tt }
loop_four (Some x) (Some y) (Some z) (Some w) f g = record { same = g x y z w }

loop_label : {b : Bool} {o : Option (c.Tree c.stmt)} (l : List ℕ) → Loops b o → Loops b (one (c.label l) o)
loop_label {o = None} l h = record { same = tt }
loop_label {o = Some x} l h = record { same = h.same }

loops : (x : Placed t.stmt) → Loops (is_loop (plain t.stmt x)) (resolved t.stmt x)
unfolding resolved
loops (p.block ss) = loop_one (resolved t.stmts ss) c.block (λ x. refl)
loops (p.var is) = loop_one (resolved t.items is) c.var (λ x. refl)
loops p.empty = record { same = refl }
loops (p.expression e) = loop_one (resolved t.expr e) c.expression (λ x. refl)
loops (p.branch e x m) = loop_three (resolved t.expr e) (resolved t.stmt x) (resolved t.maybe_stmt m) c.branch (λ x y z. refl)
loops (p.while_loop e x) = loop_two (resolved t.expr e) (resolved t.stmt x) c.while_loop (λ x y. refl)
loops (p.do_loop x e) = loop_two (resolved t.stmt x) (resolved t.expr e) c.do_loop (λ x y. refl)
loops (p.for_loop i e m x) = loop_four (resolved t.first i) (resolved t.maybe_expr e) (resolved t.maybe_expr m) (resolved t.stmt x) c.for_loop (λ x y z w. refl)
loops (p.for_in i e x) = loop_three (resolved t.loop_target i) (resolved t.expr e) (resolved t.stmt x) c.for_in (λ x y z. refl)
loops (p.continue l at) = record { same = refl }
loops (p.break l at) = record { same = refl }
loops (p.return m at) = loop_one (resolved t.maybe_expr m) c.return (λ x. refl)
loops (p.with_object e x at) = record { same = tt }
loops (p.switch e cs) = loop_two (resolved t.expr e) (resolved t.cases cs) c.switch (λ x y. refl)
loops (p.label l x) = loop_label l.text (loops x)
loops (p.throw e) = loop_one (resolved t.expr e) c.throw (λ x. refl)
loops (p.try ss d m) = loop_three (resolved t.stmts ss) (resolved t.handler d) (resolved t.maybe_block m) c.try (λ x y z. refl)
loops (p.declare f) = record { same = refl }

-- ---- jumps, labels and bodies

same_text : (l : Option Word) → plain_name l ≡ text_of l
same_text None = refl
same_text (Some l) = refl

return_part : {b : Bool} {o : Option (c.Tree c.maybe_expr)} (a : Around) → Aims a c.maybe_expr b o → Aims a c.stmt (has_function a && b) (one c.return o)
unfolding resolved_targeted
return_part {o = None} a h = record { holds = λ i. tt }
return_part {b = b} {o = Some x} a h = record { holds = λ i. let k = and_parts (has_function a) b i in and_from _ _ k.0 (h.holds k.1) }

label_part : (a : Around) (l : List ℕ) (b d : Bool) (o : Option (c.Tree c.stmt)) → Loops b o → Aims (in_label l b a) c.stmt d o → Aims a c.stmt (not (has_label a l) && d) (one (c.label l) o)
unfolding resolved_targeted
label_part a l b d None h i = record { holds = λ j. tt }
label_part a l b d (Some x) h i =
    record { holds = λ j. let k = and_parts (not (has_label a l)) d j in and_from _ _ k.0 (subst (λ e. resolved_targeted (in_label l e a) c.stmt x ≡ true) (sym h.same) (i.holds k.1)) }

-- what stands in front of a part has no say in it, or both are of one tree
behind_part : {a : Around} {s : c.Sort} (b d : Bool) {o : Option (c.Tree s)} → Aims a s d o → Aims a s (b && d) o
behind_part b d h = record { holds = λ i. h.holds (and_parts b d i).1 }

of_one : {a : Around} {s : c.Sort} (b : Bool) {o : Option (c.Tree s)} → Aims a s (b && b) o → Aims a s b o
of_one b h = record { holds = λ i. h.holds (and_from b b i i) }

-- ---- each form

abbrev T : Around → (s : t.Sort) → Placed s → Bool
T a s x = targeted a s (plain s x)

mutual
  unfolding resolved targeted resolved_targeted

  aims : (a : Around) (s : t.Sort) (x : Placed s) → Aims a (of_sort s) (T a s x) (resolved s x)
  aims a _ (p.this at) = no_form true
  aims a _ p.null = form true c.null (λ h. refl)
  aims a _ (p.bool b) = form true (c.bool b) (λ h. refl)
  aims a _ (p.num n) = form true (c.num n) (λ h. refl)
  aims a _ (p.text us) = form true (c.text us) (λ h. refl)
  aims a _ (p.name x) = form true (name_or_arguments x.text) (λ h. name_part a x.text)
  aims a _ (p.array xs) = one_part c.array (λ x h. h) (aims a t.exprs xs)
  aims a _ (p.object fs) = one_part c.record_of (λ x h. h) (aims a t.fields fs)
  aims a _ (p.function f) = one_part c.function (λ x h. h) (aims a t.func f)
  aims a _ (p.dot e k) = one_part (λ y. c.read y (c.fixed k.text)) (λ x h. and_from _ _ h refl) (aims a t.expr e)
  aims a _ (p.index e f) = two_parts (λ y z. c.read y (c.computed z)) (λ x y h i. and_from _ _ h i) (aims a t.expr e) (aims a t.expr f)
  aims a _ (p.call e es) = two_parts called (called_part a) (aims a t.expr e) (aims a t.exprs es)
  aims a _ (p.new e es) = two_parts c.new (λ x y h i. and_from _ _ h i) (aims a t.expr e) (aims a t.exprs es)
  aims a _ (p.unary op e at) = from_part (unary_of op) (operator_part a op) (aims a t.expr e)
  aims a _ (p.step up before e) = one_part (c.step up before) (λ x h. h) (from_part target_of (target_part a) (aims a t.expr e))
  aims a _ (p.binary op e f) = two_parts (c.binary op) (λ x y h i. and_from _ _ h i) (aims a t.expr e) (aims a t.expr f)
  aims a _ (p.and e f) = two_parts c.and (λ x y h i. and_from _ _ h i) (aims a t.expr e) (aims a t.expr f)
  aims a _ (p.or e f) = two_parts c.or (λ x y h i. and_from _ _ h i) (aims a t.expr e) (aims a t.expr f)
  aims a _ (p.choice e f g) = three_parts c.choice (λ x y z h i j. and_from _ _ (and_from _ _ h i) j) (aims a t.expr e) (aims a t.expr f) (aims a t.expr g)
  aims a _ (p.assign op e f) = two_parts (c.assign op) (λ x y h i. and_from _ _ h i) (from_part target_of (target_part a) (aims a t.expr e)) (aims a t.expr f)
  aims a _ (p.comma e f) = two_parts c.comma (λ x y h i. and_from _ _ h i) (aims a t.expr e) (aims a t.expr f)
  aims a _ p.no_exprs = form true c.no_exprs (λ h. refl)
  aims a _ (p.more_exprs e es) = two_parts c.more_exprs (λ x y h i. and_from _ _ h i) (aims a t.expr e) (aims a t.exprs es)
  aims a _ p.no_fields = form true c.no_fields (λ h. refl)
  aims a _ (p.more_fields k e fs) = two_parts (c.more_fields k.text) (λ x y h i. and_from _ _ h i) (aims a t.expr e) (aims a t.fields fs)
  aims a _ p.no_expr = form true c.no_expr (λ h. refl)
  aims a _ (p.some_expr e) = one_part c.some_expr (λ x h. h) (aims a t.expr e)
  aims a _ (p.block ss) = one_part c.block (λ x h. h) (aims a t.stmts ss)
  aims a _ (p.var is) = one_part c.var (λ x h. h) (aims a t.items is)
  aims a _ p.empty = form true c.empty (λ h. refl)
  aims a _ (p.expression e) = one_part c.expression (λ x h. h) (aims a t.expr e)
  aims a _ (p.branch e x m) = three_parts c.branch (λ u v w h i j. and_from _ _ (and_from _ _ h i) j) (aims a t.expr e) (aims a t.stmt x) (aims a t.maybe_stmt m)
  aims a _ (p.while_loop e x) = two_parts c.while_loop (λ u v h i. and_from _ _ h i) (aims a t.expr e) (aims (in_loop a) t.stmt x)
  aims a _ (p.do_loop x e) = two_parts c.do_loop (λ u v h i. and_from _ _ h i) (aims (in_loop a) t.stmt x) (aims a t.expr e)
  aims a _ (p.for_loop i e m x) =
      four_parts c.for_loop (λ u v w z h k j l. and_from _ _ (and_from _ _ (and_from _ _ h k) j) l) (aims a t.first i) (aims a t.maybe_expr e) (aims a t.maybe_expr m) (aims (in_loop a) t.stmt x)
  aims a _ (p.for_in i e x) = three_parts c.for_in (λ u v w h k j. and_from _ _ (and_from _ _ h k) j) (aims a t.loop_target i) (aims a t.expr e) (aims (in_loop a) t.stmt x)
  aims a _ (p.continue l at) = form (continues a (plain_name l)) (c.continue (text_of l)) (λ h. ap (continues a) (sym (same_text l)) ∙ h)
  aims a _ (p.break l at) = form (breaks a (plain_name l)) (c.break (text_of l)) (λ h. ap (breaks a) (sym (same_text l)) ∙ h)
  aims a _ (p.return m at) = return_part a (aims a t.maybe_expr m)
  aims a _ (p.with_object e x at) = no_form (T a t.expr e && T a t.stmt x)
  aims a _ (p.switch e cs) = two_parts c.switch (λ u v h i. and_from _ _ h i) (aims a t.expr e) (aims (in_switch a) t.cases cs)
  aims a _ (p.label l x) = label_part a l.text (is_loop (plain t.stmt x)) _ (resolved t.stmt x) (loops x) (aims (in_label l.text (is_loop (plain t.stmt x)) a) t.stmt x)
  aims a _ (p.throw e) = one_part c.throw (λ x h. h) (aims a t.expr e)
  aims a _ (p.try ss d m) = three_parts c.try (λ u v w h i j. and_from _ _ (and_from _ _ h i) j) (aims a t.stmts ss) (aims a t.handler d) (aims a t.maybe_block m)
  aims a _ (p.declare f) = form (T a t.func f) c.empty (λ h. refl)
  aims a _ p.no_stmts = form true c.no_stmts (λ h. refl)
  aims a _ (p.more_stmts (p.declare f) ss) = behind_part (T a t.func f) (T a t.stmts ss) (aims a t.stmts ss)
  aims a _ (p.more_stmts x ss) = two_parts c.more_stmts (λ u v h i. and_from _ _ h i) (aims a t.stmt x) (aims a t.stmts ss)
  aims a _ p.no_items = form true c.no_items (λ h. refl)
  aims a _ (p.more_items x m is) = two_parts (c.more_items x.text) (λ u v h i. and_from _ _ h i) (aims a t.maybe_expr m) (aims a t.items is)
  aims a _ p.no_stmt = form true c.no_stmt (λ h. refl)
  aims a _ (p.some_stmt x) = one_part c.some_stmt (λ y h. h) (aims a t.stmt x)
  aims a _ p.no_block = form true c.no_block (λ h. refl)
  aims a _ (p.some_block ss) = one_part c.some_block (λ y h. h) (aims a t.stmts ss)
  aims a _ p.no_first = form true c.no_first (λ h. refl)
  aims a _ (p.first_var is) = one_part c.first_var (λ y h. h) (aims a t.items is)
  aims a _ (p.first_expr e) = one_part c.first_expr (λ y h. h) (aims a t.expr e)
  aims a _ (p.loop_var x) = form true (c.variable x.text) (λ h. refl)
  aims a _ (p.loop_expr e) = from_part target_of (target_part a) (aims a t.expr e)
  aims a _ p.no_cases = form true c.no_cases (λ h. refl)
  aims a _ (p.more_cases m ss cs) = three_parts c.more_cases (λ u v w h i j. and_from _ _ (and_from _ _ h i) j) (aims a t.maybe_expr m) (aims a t.stmts ss) (aims a t.cases cs)
  aims a _ p.no_handler = form true c.no_handler (λ h. refl)
  aims a _ (p.some_handler x ss) = one_part (c.some_handler x.text) (λ y h. h) (aims a t.stmts ss)
  aims a _ (p.fun name ps body at) =
      of_one (T in_function t.stmts body) (two_parts (λ fs ss. c.fun (text_of name) (texts_of ps) (names_arguments t.stmts body) (c.a_body fs (vars_of body) ss)) (λ u v h i. and_from _ _ h i) (functions in_function body) (aims in_function t.stmts body))
  aims a _ (p.script ss) = no_form (T in_program t.stmts ss)

  functions : (a : Around) (ss : Placed t.stmts) → Aims a c.funcs (T a t.stmts ss) (declared_functions ss)
  functions a p.no_stmts = form true c.no_funcs (λ h. refl)
  functions a (p.more_stmts (p.declare f) ss) = two_parts c.more_funcs (λ u v h i. and_from _ _ h i) (aims a t.func f) (functions a ss)
  functions a (p.more_stmts x ss) = behind_part (T a t.stmt x) (T a t.stmts ss) (functions a ss)

-- ---- modules

of_body : (xs vs : List (List ℕ)) (b : Bool) (o : Option (c.Tree c.funcs)) (r : Option (c.Tree c.stmts)) → Aims in_program c.funcs b o → Aims in_program c.stmts b r → b ≡ true
    → IfSome (one (c.a_module xs) (both (λ fs ss. c.a_body fs vs ss) o r)) (λ m. resolved_targeted in_program c.program m ≡ true)
unfolding resolved_targeted
of_body xs vs b None r h i e = tt
of_body xs vs b (Some fs) None h i e = tt
of_body xs vs b (Some fs) (Some ss) h i e = and_from _ _ (h.holds e) (i.holds e)

pub module_targeted : (grants : List (List ℕ)) (body : Placed t.stmts) (m : c.Tree c.program) → module_of grants body ≡ Some m → targeted in_program t.stmts (plain t.stmts body) ≡ true → resolved_targeted in_program c.program m ≡ true
module_targeted grants body m is h =
    subst (λ o. IfSome o (λ q. resolved_targeted in_program c.program q ≡ true)) is
    (of_body (imports_of grants body) (vars_of body) (T in_program t.stmts body) (declared_functions body) (resolved t.stmts body) (functions in_program body) (aims in_program t.stmts body) h)

-- ---- a program without faults

none_mapped : (ms : List Misplaced) → map bad_label ms ≡ [] → ms ≡ []
none_mapped [] e = refl
none_mapped (m ∷ ms) e = absurd cc

unbroken : (grants : List (List ℕ)) (body : Placed t.stmts) → first (faults grants body) ≡ None → targeted in_program t.stmts (plain t.stmts body) ≡ true
unbroken grants body e =
    let misplaced_none = none_mapped (misplaced in_program t.stmts body) (no_back (redeclared [] (declarations t.stmts body) ++ faults_in (module_scope grants body) t.stmts body) _ (none_at_all (all_faults grants body) e)) in
    (none_where_targeted in_program t.stmts body).0 misplaced_none

pub module_jumps : (grants : List (List ℕ)) (body : Placed t.stmts) (m : c.Tree c.program) → first (faults grants body) ≡ None → module_of grants body ≡ Some m → resolved_targeted in_program c.program m ≡ true
module_jumps grants body m e is = module_targeted grants body m is (unbroken grants body e)

pub cajoled_jumps : (grants : List (List ℕ)) (body : Placed t.stmts) (m : c.Tree c.program) → first (faults grants body) ≡ None → module_of grants body ≡ Some m → targeted in_program t.program (program_of m) ≡ true
cajoled_jumps grants body m e is = program_targeted m (module_jumps grants body m e is)
