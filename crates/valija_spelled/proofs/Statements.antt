-- Each form of a statement: how what it is lowered to is spelled where its parts are. It ends in an `if` without `else` only where the statement of the source does.
use Rattle.std.proofs.Common.{◌≡◌, ℕ, ◌+◌, true, false, [], ◌++◌, length, Option, refl, ap, ◌∙◌, arith, length-append}
use Rattle.std.specs.Prelude.{not}
use Rattle.es3_tree.specs.Tree as t
use Rattle.es3_tree.specs.Placed as p
use Rattle.es3_tree.specs.Placed.{Placed, Word}
use Rattle.es3_tree.specs.Token.{name}
use Rattle.es3_tokens.specs.Back.{IsToken}
use Rattle.es3_grammar.specs.Levels.{is_target}
use Rattle.es3_grammar.specs.Grammar.{Bars, free, no_in, is_open, has_default, one_default}
use Rattle.cajita_names.specs.Declarations.{declarations}
use Rattle.cajita_names.specs.Scope.{Scope, in_catch}
use Rattle.valija_forms.specs.Numbered.{Numbered, one, both, three, four}
use Rattle.valija_forms.specs.Forms.{word, key_now, over_keys}
use Rattle.valija_parts.specs.Lower.{lowered, written}
use Rattle.valija_spelled.proofs.Pieces.{Ex}
use Rattle.valija_spelled.proofs.Asks.{AName, key_at}
use Rattle.valija_spelled.proofs.Lines.{IsMaybeName, one_item, more_items, a_var, a_block, an_empty, a_statement, an_if, an_else, a_while, a_do, no_first, first_var, first_expr, a_for, keys_walked, a_continue, a_break, a_return, a_with, a_label, a_throw, no_cases, a_case, a_default, a_switch, a_catch, a_finally, a_catch_finally}
use Rattle.valija_spelled.proofs.Low.{Lows, recount, plain_low, one_low, both_low, three_low, four_low, taking_low, Maybe}
use Rattle.valija_spelled.proofs.Heads.{AreDeclared, both_declared}
use Rattle.valija_spelled.proofs.Expressions.{Whole, name_form}
use Rattle.valija_spelled.proofs.Assignments.{loop_expr_form, loop_var_form}
use Rattle.valija_spelled.proofs.Functions.{Lines, in_a_block}

-- ---- parts that declare

pub record Stmt (x : Placed t.stmt) (m : ℕ) : Type 0 where
  pub declared : AreDeclared (declarations t.stmt x)
  pub low : (c : Scope) → Lows t.stmt free 0 (length (declarations t.stmt x)) (lowered c t.stmt x) m
  pub closed : (c : Scope) (n : ℕ) → is_open x ≡ false → is_open (lowered c t.stmt x n).0 ≡ false

pub record Items (b : Bars) (x : Placed t.items) (m : ℕ) : Type 0 where
  pub declared : AreDeclared (declarations t.items x)
  pub low : (c : Scope) → Lows t.items b 0 (length (declarations t.items x)) (lowered c t.items x) m

pub record First (x : Placed t.first) (m : ℕ) : Type 0 where
  pub declared : AreDeclared (declarations t.first x)
  pub low : (c : Scope) → Lows t.first no_in 0 (length (declarations t.first x)) (lowered c t.first x) m

pub record Cases (x : Placed t.cases) (m : ℕ) : Type 0 where
  pub declared : AreDeclared (declarations t.cases x)
  pub low : (c : Scope) → Lows t.cases free 0 (length (declarations t.cases x)) (lowered c t.cases x) m
  pub has : (c : Scope) (n : ℕ) → has_default (lowered c t.cases x n).0 ≡ has_default x
  pub one : (c : Scope) (n : ℕ) → one_default (lowered c t.cases x n).0 ≡ one_default x

pub record Target (x : Placed t.loop_target) (m : ℕ) : Type 0 where
  pub declared : AreDeclared (declarations t.loop_target x)
  pub low : (c : Scope) (v : Placed t.expr) (k : ℕ) → Ex v k → Lows t.expr free 0 (length (declarations t.loop_target x)) (written c x v) (m + k)

-- a name that is declared counts as four tokens
declaring : {s : t.Sort} {b : Bars} {l d m : ℕ} {a : Numbered (Placed s)} → Lows s b l d a m → Lows s b l (d + 1) a (m + 4)
declaring q = record { low = λ n. let r = q.low n in let f = r.few in record { count = r.count; spelt = r.spelt; few = omega (arith, f) } }

-- ---- variables (12.2)

pub one_item_form : (b : Bars) (x : Word) (e : Placed t.maybe_expr) (m : ℕ) → IsToken (name x.text) → Maybe b 1 e m → Items b (p.more_items x e p.no_items) (m + 5)
unfolding lowered declarations one both
one_item_form b x e m i q = record {
  declared = (i, tt);
  low = λ c. recount (declaring (one_low {f = λ y. p.more_items (word x.text) y p.no_items} 1 (λ y k r. one_item x.text i r) (q c))) (omega arith) (omega arith);
}

pub more_items_form : (b : Bars) (x : Word) (e : Placed t.maybe_expr) (is : Placed t.items) (m n : ℕ) → IsToken (name x.text) → Maybe b 1 e m → Items b is n → Items b (p.more_items x e is) (m + n + 6)
unfolding lowered declarations
more_items_form b x e is m n i q r = record {
  declared = (i, r.declared);
  low = λ c. recount (declaring (both_low 2 (λ y z k j a d. more_items x.text i a d) (q c) (r.low c))) (omega arith) (omega arith);
}

-- ---- 12.1 to 12.5

pub block_form : (ss : Placed t.stmts) (m : ℕ) → Lines ss m → Stmt (p.block ss) (m + 2)
unfolding lowered declarations one
block_form ss m q = record { declared = q.declared; low = λ c. one_low 2 (λ x k r. a_block r) (in_a_block ss q c); closed = λ c n h. refl }

pub var_form : (is : Placed t.items) (m : ℕ) → Items free is m → Stmt (p.var is) (m + 2)
unfolding lowered declarations one
var_form is m q = record { declared = q.declared; low = λ c. one_low 2 (λ x k r. a_var r) (q.low c); closed = λ c n h. refl }

pub empty_form : Stmt p.empty 1
unfolding lowered declarations
empty_form = record { declared = tt; low = λ c. plain_low an_empty; closed = λ c n h. refl }

pub expression_form : (e : Placed t.expr) (m : ℕ) → Whole e m → Stmt (p.expression e) (m + 3)
unfolding lowered declarations one
expression_form e m q = record { declared = tt; low = λ c. one_low 3 (λ x k r. a_statement r) (q.low c); closed = λ c n h. refl }

pub if_form : (e : Placed t.expr) (x : Placed t.stmt) (m n : ℕ) → Whole e m → Stmt x n → Stmt (p.branch e x p.no_stmt) (m + n + 3)
unfolding lowered declarations both three
if_form e x m n q r = record {
  declared = both_declared (declarations t.stmt x) [] r.declared tt;
  low = λ c. recount (both_low {f = λ y z. p.branch y z p.no_stmt} 3 (λ y z k j a b. an_if a b) (q.low c) (r.low c)) (simp length-append (omega arith)) (omega arith);
  closed = λ c n h. absurd cc;
}

else_low : {a : Numbered (Placed t.expr)} {z x : Numbered (Placed t.stmt)} {d e m k j : ℕ} → ((n : ℕ) → is_open (z n).0 ≡ false) → Lows t.expr free 0 0 a m → Lows t.stmt free 0 d z k → Lows t.stmt free 0 e x j
    → Lows t.stmt free 0 (d + e) (three p.branch a z (one p.some_stmt x)) (m + k + j + 4)
unfolding one three
else_low {a} {z} {x} closed q r s = record {
  low = λ n.
      let f = q.low n in
      let g = r.low (a n).1 in
      let h = s.low (z (a n).1).1 in
      let f1 = f.few in
      let g1 = g.few in
      let h1 = h.few in
      record { count = f.count + g.count + h.count + 4; spelt = an_else (closed (a n).1) f.spelt g.spelt h.spelt; few = omega (arith, f1, g1, h1) };
}

pub else_form : (e : Placed t.expr) (x y : Placed t.stmt) (m n k : ℕ) → is_open x ≡ false → Whole e m → Stmt x n → Stmt y k → Stmt (p.branch e x (p.some_stmt y)) (m + n + k + 4)
unfolding lowered declarations one three
else_form e x y m n k shut q r s = record {
  declared = both_declared (declarations t.stmt x) (declarations t.stmt y) r.declared s.declared;
  low = λ c. recount (else_low (λ i. r.closed c i shut) (q.low c) (r.low c) (s.low c)) (simp length-append (omega arith)) (omega arith);
  closed = λ c i h. s.closed c _ h;
}

-- ---- 12.6

pub while_form : (e : Placed t.expr) (x : Placed t.stmt) (m n : ℕ) → Whole e m → Stmt x n → Stmt (p.while_loop e x) (m + n + 3)
unfolding lowered declarations both
while_form e x m n q r = record {
  declared = r.declared;
  low = λ c. recount (both_low 3 (λ y z k j a b. a_while a b) (q.low c) (r.low c)) (omega arith) (omega arith);
  closed = λ c i h. r.closed c _ h;
}

pub do_form : (x : Placed t.stmt) (e : Placed t.expr) (m n : ℕ) → Stmt x m → Whole e n → Stmt (p.do_loop x e) (m + n + 5)
unfolding lowered declarations both
do_form x e m n q r = record {
  declared = q.declared;
  low = λ c. recount (both_low 5 (λ y z k j a b. a_do a b) (q.low c) (r.low c)) (omega arith) (omega arith);
  closed = λ c i h. refl;
}

pub no_first_form : First p.no_first 0
unfolding lowered declarations
no_first_form = record { declared = tt; low = λ c. plain_low no_first }

pub first_var_form : (is : Placed t.items) (m : ℕ) → Items no_in is m → First (p.first_var is) (m + 1)
unfolding lowered declarations
first_var_form is m q = record { declared = q.declared; low = λ c. one_low 1 (λ x k r. first_var r) (q.low c) }

pub first_expr_form : (e : Placed t.expr) (m : ℕ) → Whole e m → First (p.first_expr e) (m + 2)
unfolding lowered declarations
first_expr_form e m q = record { declared = tt; low = λ c. one_low 2 (λ x k r. first_expr r) (q.low c) }

pub for_form : (i : Placed t.first) (e f : Placed t.maybe_expr) (x : Placed t.stmt) (m n k o : ℕ) → First i m → Maybe free 0 e n → Maybe free 0 f k → Stmt x o → Stmt (p.for_loop i e f x) (m + n + k + o + 5)
unfolding lowered declarations four
for_form i e f x m n k o q r s u = record {
  declared = both_declared (declarations t.first i) (declarations t.stmt x) q.declared u.declared;
  low = λ c. recount (four_low 5 (λ y z v w k1 k2 k3 k4 a b d g. a_for a b d g) (q.low c) (r c) (s c) (u.low c)) (simp length-append (omega arith)) (omega arith);
  closed = λ c j h. u.closed c _ h;
}

pub target_var_form : (x : Word) → AName x → Target (p.loop_var x) 68
unfolding declarations
target_var_form x i = record { declared = (i.named, tt); low = λ c v k val. recount (declaring (loop_var_form x (name_form x i) c v k val)) (omega arith) (omega arith) }

pub target_expr_form : (x : Placed t.expr) (m : ℕ) → is_target x ≡ true → Whole x m → Target (p.loop_expr x) (m + 64)
unfolding declarations
target_expr_form x m h q = record { declared = tt; low = λ c v k val. recount (loop_expr_form x m h q c v k val) (omega arith) (omega arith) }

pub for_in_form : (i : Placed t.loop_target) (e : Placed t.expr) (x : Placed t.stmt) (m n k : ℕ) → Target i m → Whole e n → Stmt x k → Stmt (p.for_in i e x) (m + n + k + 105)
unfolding lowered declarations three
for_in_form i e x m n k q r s = record {
  declared = both_declared (declarations t.loop_target i) (declarations t.stmt x) q.declared s.declared;
  low = λ c.
      recount
      (taking_low 3 (λ a. three (over_keys a (a + 1) (a + 2)) (written c i (key_now a)) (lowered c t.expr e) (lowered c t.stmt x))
      (λ a. three_low 87 (λ w y z k1 k2 k3 d f g. keys_walked a (a + 1) (a + 2) d f g) (q.low c (key_now a) 6 (key_at a)) (r.low c) (s.low c)))
      (simp length-append (omega arith)) (omega arith);
  closed = λ c j h. refl;
}

-- ---- 12.7 to 12.10, 12.12, 12.13

pub continue_form : (l : Option Word) (at : ℕ) → IsMaybeName l → Stmt (p.continue l at) 3
unfolding lowered declarations
continue_form l at i = record { declared = tt; low = λ c. plain_low (a_continue l i); closed = λ c n h. refl }

pub break_form : (l : Option Word) (at : ℕ) → IsMaybeName l → Stmt (p.break l at) 3
unfolding lowered declarations
break_form l at i = record { declared = tt; low = λ c. plain_low (a_break l i); closed = λ c n h. refl }

pub return_form : (e : Placed t.maybe_expr) (at m : ℕ) → Maybe free 0 e m → Stmt (p.return e at) (m + 2)
unfolding lowered declarations one
return_form e at m q = record { declared = tt; low = λ c. one_low 2 (λ x k r. a_return r) (q c); closed = λ c n h. refl }

pub with_form : (e : Placed t.expr) (x : Placed t.stmt) (at m n : ℕ) → Whole e m → Stmt x n → Stmt (p.with_object e x at) (m + n + 3)
unfolding lowered declarations both
with_form e x at m n q r = record {
  declared = r.declared;
  low = λ c. recount (both_low 3 (λ y z k j a b. a_with a b) (q.low c) (r.low c)) (omega arith) (omega arith);
  closed = λ c i h. r.closed c _ h;
}

pub label_form : (l : Word) (x : Placed t.stmt) (m : ℕ) → IsToken (name l.text) → Stmt x m → Stmt (p.label l x) (m + 2)
unfolding lowered declarations one
label_form l x m i q = record { declared = q.declared; low = λ c. one_low 2 (λ y k r. a_label l.text i r) (q.low c); closed = λ c n h. q.closed c n h }

pub throw_form : (e : Placed t.expr) (m : ℕ) → Whole e m → Stmt (p.throw e) (m + 2)
unfolding lowered declarations one
throw_form e m q = record { declared = tt; low = λ c. one_low 2 (λ x k r. a_throw r) (q.low c); closed = λ c n h. refl }

-- ---- 12.11

pub no_cases_form : Cases p.no_cases 0
unfolding lowered declarations
no_cases_form = record { declared = tt; low = λ c. plain_low no_cases; has = λ c n. refl; one = λ c n. refl }

pub case_form : (e : Placed t.expr) (ss : Placed t.stmts) (cs : Placed t.cases) (m n k : ℕ) → Whole e m → Lines ss n → Cases cs k → Cases (p.more_cases (p.some_expr e) ss cs) (m + n + k + 2)
unfolding lowered declarations one three
case_form e ss cs m n k q r s = record {
  declared = both_declared (declarations t.stmts ss) (declarations t.cases cs) r.declared s.declared;
  low = λ c. recount (three_low {g = λ x y z. p.more_cases (p.some_expr x) y z} 2 (λ x y z k1 k2 k3 a b d. a_case a b d) (q.low c) (in_a_block ss r c) (s.low c)) (simp length-append (omega arith)) (omega arith);
  has = λ c i. s.has c _;
  one = λ c i. s.one c _;
}

pub default_form : (ss : Placed t.stmts) (cs : Placed t.cases) (n k : ℕ) → Lines ss n → Cases cs k → Cases (p.more_cases p.no_expr ss cs) (n + k + 2)
unfolding lowered declarations both three
default_form ss cs n k r s = record {
  declared = both_declared (declarations t.stmts ss) (declarations t.cases cs) r.declared s.declared;
  low = λ c. recount (both_low {f = λ y z. p.more_cases p.no_expr y z} 2 (λ y z k1 k2 a b. a_default a b) (in_a_block ss r c) (s.low c)) (simp length-append (omega arith)) (omega arith);
  has = λ c i. refl;
  one = λ c i. ap not (s.has c _);
}

switch_low : {a : Numbered (Placed t.expr)} {z : Numbered (Placed t.cases)} {d m k : ℕ} → ((n : ℕ) → one_default (z n).0 ≡ true) → Lows t.expr free 0 0 a m → Lows t.cases free 0 d z k
    → Lows t.stmt free 0 d (both p.switch a z) (m + k + 5)
unfolding both
switch_low {a} {z} single q r = record {
  low = λ n.
      let f = q.low n in
      let g = r.low (a n).1 in
      let f1 = f.few in
      let g1 = g.few in
      record { count = f.count + g.count + 5; spelt = a_switch (single (a n).1) f.spelt g.spelt; few = omega (arith, f1, g1) };
}

pub switch_form : (e : Placed t.expr) (cs : Placed t.cases) (m k : ℕ) → one_default cs ≡ true → Whole e m → Cases cs k → Stmt (p.switch e cs) (m + k + 5)
unfolding lowered declarations both
switch_form e cs m k single q r = record {
  declared = r.declared;
  low = λ c. switch_low (λ n. r.one c n ∙ single) (q.low c) (r.low c);
  closed = λ c n h. refl;
}

-- ---- 12.14

pub catch_form : (ss : Placed t.stmts) (x : Word) (hs : Placed t.stmts) (m n : ℕ) → IsToken (name x.text) → Lines ss m → Lines hs n → Stmt (p.try ss (p.some_handler x hs) p.no_block) (m + n + 9)
unfolding lowered declarations one both three
catch_form ss x hs m n i q r = record {
  declared = both_declared (declarations t.stmts ss ++ declarations t.stmts hs) [] (both_declared (declarations t.stmts ss) (declarations t.stmts hs) q.declared r.declared) tt;
  low = λ c. recount (both_low {f = λ y z. p.try y (p.some_handler (word x.text) z) p.no_block} 9 (λ y z k1 k2 a b. a_catch x.text i a b) (in_a_block ss q c) (in_a_block hs r (in_catch x.text c))) (simp length-append (omega arith)) (omega arith);
  closed = λ c n h. refl;
}

pub finally_form : (ss ls : Placed t.stmts) (m n : ℕ) → Lines ss m → Lines ls n → Stmt (p.try ss p.no_handler (p.some_block ls)) (m + n + 6)
unfolding lowered declarations one both three
finally_form ss ls m n q r = record {
  declared = both_declared (declarations t.stmts ss ++ []) (declarations t.stmts ls) (both_declared (declarations t.stmts ss) [] q.declared tt) r.declared;
  low = λ c. recount (both_low {f = λ y z. p.try y p.no_handler (p.some_block z)} 6 (λ y z k1 k2 a b. a_finally a b) (in_a_block ss q c) (in_a_block ls r c)) (simp length-append (omega arith)) (omega arith);
  closed = λ c n h. refl;
}

pub catch_finally_form : (ss : Placed t.stmts) (x : Word) (hs ls : Placed t.stmts) (m n k : ℕ) → IsToken (name x.text) → Lines ss m → Lines hs n → Lines ls k
    → Stmt (p.try ss (p.some_handler x hs) (p.some_block ls)) (m + n + k + 12)
unfolding lowered declarations one three
catch_finally_form ss x hs ls m n k i q r s = record {
  declared = both_declared (declarations t.stmts ss ++ declarations t.stmts hs) (declarations t.stmts ls) (both_declared (declarations t.stmts ss) (declarations t.stmts hs) q.declared r.declared) s.declared;
  low = λ c.
      recount
      (three_low {g = λ y z w. p.try y (p.some_handler (word x.text) z) (p.some_block w)} 12 (λ y z w k1 k2 k3 a b d. a_catch_finally x.text i a b d) (in_a_block ss q c) (in_a_block hs r (in_catch x.text c)) (in_a_block ls s c))
      (simp length-append (omega arith)) (omega arith);
  closed = λ c n h. refl;
}
