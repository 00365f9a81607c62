-- Each form by which a name or a member is written to, and the other operators between two parts (ES3 11.3.1, 11.4.4, 11.5 to 11.11, 11.13, 11.14).
use Rattle.std.proofs.Common.{◌≡◌, ℕ, ◌+◌, ◌≤◌, Bool, true, false, None, Some, refl, arith, if◌then◌else◌}
use Rattle.es3_tree.specs.Tree as t
use Rattle.es3_tree.specs.Placed as p
use Rattle.es3_tree.specs.Placed.{Placed, Word}
use Rattle.es3_tree.specs.declared.BinOp.{BinOp}
use Rattle.es3_grammar.specs.Levels.{Join, an_op, an_and, an_or, an_assign, a_comma, joined, takes_left, is_target}
use Rattle.es3_grammar.specs.Grammar.{free}
use Rattle.cajita_names.specs.Scope.{Scope}
use Rattle.valija_forms.specs.Numbered.{plain, one, both, three}
use Rattle.valija_forms.specs.Forms.{text_of, kept, holds, holds_key, stepped_before, stepped_behind, compounded}
use Rattle.valija_parts.specs.Names.{is_known, stepped_name, name_takes}
use Rattle.valija_parts.specs.Lower.{lowered, written}
use Rattle.valija_spelled.proofs.Pieces.{Ex, fewer, a_text, Sign, a_join}
use Rattle.valija_spelled.proofs.Asks.{a_kept, is_set, a_lowered_binary, is_held, key_held, is_stepped_before, is_stepped_behind, is_compounded, is_written, is_operated, is_stepped}
use Rattle.valija_spelled.proofs.Low.{Lows, plain_low, one_low, both_low, three_low, taking_low, Exp}
use Rattle.valija_spelled.proofs.Expressions.{roomy, Place, Whole}

-- ---- `++` and `--`

takes_one : (s : Scope) (first : Bool) (x : Word) → name_takes s first x ≤ 1
takes_one s first x = by (is_known s x) first
  where
    by : (b d : Bool) → (if b then 0 else if d then 0 else 1) ≤ 1
    by true d = omega arith
    by false true = omega arith
    by false false = omega arith

pub step_form : (up first : Bool) (x : Placed t.expr) (m : ℕ) → is_target x ≡ true → Whole x m → Exp (p.step up first x) (m + 64)
unfolding lowered
step_form up first (p.name x) m h q c =
    roomy (taking_low (name_takes c first x) (λ a. plain (stepped_name c up first a x)) (λ a. plain_low (is_stepped c up first a x q.place))) (omega (arith, takes_one c first x))
step_form up true (p.dot e k) m h q c =
    let at = q.place in
    roomy
    (taking_low 1 (λ a. one (λ o. stepped_before up (holds a o) (kept a) (text_of k)) (lowered c t.expr e))
    (λ a. one_low 64 (λ x i r. fewer (is_stepped_before up (is_held a r) (a_kept a) (a_text k.text at.key)) (omega arith)) (at.object c)))
    (omega (arith, at.room))
step_form up false (p.dot e k) m h q c =
    let at = q.place in
    roomy
    (taking_low 2 (λ a. one (λ o. stepped_behind up (a + 1) (holds a o) (kept a) (text_of k)) (lowered c t.expr e))
    (λ a. one_low 96 (λ x i r. fewer (is_stepped_behind up (a + 1) (is_held a r) (a_kept a) (a_text k.text at.key)) (omega arith)) (at.object c)))
    (omega (arith, at.room))
step_form up true (p.index e f) m h q c =
    let at = q.place in
    roomy
    (taking_low 2 (λ a. both (λ o k. stepped_before up (holds_key a (a + 1) o k) (kept a) (kept (a + 1))) (lowered c t.expr e) (lowered c t.expr f))
    (λ a. both_low 96 (λ x y i j r s. fewer (is_stepped_before up (key_held a (a + 1) r s) (a_kept a) (a_kept (a + 1))) (omega arith)) (at.object c) (at.key c)))
    (omega (arith, at.room))
step_form up false (p.index e f) m h q c =
    let at = q.place in
    roomy
    (taking_low 3 (λ a. both (λ o k. stepped_behind up (a + 2) (holds_key a (a + 1) o k) (kept a) (kept (a + 1))) (lowered c t.expr e) (lowered c t.expr f))
    (λ a. both_low 96 (λ x y i j r s. fewer (is_stepped_behind up (a + 2) (key_held a (a + 1) r s) (a_kept a) (a_kept (a + 1))) (omega arith)) (at.object c) (at.key c)))
    (omega (arith, at.room))
step_form up first x m h q c = absurd cc

-- ---- assignments

assign_form : (x y : Placed t.expr) (m n : ℕ) → is_target x ≡ true → Whole x m → Whole y n → Exp (p.assign None x y) (m + n + 64)
unfolding lowered
assign_form (p.name x) y m n h q r c = roomy (one_low 64 (λ v k s. fewer (is_written c x q.place s) (omega arith)) (r.low c)) (omega arith)
assign_form (p.dot e k) y m n h q r c =
    let at = q.place in
    roomy (both_low 64 (λ o v i j a b. fewer (is_set a (a_text k.text at.key) b) (omega arith)) (at.object c) (r.low c)) (omega (arith, at.room))
assign_form (p.index e f) y m n h q r c =
    let at = q.place in
    roomy (three_low 64 (λ o k v i j z a b d. fewer (is_set a b d) (omega arith)) (at.object c) (at.key c) (r.low c)) (omega (arith, at.room))
assign_form x y m n h q r c = absurd cc

operate_form : (op : BinOp) (x y : Placed t.expr) (m n : ℕ) → Sign (an_assign (Some op)) → is_target x ≡ true → Whole x m → Whole y n → Exp (p.assign (Some op) x y) (m + n + 64)
unfolding lowered
operate_form op (p.name x) y m n sign h q r c = roomy (one_low 64 (λ v k s. fewer (is_operated c op x sign q.place s) (omega arith)) (r.low c)) (omega arith)
operate_form op (p.dot e k) y m n sign h q r c =
    let at = q.place in
    roomy
    (taking_low 1 (λ a. both (λ o x. compounded op (holds a o) (kept a) (text_of k) x) (lowered c t.expr e) (lowered c t.expr y))
    (λ a. both_low 64 (λ o v i j s z. fewer (is_compounded op (is_held a s) (a_kept a) (a_text k.text at.key) z) (omega arith)) (at.object c) (r.low c)))
    (omega (arith, at.room))
operate_form op (p.index e f) y m n sign h q r c =
    let at = q.place in
    roomy
    (taking_low 2 (λ a. three (λ o k x. compounded op (holds_key a (a + 1) o k) (kept a) (kept (a + 1)) x) (lowered c t.expr e) (lowered c t.expr f) (lowered c t.expr y))
    (λ a. three_low 64 (λ o k v i j z s w d. fewer (is_compounded op (key_held a (a + 1) s w) (a_kept a) (a_kept (a + 1)) d) (omega arith)) (at.object c) (at.key c) (r.low c)))
    (omega (arith, at.room))
operate_form op x y m n sign h q r c = absurd cc

-- ---- an operator between two parts

pub join_form : (j : Join) (x y : Placed t.expr) (m n : ℕ) → Sign j → takes_left j x ≡ true → Whole x m → Whole y n → Exp (joined j x y) (m + n + 64)
unfolding lowered
join_form (an_op op) x y m n sign h q r c = both_low 64 (λ o v i j a b. fewer (a_lowered_binary op a b) (omega arith)) (q.low c) (r.low c)
join_form an_and x y m n sign h q r c = both_low 64 (λ o v i j a b. fewer (a_join sign refl a b) (omega arith)) (q.low c) (r.low c)
join_form an_or x y m n sign h q r c = both_low 64 (λ o v i j a b. fewer (a_join sign refl a b) (omega arith)) (q.low c) (r.low c)
join_form (an_assign None) x y m n sign h q r c = assign_form x y m n h q r c
join_form (an_assign (Some op)) x y m n sign h q r c = operate_form op x y m n sign h q r c
join_form a_comma x y m n sign h q r c = both_low 64 (λ o v i j a b. fewer (a_join sign refl a b) (omega arith)) (q.low c) (r.low c)

-- it is no name and no member
pub join_place : (j : Join) (x y : Placed t.expr) (m : ℕ) → Place (joined j x y) m
join_place (an_op op) x y m = tt
join_place an_and x y m = tt
join_place an_or x y m = tt
join_place (an_assign op) x y m = tt
join_place a_comma x y m = tt

-- ---- the value for what the head of a `for` .. `in` names

pub loop_expr_form : (x : Placed t.expr) (m : ℕ) → is_target x ≡ true → Whole x m → (c : Scope) (v : Placed t.expr) (k : ℕ) → Ex v k → Lows t.expr free 0 0 (written c (p.loop_expr x) v) (m + k + 64)
unfolding written
loop_expr_form (p.name x) m h q c v k val = roomy (plain_low (is_written c x q.place val)) (omega arith)
loop_expr_form (p.dot e f) m h q c v k val =
    let at = q.place in
    roomy (one_low (k + 64) (λ o i a. fewer (is_set a (a_text f.text at.key) val) (omega arith)) (at.object c)) (omega (arith, at.room))
loop_expr_form (p.index e f) m h q c v k val =
    let at = q.place in
    roomy (both_low (k + 64) (λ o y i j a b. fewer (is_set a b val) (omega arith)) (at.object c) (at.key c)) (omega (arith, at.room))
loop_expr_form x m h q c v k val = absurd cc

pub loop_var_form : (x : Word) → Whole (p.name x) 48 → (c : Scope) (v : Placed t.expr) (k : ℕ) → Ex v k → Lows t.expr free 0 0 (written c (p.loop_var x) v) (k + 64)
unfolding written
loop_var_form x q c v k val = roomy (plain_low (is_written c x q.place val)) (omega arith)
