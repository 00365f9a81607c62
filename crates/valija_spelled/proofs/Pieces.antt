-- Expressions that tokens spell, each form from its parts: parentheses stand round each part, so that it may stand at any level (ES3 11).
use Rattle.std.proofs.Common.{◌≡◌, ℕ, ◌+◌, ◌≤◌, Bool, true, false, List, [], ◌∷◌, ◌++◌, length, Some, None, refl, arith, lit<, length-append}
use Rattle.std.specs.Prelude.{ℤ}
use Rattle.std.proofs.lemmas.List.Elements.{All-nil, All-cons, All-append}
use Rattle.es3_tree.specs.Tree as t
use Rattle.es3_tree.specs.Placed as p
use Rattle.es3_tree.specs.Placed.{Placed}
use Rattle.es3_tree.specs.Token.{Token, name, num, text}
use Rattle.es3_tree.specs.declared.UnOp.{UnOp}
use Rattle.es3_tree.specs.declared.UnOp.TheVariants.{Delete}
use Rattle.es3_tree.specs.declared.BinOp.{BinOp}
use Rattle.es3_tree.specs.declared.BinOp.TheVariants.{Mul}
use Rattle.es3_tokens.specs.Back.{IsToken}
use Rattle.es3_grammar.specs.Spots.{Spot, look_up, open_paren, close_paren, open_bracket, close_bracket, open_brace, close_brace, point, comma, query, colon, equals, null_word, true_word, false_word}
use Rattle.es3_grammar.specs.Levels.{Join, an_op, an_and, an_or, an_assign, a_comma, left, right, joined, takes_left, is_target, joins, infix_of, unary_sign, step_sign}
use Rattle.es3_grammar.specs.Grammar.{Bars, free, Spells, s_null, s_true, s_false, s_num, s_text, s_name, s_paren, s_array, s_object, s_dot, s_index, s_call, s_postfix, s_prefix_step, s_prefix, s_join, s_choice, s_no_exprs, s_some_exprs, s_one_expr, s_more_exprs, s_no_fields, s_some_fields, s_one_field, s_more_fields}
use Rattle.es3_printed.specs.Back.{AreTokens}
use Rattle.es3_printed.specs.Tokens.{join_sign}
use Rattle.valija_forms.specs.Forms.{word, list1, list2, list3, ask, prelude_name}

-- ---- tokens, one behind another

abbrev At : Spot → Type 0
At c = IsToken c.0

pub record Are (u : List Spot) : Type 0 where
  pub all : AreTokens u

pub nothing : Are []
nothing = record { all = All-nil At }

pub then : {c : Spot} {w : List Spot} → IsToken c.0 → Are w → Are (c ∷ w)
then {c} {w} i p = record { all = All-cons At c w i p.all }

pub before : {u w : List Spot} → Are u → Are w → Are (u ++ w)
before {u} {w} p q = record { all = All-append At u w p.all q.all }

pub within : {c : Spot} {u w : List Spot} → IsToken c.0 → Are w → Are u → Are (c ∷ (u ++ w))
within i q p = then i (before p q)

pub last : {c : Spot} → IsToken c.0 → Are (c ∷ [])
last i = then i nothing

-- ---- what some tokens spell, of which there are so many at most

pub record Spelt (s : t.Sort) (b : Bars) (l : ℕ) (x : Placed s) (most : ℕ) : Type 0 where
  pub by : List Spot
  pub are : Are by
  pub spelled : Spells s b l x by
  pub few : length by ≤ most

pub fewer : {s : t.Sort} {b : Bars} {l : ℕ} {x : Placed s} {n m : ℕ} → Spelt s b l x n → n ≤ m → Spelt s b l x m
fewer p le = record { by = p.by; are = p.are; spelled = p.spelled; few = omega (arith, p.few, le) }

-- an expression, where nothing is asked of it
abbrev pub Ex : Placed t.expr → ℕ → Type 0
Ex x m = Spelt t.expr free 0 x m

-- in parentheses it stands at each level
pub in_parens : {x : Placed t.expr} {m : ℕ} (b : Bars) (l : ℕ) → l ≤ 16 → Ex x m → Spelt t.expr b l x (m + 2)
in_parens b l le p = record {
  by = (open_paren, 0) ∷ (p.by ++ (close_paren, 0) ∷ []);
  are = within (lit< tt) (last (lit< tt)) p.are;
  spelled = s_paren b l 0 0 _ p.by le p.spelled;
  few = simp length-append (omega (arith, p.few));
}

-- ---- what has one token

pub a_null : Ex p.null 1
a_null = record { by = (null_word, 0) ∷ []; are = last (lit< tt); spelled = s_null free 0 0 (omega arith); few = omega arith }

pub a_bool : (c : Bool) → Ex (p.bool c) 1
a_bool true = record { by = (true_word, 0) ∷ []; are = last (lit< tt); spelled = s_true free 0 0 (omega arith); few = omega arith }
a_bool false = record { by = (false_word, 0) ∷ []; are = last (lit< tt); spelled = s_false free 0 0 (omega arith); few = omega arith }

pub a_num : (n : ℤ) → IsToken (num n) → Ex (p.num n) 1
a_num n i = record { by = (num n, 0) ∷ []; are = last i; spelled = s_num free 0 0 n (omega arith); few = omega arith }

pub a_text : (us : List ℕ) → IsToken (text us) → Ex (p.text us) 1
a_text us i = record { by = (text us, 0) ∷ []; are = last i; spelled = s_text free 0 0 us (omega arith); few = omega arith }

pub a_name : (us : List ℕ) → IsToken (name us) → Ex (p.name (word us)) 1
a_name us i = record { by = (name us, 0) ∷ []; are = last i; spelled = s_name free 0 (word us) (omega arith); few = omega arith }

-- ---- lists of expressions, and what holds them

pub one_listed : {x : Placed t.expr} {m : ℕ} → Ex x m → Spelt t.exprs free 1 (list1 x) (m + 2)
one_listed p = let q = in_parens free 1 (omega arith) p in record { by = q.by; are = q.are; spelled = s_one_expr _ q.by q.spelled; few = q.few }

pub more_listed : {x : Placed t.expr} {xs : Placed t.exprs} {m n : ℕ} → Ex x m → Spelt t.exprs free 1 xs n → Spelt t.exprs free 1 (p.more_exprs x xs) (m + n + 3)
more_listed p r =
    let q = in_parens free 1 (omega arith) p in
    record {
      by = q.by ++ (comma, 0) ∷ r.by;
      are = before q.are (then (lit< tt) r.are);
      spelled = s_more_exprs 0 _ _ q.by r.by q.spelled r.spelled;
      few = simp length-append (omega (arith, q.few, r.few));
    }

pub listed : {xs : Placed t.exprs} {m : ℕ} → Spelt t.exprs free 1 xs m → Spelt t.exprs free 0 xs m
listed p = record { by = p.by; are = p.are; spelled = s_some_exprs _ p.by p.spelled; few = p.few }

pub none_listed : Spelt t.exprs free 0 p.no_exprs 0
none_listed = record { by = []; are = nothing; spelled = s_no_exprs; few = omega arith }

pub an_array : {xs : Placed t.exprs} {m : ℕ} → Spelt t.exprs free 0 xs m → Ex (p.array xs) (m + 2)
an_array p = record {
  by = (open_bracket, 0) ∷ (p.by ++ (close_bracket, 0) ∷ []);
  are = within (lit< tt) (last (lit< tt)) p.are;
  spelled = s_array free 0 0 0 _ p.by (omega arith) p.spelled;
  few = simp length-append (omega (arith, p.few));
}

pub an_object : {fs : Placed t.fields} {m : ℕ} → Spelt t.fields free 0 fs m → Ex (p.object fs) (m + 2)
an_object p = record {
  by = (open_brace, 0) ∷ (p.by ++ (close_brace, 0) ∷ []);
  are = within (lit< tt) (last (lit< tt)) p.are;
  spelled = s_object free 0 0 0 _ p.by (omega arith) p.spelled;
  few = simp length-append (omega (arith, p.few));
}

-- `$v.f(..)`
pub asked : (f : List ℕ) {es : Placed t.exprs} {m : ℕ} → IsToken (name f) → Spelt t.exprs free 0 es m → Ex (ask f es) (m + 5)
asked f {es} i q = record {
  by = (name prelude_name, 0) ∷ (point, 0) ∷ (name f, 0) ∷ (open_paren, 0) ∷ (q.by ++ (close_paren, 0) ∷ []);
  are = then (refl, refl) (then (lit< tt) (then i (within (lit< tt) (last (lit< tt)) q.are)));
  spelled = s_call free 0 0 0 (p.dot (p.name (word prelude_name)) (word f)) es _ q.by (omega arith) refl
      (s_dot free 16 0 _ (word f) ((name prelude_name, 0) ∷ []) (omega arith) (s_name free 16 (word prelude_name) (omega arith))) q.spelled;
  few = simp length-append (omega (arith, q.few));
}

pub asked_one : (f : List ℕ) {x : Placed t.expr} {m : ℕ} → IsToken (name f) → Ex x m → Ex (ask f (list1 x)) (m + 7)
asked_one f i p = fewer (asked f i (listed (one_listed p))) (omega arith)

pub asked_two : (f : List ℕ) {x y : Placed t.expr} {m n : ℕ} → IsToken (name f) → Ex x m → Ex y n → Ex (ask f (list2 x y)) (m + n + 10)
asked_two f i p q = fewer (asked f i (listed (more_listed p (one_listed q)))) (omega arith)

pub asked_three : (f : List ℕ) {x y z : Placed t.expr} {m n k : ℕ} → IsToken (name f) → Ex x m → Ex y n → Ex z k → Ex (ask f (list3 x y z)) (m + n + k + 13)
asked_three f i p q r = fewer (asked f i (listed (more_listed p (more_listed q (one_listed r))))) (omega arith)

-- ---- members and calls

pub a_member : (us : List ℕ) {x : Placed t.expr} {m : ℕ} → IsToken (name us) → Ex x m → Ex (p.dot x (word us)) (m + 4)
a_member us i p =
    let q = in_parens free 16 (omega arith) p in
    record {
      by = q.by ++ (point, 0) ∷ (name us, 0) ∷ [];
      are = before q.are (then (lit< tt) (last i));
      spelled = s_dot free 0 0 _ (word us) q.by (omega arith) q.spelled;
      few = simp length-append (omega (arith, q.few));
    }

pub an_index : {x y : Placed t.expr} {m n : ℕ} → Ex x m → Ex y n → Ex (p.index x y) (m + n + 4)
an_index p r =
    let q = in_parens free 16 (omega arith) p in
    record {
      by = q.by ++ (open_bracket, 0) ∷ (r.by ++ (close_bracket, 0) ∷ []);
      are = before q.are (within (lit< tt) (last (lit< tt)) r.are);
      spelled = s_index free 0 0 0 _ _ q.by r.by (omega arith) q.spelled r.spelled;
      few = simp length-append (omega (arith, q.few, r.few));
    }

pub a_call : {x : Placed t.expr} {xs : Placed t.exprs} {m n : ℕ} → Ex x m → Spelt t.exprs free 0 xs n → Ex (p.call x xs) (m + n + 4)
a_call p r =
    let q = in_parens free 16 (omega arith) p in
    record {
      by = q.by ++ (open_paren, 0) ∷ (r.by ++ (close_paren, 0) ∷ []);
      are = before q.are (within (lit< tt) (last (lit< tt)) r.are);
      spelled = s_call free 0 0 0 _ _ q.by r.by (omega arith) refl q.spelled r.spelled;
      few = simp length-append (omega (arith, q.few, r.few));
    }

-- ---- operators

pub unary_token : (op : UnOp) → IsToken (unary_sign op)
unary_token Delete = lit< tt
unary_token op = lit< tt

pub step_token : (up : Bool) → IsToken (step_sign up)
step_token true = lit< tt
step_token false = lit< tt

pub a_unary : (op : UnOp) {x : Placed t.expr} {m : ℕ} → Ex x m → Ex (p.unary op x 0) (m + 3)
a_unary op p =
    let q = in_parens free 13 (omega arith) p in
    record { by = (unary_sign op, 0) ∷ q.by; are = then (unary_token op) q.are; spelled = s_prefix free 0 0 op _ q.by (omega arith) q.spelled; few = omega (arith, q.few) }

pub a_step : (up first : Bool) {x : Placed t.expr} {m : ℕ} → is_target x ≡ true → Ex x m → Ex (p.step up first x) (m + 3)
a_step up true h p =
    let q = in_parens free 15 (omega arith) p in
    record { by = (step_sign up, 0) ∷ q.by; are = then (step_token up) q.are; spelled = s_prefix_step free 0 0 up _ q.by (omega arith) h q.spelled; few = omega (arith, q.few) }
a_step up false h p =
    let q = in_parens free 15 (omega arith) p in
    record {
      by = q.by ++ (step_sign up, 0) ∷ [];
      are = before q.are (last (step_token up));
      spelled = s_postfix free 0 0 up _ q.by (omega arith) h q.spelled;
      few = simp length-append (omega (arith, q.few));
    }

-- an operator between two parts has a token that is read as it
pub record Sign (j : Join) : Type 0 where
  pub sign : Token
  pub token : IsToken sign
  pub read : infix_of false sign ≡ Some (joins j)

left_low : (j : Join) → left j ≤ 16
left_low (an_op Mul) = omega arith
left_low (an_op op) = omega arith
left_low an_and = omega arith
left_low an_or = omega arith
left_low (an_assign op) = omega arith
left_low a_comma = omega arith

right_low : (j : Join) → right j ≤ 16
right_low (an_op Mul) = omega arith
right_low (an_op op) = omega arith
right_low an_and = omega arith
right_low an_or = omega arith
right_low (an_assign op) = omega arith
right_low a_comma = omega arith

pub a_join : {j : Join} {x y : Placed t.expr} {m n : ℕ} → Sign j → takes_left j x ≡ true → Ex x m → Ex y n → Ex (joined j x y) (m + n + 5)
a_join {j} i h p r =
    let q = in_parens free (left j) (left_low j) p in
    let s = in_parens free (right j) (right_low j) r in
    record {
      by = q.by ++ (i.sign, 0) ∷ s.by;
      are = before q.are (then i.token s.are);
      spelled = s_join free 0 0 j i.sign _ _ q.by s.by (omega arith) i.read h q.spelled s.spelled;
      few = simp length-append (omega (arith, q.few, s.few));
    }

pub of_op : (op : BinOp) → Sign (an_op op)
unfolding look_up
of_op Mul = record { sign = join_sign (an_op Mul); token = lit< tt; read = refl }
of_op op = record { sign = join_sign (an_op op); token = lit< tt; read = refl }

of_comma : Sign a_comma
unfolding look_up
of_comma = record { sign = comma; token = lit< tt; read = refl }

of_assign : Sign (an_assign None)
unfolding look_up
of_assign = record { sign = equals; token = lit< tt; read = refl }

pub a_binary : (op : BinOp) {x y : Placed t.expr} {m n : ℕ} → Ex x m → Ex y n → Ex (p.binary op x y) (m + n + 5)
a_binary op p q = a_join (of_op op) refl p q

pub a_both : {x y : Placed t.expr} {m n : ℕ} → Ex x m → Ex y n → Ex (p.comma x y) (m + n + 5)
a_both p q = a_join of_comma refl p q

pub an_assigned : {x y : Placed t.expr} {m n : ℕ} → is_target x ≡ true → Ex x m → Ex y n → Ex (p.assign None x y) (m + n + 5)
an_assigned h p q = a_join of_assign h p q

-- 11.12
pub a_choice : {x y z : Placed t.expr} {m n k : ℕ} → Ex x m → Ex y n → Ex z k → Ex (p.choice x y z) (m + n + k + 8)
a_choice p q r =
    let i = in_parens free 3 (omega arith) p in
    let j = in_parens free 1 (omega arith) q in
    let o = in_parens free 1 (omega arith) r in
    record {
      by = i.by ++ (query, 0) ∷ (j.by ++ (colon, 0) ∷ o.by);
      are = before i.are (then (lit< tt) (before j.are (then (lit< tt) o.are)));
      spelled = s_choice free 0 0 0 _ _ _ i.by j.by o.by (omega arith) i.spelled j.spelled o.spelled;
      few = simp length-append (omega (arith, i.few, j.few, o.few));
    }

-- ---- the properties of an object literal, whose keys are texts

pub one_field : (us : List ℕ) {x : Placed t.expr} {m : ℕ} → IsToken (text us) → Ex x m → Spelt t.fields free 1 (p.more_fields (word us) x p.no_fields) (m + 4)
one_field us i p =
    let q = in_parens free 1 (omega arith) p in
    record {
      by = (text us, 0) ∷ (colon, 0) ∷ q.by;
      are = then i (then (lit< tt) q.are);
      spelled = s_one_field 0 (text us, 0) (word us) _ q.by refl q.spelled;
      few = omega (arith, q.few);
    }

pub more_fields : (us : List ℕ) {x : Placed t.expr} {fs : Placed t.fields} {m n : ℕ} → IsToken (text us) → Ex x m → Spelt t.fields free 1 fs n → Spelt t.fields free 1 (p.more_fields (word us) x fs) (m + n + 5)
more_fields us i p r =
    let q = in_parens free 1 (omega arith) p in
    record {
      by = (text us, 0) ∷ (colon, 0) ∷ (q.by ++ (comma, 0) ∷ r.by);
      are = then i (then (lit< tt) (before q.are (then (lit< tt) r.are)));
      spelled = s_more_fields 0 0 (text us, 0) (word us) _ _ q.by r.by refl q.spelled r.spelled;
      few = simp length-append (omega (arith, q.few, r.few));
    }

pub no_fields : Spelt t.fields free 0 p.no_fields 0
no_fields = record { by = []; are = nothing; spelled = s_no_fields; few = omega arith }

pub fields_listed : {fs : Placed t.fields} {m : ℕ} → Spelt t.fields free 1 fs m → Spelt t.fields free 0 fs m
fields_listed p = record { by = p.by; are = p.are; spelled = s_some_fields _ p.by p.spelled; few = p.few }
