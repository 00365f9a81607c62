-- Statements that tokens spell, each form from its parts (ES3 12).
use Rattle.std.proofs.Common.{◌≡◌, ℕ, ◌+◌, ◌≤◌, true, false, List, [], ◌∷◌, ◌++◌, length, Option, Some, None, refl, sym, subst, arith, lit<, length-append, append_assoc}
use Rattle.std.specs.Prelude.{codes}
use Rattle.es3_tree.specs.Tree as t
use Rattle.es3_tree.specs.Placed as p
use Rattle.es3_tree.specs.Placed.{Placed, Word}
use Rattle.es3_tree.specs.Token.{name}
use Rattle.es3_tree.specs.declared.BinOp.TheVariants.{Less}
use Rattle.es3_tokens.specs.Back.{IsToken}
use Rattle.es3_grammar.specs.Spots.{Spot, break_word, case_word, catch_word, continue_word, default_word, do_word, else_word, finally_word, for_word, function_word, if_word, return_word, switch_word, throw_word, try_word, var_word, while_word, with_word, open_brace, close_brace, open_paren, close_paren, semicolon, comma, colon, equals}
use Rattle.es3_grammar.specs.Grammar.{Bars, free, no_in, naming, is_open, one_default, Spells, s_paren, s_block, s_var, s_empty, s_expression, s_one_item, s_more_items, s_no_value, s_value, s_if, s_else, s_do, s_while, s_for, s_no_first, s_first_var, s_first_expr, s_no_expr, s_some_expr, s_continue, s_break, s_return, s_with, s_switch, s_no_cases, s_case, s_default, s_label, s_throw, s_catch, s_finally, s_catch_finally, s_no_stmts, s_more_stmts, s_declaration}
use Rattle.valija_forms.specs.Forms.{word, label_of, joined, declares, over_keys}
use Rattle.valija_spelled.proofs.Pieces.{Are, nothing, then, before, within, last, Spelt, Ex, fewer, in_parens, a_member, an_index, a_step, a_binary, a_both}
use Rattle.valija_spelled.proofs.Asks.{a_kept, is_kept, nought, keys_of, has_key}

abbrev pub Line : Placed t.stmt → ℕ → Type 0
Line x m = Spelt t.stmt free 0 x m

-- ---- names that may be absent

abbrev pub IsMaybeName : Option Word → Type 0
IsMaybeName None = Unit {0}
IsMaybeName (Some x) = IsToken (name x.text)

label_are : (l : Option Word) → IsMaybeName l → Are (naming (label_of l))
label_are None i = nothing
label_are (Some x) i = last i

label_few : (l : Option Word) → length (naming (label_of l)) ≤ 1
label_few None = omega arith
label_few (Some x) = omega arith

-- ---- variables, and what they begin as (12.2, 12.6)

pub no_value : (b : Bars) → Spelt t.maybe_expr b 1 p.no_expr 0
no_value b = record { by = []; are = nothing; spelled = s_no_value b; few = omega arith }

pub a_value : (b : Bars) {x : Placed t.expr} {m : ℕ} → Ex x m → Spelt t.maybe_expr b 1 (p.some_expr x) (m + 3)
a_value b q =
    let r = in_parens b 1 (omega arith) q in
    record { by = (equals, 0) ∷ r.by; are = then (lit< tt) r.are; spelled = s_value b 0 _ r.by r.spelled; few = omega (arith, r.few) }

pub one_item : {b : Bars} (us : List ℕ) {m : Placed t.maybe_expr} {n : ℕ} → IsToken (name us) → Spelt t.maybe_expr b 1 m n → Spelt t.items b 0 (p.more_items (word us) m p.no_items) (n + 1)
one_item {b} us i q = record { by = (name us, 0) ∷ q.by; are = then i q.are; spelled = s_one_item b (word us) _ q.by q.spelled; few = omega (arith, q.few) }

pub more_items : {b : Bars} (us : List ℕ) {m : Placed t.maybe_expr} {is : Placed t.items} {n k : ℕ} → IsToken (name us) → Spelt t.maybe_expr b 1 m n → Spelt t.items b 0 is k
    → Spelt t.items b 0 (p.more_items (word us) m is) (n + k + 2)
more_items {b} us i q r = record {
  by = (name us, 0) ∷ (q.by ++ (comma, 0) ∷ r.by);
  are = then i (before q.are (then (lit< tt) r.are));
  spelled = s_more_items b 0 (word us) _ _ q.by r.by q.spelled r.spelled;
  few = simp length-append (omega (arith, q.few, r.few));
}

pub a_var : {is : Placed t.items} {m : ℕ} → Spelt t.items free 0 is m → Line (p.var is) (m + 2)
a_var q = record {
  by = (var_word, 0) ∷ (q.by ++ (semicolon, 0) ∷ []);
  are = within (lit< tt) (last (lit< tt)) q.are;
  spelled = s_var 0 (semicolon, 0) _ q.by q.spelled refl;
  few = simp length-append (omega (arith, q.few));
}

pub is_declared : (f : Word) {e : Placed t.expr} {m : ℕ} → IsToken (name f.text) → Ex e m → Line (declares f e) (m + 6)
is_declared f i q = fewer (a_var (one_item f.text i (a_value free q))) (omega arith)

-- ---- an expression that may be absent

pub no_expr : Spelt t.maybe_expr free 0 p.no_expr 0
no_expr = record { by = []; are = nothing; spelled = s_no_expr; few = omega arith }

pub some_expr : {x : Placed t.expr} {m : ℕ} → Ex x m → Spelt t.maybe_expr free 0 (p.some_expr x) m
some_expr q = record { by = q.by; are = q.are; spelled = s_some_expr _ q.by q.spelled; few = q.few }

-- ---- lists of statements

pub no_stmts : (l : ℕ) → Spelt t.stmts free l p.no_stmts 0
no_stmts l = record { by = []; are = nothing; spelled = s_no_stmts l; few = omega arith }

pub more_stmts : {l : ℕ} {x : Placed t.stmt} {ss : Placed t.stmts} {m n : ℕ} → Line x m → Spelt t.stmts free l ss n → Spelt t.stmts free l (p.more_stmts x ss) (m + n)
more_stmts {l} q r = record {
  by = q.by ++ r.by;
  are = before q.are r.are;
  spelled = s_more_stmts l _ _ q.by r.by q.spelled r.spelled;
  few = simp length-append (omega (arith, q.few, r.few));
}

-- statements behind statements
behind : {a b : Placed t.stmts} {u v : List Spot} → Spells t.stmts free 1 a u → Spells t.stmts free 1 b v → Spells t.stmts free 1 (joined a b) (u ++ v)
behind (s_no_stmts l) r = r
behind {b = b} {v = v} (s_more_stmts l x ss u w q o) r =
    subst (Spells t.stmts free 1 (p.more_stmts x (joined ss b))) (sym (append_assoc u w v)) (s_more_stmts 1 x (joined ss b) u (w ++ v) q (behind o r))
behind {b = b} {v = v} (s_declaration a n ps body ss u w q o) r =
    subst (λ z. Spells t.stmts free 1 (p.more_stmts (p.declare (p.fun (Some n) ps body a)) (joined ss b)) ((function_word, a) ∷ z)) (sym (append_assoc u w v)) (s_declaration a n ps body (joined ss b) u (w ++ v) q (behind o r))

pub one_behind : {a b : Placed t.stmts} {m n : ℕ} → Spelt t.stmts free 1 a m → Spelt t.stmts free 1 b n → Spelt t.stmts free 1 (joined a b) (m + n)
one_behind q r = record { by = q.by ++ r.by; are = before q.are r.are; spelled = behind q.spelled r.spelled; few = simp length-append (omega (arith, q.few, r.few)) }

-- ---- 12.1 to 12.5

pub a_block : {ss : Placed t.stmts} {m : ℕ} → Spelt t.stmts free 0 ss m → Line (p.block ss) (m + 2)
a_block q = record {
  by = (open_brace, 0) ∷ (q.by ++ (close_brace, 0) ∷ []);
  are = within (lit< tt) (last (lit< tt)) q.are;
  spelled = s_block 0 0 _ q.by q.spelled;
  few = simp length-append (omega (arith, q.few));
}

pub an_empty : Line p.empty 1
an_empty = record { by = (semicolon, 0) ∷ []; are = last (lit< tt); spelled = s_empty 0; few = omega arith }

-- in parentheses, so that it begins neither like a block nor like a function declaration
pub a_statement : {x : Placed t.expr} {m : ℕ} → Ex x m → Line (p.expression x) (m + 3)
a_statement q = record {
  by = ((open_paren, 0) ∷ (q.by ++ (close_paren, 0) ∷ [])) ++ (semicolon, 0) ∷ [];
  are = before (within (lit< tt) (last (lit< tt)) q.are) (last (lit< tt));
  spelled = s_expression (semicolon, 0) _ ((open_paren, 0) ∷ (q.by ++ (close_paren, 0) ∷ [])) (s_paren free 0 0 0 _ q.by (omega arith) q.spelled) refl refl;
  few = simp length-append (omega (arith, q.few));
}

pub an_if : {x : Placed t.expr} {s : Placed t.stmt} {m n : ℕ} → Ex x m → Line s n → Line (p.branch x s p.no_stmt) (m + n + 3)
an_if q r = record {
  by = (if_word, 0) ∷ (open_paren, 0) ∷ (q.by ++ (close_paren, 0) ∷ r.by);
  are = then (lit< tt) (within (lit< tt) (then (lit< tt) r.are) q.are);
  spelled = s_if 0 0 0 _ _ q.by r.by q.spelled r.spelled;
  few = simp length-append (omega (arith, q.few, r.few));
}

-- what stands before `else` ends in no `if` without `else`
pub an_else : {x : Placed t.expr} {s r : Placed t.stmt} {m n k : ℕ} → is_open s ≡ false → Ex x m → Line s n → Line r k → Line (p.branch x s (p.some_stmt r)) (m + n + k + 4)
an_else closed q h j = record {
  by = (if_word, 0) ∷ (open_paren, 0) ∷ (q.by ++ (close_paren, 0) ∷ (h.by ++ (else_word, 0) ∷ j.by));
  are = then (lit< tt) (within (lit< tt) (then (lit< tt) (before h.are (then (lit< tt) j.are))) q.are);
  spelled = s_else 0 0 0 0 _ _ _ q.by h.by j.by q.spelled h.spelled closed j.spelled;
  few = simp length-append (omega (arith, q.few, h.few, j.few));
}

-- ---- 12.6

pub a_while : {x : Placed t.expr} {s : Placed t.stmt} {m n : ℕ} → Ex x m → Line s n → Line (p.while_loop x s) (m + n + 3)
a_while q r = record {
  by = (while_word, 0) ∷ (open_paren, 0) ∷ (q.by ++ (close_paren, 0) ∷ r.by);
  are = then (lit< tt) (within (lit< tt) (then (lit< tt) r.are) q.are);
  spelled = s_while 0 0 0 _ _ q.by r.by q.spelled r.spelled;
  few = simp length-append (omega (arith, q.few, r.few));
}

pub a_do : {s : Placed t.stmt} {x : Placed t.expr} {m n : ℕ} → Line s m → Ex x n → Line (p.do_loop s x) (m + n + 5)
a_do q r = record {
  by = (do_word, 0) ∷ (q.by ++ (while_word, 0) ∷ (open_paren, 0) ∷ (r.by ++ (close_paren, 0) ∷ (semicolon, 0) ∷ []));
  are = within (lit< tt) (then (lit< tt) (within (lit< tt) (then (lit< tt) (last (lit< tt))) r.are)) q.are;
  spelled = s_do 0 0 0 0 (semicolon, 0) _ _ q.by r.by q.spelled r.spelled refl;
  few = simp length-append (omega (arith, q.few, r.few));
}

-- the first part of a head, where no `in` stands
pub no_first : Spelt t.first no_in 0 p.no_first 0
no_first = record { by = []; are = nothing; spelled = s_no_first; few = omega arith }

pub first_var : {is : Placed t.items} {m : ℕ} → Spelt t.items no_in 0 is m → Spelt t.first no_in 0 (p.first_var is) (m + 1)
first_var q = record { by = (var_word, 0) ∷ q.by; are = then (lit< tt) q.are; spelled = s_first_var 0 _ q.by q.spelled; few = omega (arith, q.few) }

pub first_expr : {x : Placed t.expr} {m : ℕ} → Ex x m → Spelt t.first no_in 0 (p.first_expr x) (m + 2)
first_expr q = let r = in_parens no_in 0 (omega arith) q in record { by = r.by; are = r.are; spelled = s_first_expr _ r.by r.spelled; few = r.few }

pub a_for : {i : Placed t.first} {e f : Placed t.maybe_expr} {s : Placed t.stmt} {m n k o : ℕ} → Spelt t.first no_in 0 i m → Spelt t.maybe_expr free 0 e n → Spelt t.maybe_expr free 0 f k → Line s o
    → Line (p.for_loop i e f s) (m + n + k + o + 5)
a_for q r h j = record {
  by = (for_word, 0) ∷ (open_paren, 0) ∷ (q.by ++ (semicolon, 0) ∷ (r.by ++ (semicolon, 0) ∷ (h.by ++ (close_paren, 0) ∷ j.by)));
  are = then (lit< tt) (within (lit< tt) (within (lit< tt) (within (lit< tt) (then (lit< tt) j.are) h.are) r.are) q.are);
  spelled = s_for 0 0 0 0 0 _ _ _ _ q.by r.by h.by j.by q.spelled r.spelled h.spelled j.spelled;
  few = simp length-append (omega (arith, q.few, r.few, h.few, j.few));
}

-- the loop over the keys of an object
pub keys_walked : (a b c : ℕ) {w e : Placed t.expr} {x : Placed t.stmt} {m n k : ℕ} → Ex w m → Ex e n → Line x k → Line (over_keys a b c w e x) (m + n + k + 87)
keys_walked a b c w e x =
    fewer
    (a_for (first_expr (a_both (a_both (is_kept a e) (is_kept b (keys_of (a_kept a)))) (is_kept c nought)))
    (some_expr (a_binary Less (a_kept c) (a_member (codes "length") (refl, refl) (a_kept b))))
    (some_expr (a_step true false refl (a_kept c)))
    (a_block (more_stmts (an_if (has_key (an_index (a_kept b) (a_kept c)) (a_kept a)) (a_block (more_stmts (a_statement w) (more_stmts x (no_stmts 0))))) (no_stmts 0))))
    (omega arith)

-- ---- 12.7 to 12.10, 12.12, 12.13

pub a_continue : (l : Option Word) → IsMaybeName l → Line (p.continue (label_of l) 0) 3
a_continue l i = record {
  by = (continue_word, 0) ∷ (naming (label_of l) ++ (semicolon, 0) ∷ []);
  are = within (lit< tt) (last (lit< tt)) (label_are l i);
  spelled = s_continue 0 (semicolon, 0) (label_of l) refl;
  few = simp length-append (omega (arith, label_few l));
}

pub a_break : (l : Option Word) → IsMaybeName l → Line (p.break (label_of l) 0) 3
a_break l i = record {
  by = (break_word, 0) ∷ (naming (label_of l) ++ (semicolon, 0) ∷ []);
  are = within (lit< tt) (last (lit< tt)) (label_are l i);
  spelled = s_break 0 (semicolon, 0) (label_of l) refl;
  few = simp length-append (omega (arith, label_few l));
}

pub a_return : {m : Placed t.maybe_expr} {n : ℕ} → Spelt t.maybe_expr free 0 m n → Line (p.return m 0) (n + 2)
a_return q = record {
  by = (return_word, 0) ∷ (q.by ++ (semicolon, 0) ∷ []);
  are = within (lit< tt) (last (lit< tt)) q.are;
  spelled = s_return 0 (semicolon, 0) _ q.by q.spelled refl;
  few = simp length-append (omega (arith, q.few));
}

pub a_with : {x : Placed t.expr} {s : Placed t.stmt} {m n : ℕ} → Ex x m → Line s n → Line (p.with_object x s 0) (m + n + 3)
a_with q r = record {
  by = (with_word, 0) ∷ (open_paren, 0) ∷ (q.by ++ (close_paren, 0) ∷ r.by);
  are = then (lit< tt) (within (lit< tt) (then (lit< tt) r.are) q.are);
  spelled = s_with 0 0 0 _ _ q.by r.by q.spelled r.spelled;
  few = simp length-append (omega (arith, q.few, r.few));
}

pub a_label : (us : List ℕ) {s : Placed t.stmt} {m : ℕ} → IsToken (name us) → Line s m → Line (p.label (word us) s) (m + 2)
a_label us i q = record { by = (name us, 0) ∷ (colon, 0) ∷ q.by; are = then i (then (lit< tt) q.are); spelled = s_label 0 (word us) _ q.by q.spelled; few = omega (arith, q.few) }

pub a_throw : {x : Placed t.expr} {m : ℕ} → Ex x m → Line (p.throw x) (m + 2)
a_throw q = record {
  by = (throw_word, 0) ∷ (q.by ++ (semicolon, 0) ∷ []);
  are = within (lit< tt) (last (lit< tt)) q.are;
  spelled = s_throw 0 (semicolon, 0) _ q.by q.spelled refl;
  few = simp length-append (omega (arith, q.few));
}

-- ---- 12.11

pub no_cases : Spelt t.cases free 0 p.no_cases 0
no_cases = record { by = []; are = nothing; spelled = s_no_cases; few = omega arith }

pub a_case : {x : Placed t.expr} {ss : Placed t.stmts} {cs : Placed t.cases} {m n k : ℕ} → Ex x m → Spelt t.stmts free 0 ss n → Spelt t.cases free 0 cs k
    → Spelt t.cases free 0 (p.more_cases (p.some_expr x) ss cs) (m + n + k + 2)
a_case q r h = record {
  by = (case_word, 0) ∷ (q.by ++ (colon, 0) ∷ (r.by ++ h.by));
  are = then (lit< tt) (before q.are (then (lit< tt) (before r.are h.are)));
  spelled = s_case 0 0 _ _ _ q.by r.by h.by q.spelled r.spelled h.spelled;
  few = simp length-append (omega (arith, q.few, r.few, h.few));
}

pub a_default : {ss : Placed t.stmts} {cs : Placed t.cases} {n k : ℕ} → Spelt t.stmts free 0 ss n → Spelt t.cases free 0 cs k → Spelt t.cases free 0 (p.more_cases p.no_expr ss cs) (n + k + 2)
a_default r h = record {
  by = (default_word, 0) ∷ (colon, 0) ∷ (r.by ++ h.by);
  are = then (lit< tt) (then (lit< tt) (before r.are h.are));
  spelled = s_default 0 0 _ _ r.by h.by r.spelled h.spelled;
  few = simp length-append (omega (arith, r.few, h.few));
}

pub a_switch : {x : Placed t.expr} {cs : Placed t.cases} {m n : ℕ} → one_default cs ≡ true → Ex x m → Spelt t.cases free 0 cs n → Line (p.switch x cs) (m + n + 5)
a_switch one q r = record {
  by = (switch_word, 0) ∷ (open_paren, 0) ∷ (q.by ++ (close_paren, 0) ∷ (open_brace, 0) ∷ (r.by ++ (close_brace, 0) ∷ []));
  are = then (lit< tt) (within (lit< tt) (then (lit< tt) (within (lit< tt) (last (lit< tt)) r.are)) q.are);
  spelled = s_switch 0 0 0 0 0 _ _ q.by r.by q.spelled r.spelled one;
  few = simp length-append (omega (arith, q.few, r.few));
}

-- ---- 12.14

pub a_catch : {ss hs : Placed t.stmts} (us : List ℕ) {m n : ℕ} → IsToken (name us) → Spelt t.stmts free 0 ss m → Spelt t.stmts free 0 hs n → Line (p.try ss (p.some_handler (word us) hs) p.no_block) (m + n + 9)
a_catch us i q r = record {
  by = (try_word, 0) ∷ (open_brace, 0)
      ∷ (q.by ++ (close_brace, 0) ∷ (catch_word, 0) ∷ (open_paren, 0) ∷ (name us, 0) ∷ (close_paren, 0) ∷ (open_brace, 0) ∷ (r.by ++ (close_brace, 0) ∷ []));
  are = then (lit< tt) (within (lit< tt) (then (lit< tt) (then (lit< tt) (then (lit< tt) (then i (then (lit< tt) (within (lit< tt) (last (lit< tt)) r.are)))))) q.are);
  spelled = s_catch 0 0 0 0 0 0 0 0 _ (word us) _ q.by r.by q.spelled r.spelled;
  few = simp length-append (omega (arith, q.few, r.few));
}

pub a_finally : {ss ls : Placed t.stmts} {m n : ℕ} → Spelt t.stmts free 0 ss m → Spelt t.stmts free 0 ls n → Line (p.try ss p.no_handler (p.some_block ls)) (m + n + 6)
a_finally q r = record {
  by = (try_word, 0) ∷ (open_brace, 0) ∷ (q.by ++ (close_brace, 0) ∷ (finally_word, 0) ∷ (open_brace, 0) ∷ (r.by ++ (close_brace, 0) ∷ []));
  are = then (lit< tt) (within (lit< tt) (then (lit< tt) (then (lit< tt) (within (lit< tt) (last (lit< tt)) r.are))) q.are);
  spelled = s_finally 0 0 0 0 0 0 _ _ q.by r.by q.spelled r.spelled;
  few = simp length-append (omega (arith, q.few, r.few));
}

pub a_catch_finally : {ss hs ls : Placed t.stmts} (us : List ℕ) {m n k : ℕ} → IsToken (name us) → Spelt t.stmts free 0 ss m → Spelt t.stmts free 0 hs n → Spelt t.stmts free 0 ls k
    → Line (p.try ss (p.some_handler (word us) hs) (p.some_block ls)) (m + n + k + 12)
a_catch_finally us i q r h = record {
  by = (try_word, 0) ∷ (open_brace, 0)
      ∷ (q.by ++ (close_brace, 0) ∷ (catch_word, 0) ∷ (open_paren, 0) ∷ (name us, 0) ∷ (close_paren, 0) ∷ (open_brace, 0)
      ∷ (r.by ++ (close_brace, 0) ∷ (finally_word, 0) ∷ (open_brace, 0) ∷ (h.by ++ (close_brace, 0) ∷ [])));
  are = then (lit< tt) (within (lit< tt) (then (lit< tt) (then (lit< tt) (then (lit< tt) (then i (then (lit< tt)
      (within (lit< tt) (then (lit< tt) (then (lit< tt) (within (lit< tt) (last (lit< tt)) h.are))) r.are)))))) q.are);
  spelled = s_catch_finally 0 0 0 0 0 0 0 0 0 0 0 _ (word us) _ _ q.by r.by h.by q.spelled r.spelled h.spelled;
  few = simp length-append (omega (arith, q.few, r.few, h.few));
}
