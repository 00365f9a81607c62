-- Each step turns the count of open brackets by its token.
use Rattle.std.proofs.Common.{◌≡◌, ℕ, ◌+◌, ◌-◌, ◌≤◌, Bool, true, false, cond, not, ◌&&◌, List, [], ◌∷◌, ◌++◌, Option, Some, None, nat_le, refl, arith, ap, sym, subst, inl, inr}
use Rattle.es3_tree.specs.Token.{Token, name, word, punct, num, text}
use Rattle.es3_tree.specs.declared.UnOp.{UnOp}
use Rattle.es3_tree.specs.declared.UnOp.TheVariants.{Delete, Void, Typeof, Plus, Minus, BitNot, Not}
use Rattle.es3_tree.specs.Tree as t
use Rattle.es3_tree.specs.Placed as tree
use Rattle.es3_tree.specs.Placed.{Placed, Word}
use Rattle.es3_grammar.specs.Spots.{Spot, is, look_up, case_word, catch_word, default_word, else_word, finally_word, in_word, var_word, close_brace, open_paren, close_paren, open_bracket, point, semicolon, comma, colon, equals, while_word, open_brace, close_bracket}
use Rattle.es3_grammar.specs.Levels as l
use Rattle.es3_grammar.specs.Levels.{E, is_target, takes_left, Infix, joins, a_query, a_step, infix_of, Opening, a_prefix, a_prefix_step, openings, infixes, unary_sign, step_sign, a_this, a_null, a_paren, an_object}
use Rattle.es3_grammar.specs.Grammar.{S, key_of, has_default}
use Rattle.es3_grammar.specs.Frames.{Field, Item, Clause, stmts_of, items_of, cases_of, Opened, an_array, a_call, a_new, Head, head, Body, a_program, a_function, a_clause, a_finally, Frame, paren, subscript, items, field, new_of, prefix_step, prefix, join, test, either, statement, value, if_test, while_test, do_test, for_first, for_test, for_step, for_object, giving, throwing, with_head, switch_head, case_test, then_of, else_of, while_body, do_body, for_body, in_body, with_body, label_of, body, Stack, State, want, have, past, listed, member, key, func, params, param, param_end, start, begun, ended, closing, item, item_end, for_open, for_second, for_third, returned, jumped, clauses, tried, caught, catch_name, await, asked, no_in_here}
use Rattle.es3_grammar.specs.Machine.{when, opened, operand, closer, closed_list, behind_comma, after_expr, none_yet, keyed, key_step, func_step, bodied, params_step, param_step, func_of, func_made, binds, shifted, filled, after_item, closes, settle, arguments, have_step, member_step, declares, cases_closed, clause_step, body_closed, list_closed, next_clause, Begin, a_block_begins, a_list_ends, an_empty, a_break, a_next_clause, a_do, a_for, a_declaration, an_if, a_return, a_switch, a_throw, a_try_begins, a_var, a_while, a_with, begins, begin_by, begin, resume, item_step, first_item, item_end_step, jump, jumped_step, finally_begins, catch_name_step, caught_made, caught_step, tried_step, param_end_step, await_step, step, open_step}
use Rattle.es3_grammar.specs.Limit.{opens, shuts, turn}
use Rattle.es3_grammar.specs.Sums.{one_more, brackets, open_before, brackets_in, peak, Ready, Steady}
use Rattle.es3_grammar.proofs.Tables.{chosen, some_is, none_some, spot_is, opening_sign, opening_is, looked_up, infix_found, not_false}
use Rattle.es3_grammar.proofs.Sound.{begin_sign, sign_is, clause_or, and_three}
use Rattle.es3_grammar.proofs.OpenBrackets.{closer_shuts}

-- a state behind a token, before which so many brackets were open
pub record Turned (o : ℕ) (c : Spot) (s : State) : Type 0 where
  pub counted : brackets_in s ≡ turn o c
  pub steady : Steady s

the_turned : {o : ℕ} {c : Spot} (r s : State) → Some r ≡ Some s → Turned o c r → Turned o c s
the_turned {o} {c} r s e m = subst (λ (x : State). Turned o c x) (some_is r s e) m

that : {o : ℕ} {c : Spot} (r s : State) → Some r ≡ Some s → brackets_in r ≡ turn o c → Steady r → Turned o c s
that r s e n h = the_turned r s e (record { counted = n; steady = h })

turned_when : {o : ℕ} {c : Spot} (b : Bool) (r s : State) → when b r ≡ Some s → Turned o c r → Turned o c s
turned_when true r s e m = the_turned r s e m
turned_when false r s e m = none_some s e

at_mark : {o : ℕ} (d : Token) (c : Spot) (s : State) → is d c ≡ true → Turned o (d, c.1) s → Turned o c s
at_mark {o} d c s e m = subst (λ (x : Spot). Turned o x s) (sym (spot_is d c e)) m

turned_token : {o : ℕ} (d : Token) (c : Spot) (r s : State) → when (is d c) r ≡ Some s → brackets_in r ≡ turn o (d, c.1) → Steady r → Turned o c s
turned_token d c r s e n h = elim (chosen (is d c) (Some r) None (Some s) e) [ inl g ↦ at_mark d c s g.0 (that r s g.1 n h) | inr g ↦ none_some s g.1 ]

turned_or : {o : ℕ} (d : Token) (c : Spot) (r : State) (q : Option State) (s : State) → cond (is d c) (Some r) q ≡ Some s → brackets_in r ≡ turn o (d, c.1) → Steady r → (q ≡ Some s → Turned o c s) → Turned o c s
turned_or d c r q s e n h k = elim (chosen (is d c) (Some r) q (Some s) e) [ inl g ↦ at_mark d c s g.0 (that r s g.1 n h) | inr g ↦ k g.1 ]

-- a bracket that is opened and shut again
back : (o : ℕ) → o ≡ (o + 1) - 1
back o = omega arith

still : (o : ℕ) (c : Spot) → opens c.0 ≡ false → shuts c.0 ≡ false → o ≡ turn o c
still o c p q = rw (p, q) refl

down : (o : ℕ) (c : Spot) → opens c.0 ≡ false → shuts c.0 ≡ true → o ≡ turn (o + 1) c
down o c p q = rw (p, q) (back o)

-- an opening bracket, or a colon, is awaited
opening : (d : Token) (s : State) → peak s ≡ false → 1 ≤ brackets_in s → Steady s → Steady (await (d ∷ []) s)
opening d s p m h = ((λ e. (p, m), tt), h)

that_opens : {o : ℕ} {c : Spot} (d : Token) (r s : State) → Some (await (d ∷ []) r) ≡ Some s → opens d ≡ true → brackets_in r ≡ turn o c + 1 → peak r ≡ false → Steady r → Turned o c s
that_opens d r s e p n k h = that _ s e (rw p (omega arith)) (opening d r k (omega arith) h)

that_comes : {o : ℕ} {c : Spot} (r s : State) → Some (await (colon ∷ []) r) ≡ Some s → brackets_in r ≡ turn o c → Steady r → Turned o c s
that_comes r s e n h = that _ s e n ((λ e. absurd cc, tt), h)

-- ---- expressions

unary_still : (op : UnOp) → (opens (unary_sign op) ≡ false) × (shuts (unary_sign op) ≡ false)
unary_still Delete = (refl, refl)
unary_still Void = (refl, refl)
unary_still Typeof = (refl, refl)
unary_still Plus = (refl, refl)
unary_still Minus = (refl, refl)
unary_still BitNot = (refl, refl)
unary_still Not = (refl, refl)

step_still : (up : Bool) → (opens (step_sign up) ≡ false) × (shuts (step_sign up) ≡ false)
step_still true = (refl, refl)
step_still false = (refl, refl)

opened_turned : (f : Stack) (a : ℕ) (o : Opening) (s : State) → opened f a (Some o) ≡ Some s → Turned (brackets f) (opening_sign o, a) s
opened_turned f a a_this s e = that _ s e refl tt
opened_turned f a a_null s e = that _ s e refl tt
opened_turned f a (l.a_bool true) s e = that _ s e refl tt
opened_turned f a (l.a_bool false) s e = that _ s e refl tt
opened_turned f a a_paren s e = that _ s e refl tt
opened_turned f a l.an_array s e = that _ s e refl tt
opened_turned f a an_object s e = that _ s e refl tt
opened_turned f a l.a_function s e = that _ s e refl tt
opened_turned f a l.a_new s e = that _ s e refl tt
opened_turned f a (a_prefix op) s e = (let i = unary_still op in turned_when (nat_le (asked f) 13) (want (prefix op a ∷ f)) s e (record { counted = still (brackets f) (unary_sign op, a) i.0 i.1; steady = tt }))
opened_turned f a (a_prefix_step up) s e = (let i = step_still up in turned_when (nat_le (asked f) 13) (want (prefix_step up ∷ f)) s e (record { counted = still (brackets f) (step_sign up, a) i.0 i.1; steady = tt }))

found_turned : (f : Stack) (r : Token) (a : ℕ) (o : Option Opening) (s : State) → look_up openings r ≡ o → opened f a o ≡ Some s → Turned (brackets f) (r, a) s
found_turned f r a None s is_o e = none_some s e
found_turned f r a (Some o) s is_o e = subst (λ (z : Token). Turned (brackets f) (z, a) s) (sym (opening_is r o is_o)) (opened_turned f a o s e)

operand_turned : (f : Stack) (c : Spot) (s : State) → operand f c ≡ Some s → Turned (brackets f) c s
operand_turned f (name us, a) s e = that _ s e refl tt
operand_turned f (num n, a) s e = that _ s e refl tt
operand_turned f (text us, a) s e = that _ s e refl tt
operand_turned f (word n, a) s e = found_turned f (word n) a (look_up openings (word n)) s refl e
operand_turned f (punct n, a) s e = found_turned f (punct n) a (look_up openings (punct n)) s refl e

comma_turned : (o : Opened) (xs : List E) (f : Stack) (a : ℕ) → Turned (brackets f + 1) (comma, a) (behind_comma o xs f)
comma_turned an_array xs f a = record { counted = refl; steady = tt }
comma_turned (a_call x) xs f a = record { counted = refl; steady = tt }
comma_turned (a_new x) xs f a = record { counted = refl; steady = tt }

after_expr_turned : (o : Opened) (xs : List E) (f : Stack) (c : Spot) (s : State) → after_expr o xs f c ≡ Some s → Turned (brackets f + 1) c s
after_expr_turned o xs f c s e = (let m = comma_turned o xs f c.1 in let i = closer_shuts o in turned_or comma c (behind_comma o xs f) _ s e m.counted m.steady
    (λ e. turned_token (closer o) c (have (closed_list o xs) f) s e (down (brackets f) (closer o, c.1) i.0 i.1) tt))

keyed_turned : (fs : List Field) (f : Stack) (c : Spot) (s : State) → keyed fs f (key_of c) ≡ Some s → Turned (brackets f + 1) c s
keyed_turned fs f (name us, a) s e = that_comes _ s e refl tt
keyed_turned fs f (text us, a) s e = that_comes _ s e refl tt
keyed_turned fs f (num n, a) s e = that_comes _ s e refl tt
keyed_turned fs f (word n, a) s e = none_some s e
keyed_turned fs f (punct n, a) s e = none_some s e

key_turned : (fs : List Field) (f : Stack) (c : Spot) (s : State) → key_step fs f c ≡ Some s → Turned (brackets f + 1) c s
key_turned fs f c s e = elim (chosen (is close_brace c) (when (none_yet fs) (have (tree.object tree.no_fields) f)) (keyed fs f (key_of c)) (Some s) e) [
  | inl g ↦ at_mark close_brace c s g.0 (turned_when (none_yet fs) (have (tree.object tree.no_fields) f) s g.1 (record { counted = back (brackets f); steady = tt }))
  | inr g ↦ keyed_turned fs f c s g.1
]

after_item_turned : (h : Bool) (its : List Item) (f : Stack) (c : Spot) (s : State) → after_item h its f c ≡ Some s → Turned (one_more h (brackets f)) c s
after_item_turned h its f c s e = turned_or comma c (item h its f) _ s e refl tt (λ e. rest h e)
  where
    rest : (h : Bool) → cond h (when (is semicolon c) (for_second (tree.first_var (items_of its)) f)) (when (is semicolon c) (ended (tree.var (items_of its)) f)) ≡ Some s → Turned (one_more h (brackets f)) c s
    rest true e = turned_token semicolon c _ s e refl tt
    rest false e = turned_token semicolon c _ s e refl tt

infix_still : (i : Bool) (c : Spot) (j : Infix) (o : ℕ) → infix_of i c.0 ≡ Some j → o ≡ turn o c
unfolding look_up
infix_still i c j o e = still o c (not_false _ (looked_up (λ t x. not (opens t)) infixes c.0 j refl (infix_found i c.0 j e))) (not_false _ (looked_up (λ t x. not (shuts t)) infixes c.0 j refl (infix_found i c.0 j e)))

shifted_turned : (q : Option Infix) (i : Bool) (x : E) (f : Stack) (c : Spot) (s : State) → infix_of i c.0 ≡ q → shifted q x f ≡ Some s → Turned (brackets f) c s
shifted_turned None i x f c s g e = none_some s e
shifted_turned (Some (joins j)) i x f c s g e = turned_when (takes_left j x) (want (join j x ∷ f)) s e (record { counted = infix_still i c _ _ g; steady = tt })
shifted_turned (Some a_query) i x f c s g e = that _ s e (infix_still i c _ _ g) tt
shifted_turned (Some (a_step up)) i x f c s g e = turned_when (is_target x) (past (tree.step up false x) f) s e (record { counted = infix_still i c _ _ g; steady = tt })

closes_turned : (g : Frame) (f : Stack) (x : E) (c : Spot) (s : State) → closes g x f c ≡ Some s → Turned (brackets (g ∷ f)) c s
closes_turned paren f x c s e = turned_token close_paren c _ s e (back _) tt
closes_turned (subscript y) f x c s e = turned_token close_bracket c _ s e (back _) tt
closes_turned (items o xs) f x c s e = after_expr_turned o (xs ++ x ∷ []) f c s e
closes_turned (field gs n) f x c s e = turned_or comma c (key (gs ++ (n, x) ∷ []) f) _ s e refl tt (λ e. turned_token close_brace c _ s e (back _) tt)
closes_turned (test y) f x c s e = turned_token colon c _ s e refl tt
closes_turned statement f x c s e = turned_token semicolon c _ s e refl tt
closes_turned (value h n its) f x c s e = after_item_turned h (its ++ (n, tree.some_expr x) ∷ []) f c s e
closes_turned if_test f x c s e = turned_token close_paren c _ s e (back _) tt
closes_turned while_test f x c s e = turned_token close_paren c _ s e (back _) tt
closes_turned (do_test r) f x c s e = turned_token close_paren c _ s e (back _) tt
closes_turned for_first f x c s e = elim (chosen (is in_word c) (when (is_target x) (want (for_object (tree.loop_expr x) ∷ f))) (when (is semicolon c) (for_second (tree.first_expr x) f)) (Some s) e) [
  | inl g ↦ at_mark in_word c s g.0 (turned_when (is_target x) (want (for_object (tree.loop_expr x) ∷ f)) s g.1 (record { counted = refl; steady = tt }))
  | inr g ↦ turned_token semicolon c (for_second (tree.first_expr x) f) s g.1 refl tt
]
closes_turned (for_test r) f x c s e = turned_token semicolon c _ s e refl tt
closes_turned (for_step r m) f x c s e = turned_token close_paren c _ s e (back _) tt
closes_turned (for_object r) f x c s e = turned_token close_paren c _ s e (back _) tt
closes_turned (giving a) f x c s e = turned_token semicolon c _ s e refl tt
closes_turned throwing f x c s e = turned_token semicolon c _ s e refl tt
closes_turned (with_head a) f x c s e = turned_token close_paren c _ s e (back _) tt
closes_turned switch_head f x c s e = turned_token close_paren c _ s e refl (opening open_brace (clauses x f) refl (omega arith) tt)
closes_turned (case_test y cs) f x c s e = turned_token colon c _ s e refl tt
closes_turned _ f x c s e = none_some s e

-- a frame that is filled has no bracket of its own
filled_same : (g : Frame) (f : Stack) (x y : E) → filled g x ≡ Some y → brackets (g ∷ f) ≡ brackets f
filled_same new_of f x y e = refl
filled_same (prefix_step up) f x y e = refl
filled_same (prefix op a) f x y e = refl
filled_same (join j z) f x y e = refl
filled_same (either z q) f x y e = refl
filled_same _ f x y e = none_some y e

abbrev settled : Bool → Frame → Stack → E → Spot → Option E → Option State
settled i f k x c o = elim o [ Some y ↦ settle i k y c | None ↦ closes f x k c ]

settle_turned : (f : Stack) (i : Bool) (x : E) (c : Spot) (s : State) → settle i f x c ≡ Some s → Turned (brackets f) c s
unfolding settle
settle_turned [] i x c s e = shifted_turned (infix_of i c.0) i x [] c s refl e
settle_turned (g ∷ f) i x c s e = elim (chosen (binds (infix_of i c.0) g) _ _ (Some s) e) [
  | inl p ↦ shifted_turned (infix_of i c.0) i x (g ∷ f) c s refl p.1
  | inr p ↦ go (λ y k. settle_turned f i y c s k) (filled g x) refl p.1
]
  where
    go : ((y : E) → settle i f y c ≡ Some s → Turned (brackets f) c s) → (o : Option E) → filled g x ≡ o → settled i g f x c o ≡ Some s → Turned (brackets (g ∷ f)) c s
    go rec None fi e = closes_turned g f x c s e
    go rec (Some y) fi e = subst (λ (n : ℕ). Turned n c s) (sym (filled_same g f x y fi)) (rec y e)

arguments_turned : (f : Stack) (x : E) (a : ℕ) → Turned (brackets f) (open_paren, a) (arguments x f)
arguments_turned [] x a = record { counted = refl; steady = tt }
arguments_turned (new_of ∷ f) x a = record { counted = refl; steady = tt }
arguments_turned (_ ∷ f) x a = record { counted = refl; steady = tt }

have_turned : (f : Stack) (x : E) (c : Spot) (s : State) → have_step x f c ≡ Some s → Turned (brackets f) c s
have_turned f x c s e = turned_or point c (member x f) _ s e refl tt (λ e. turned_or open_bracket c (want (subscript x ∷ f)) _ s e refl tt
    (λ e. (let m = arguments_turned f x c.1 in turned_or open_paren c (arguments x f) _ s e m.counted m.steady (λ e. settle_turned f (no_in_here f) x c s e))))

member_turned : (x : E) (f : Stack) (c : Spot) (s : State) → member_step x f c ≡ Some s → Turned (brackets f) c s
member_turned x f (name us, a) s e = that _ s e refl tt
member_turned x f _ s e = none_some s e

listed_turned : (o : Opened) (xs : List E) (f : Stack) (c : Spot) (s : State) → open_step o xs f c ≡ Some s → Turned (brackets f + 1) c s
listed_turned o xs f c s e = (let i = closer_shuts o in turned_or (closer o) c (have (closed_list o xs) f) _ s e (down (brackets f) (closer o, c.1) i.0 i.1) tt (λ e. operand_turned (items o xs ∷ f) c s e))

-- ---- functions

bodied_turned : (h : Head) (ps : List Word) (f : Stack) (a : ℕ) → Turned (brackets f + 1) (close_paren, a) (bodied h ps f)
bodied_turned h ps f a = record { counted = refl; steady = opening open_brace (start (body (a_function h ps) [] ∷ f)) refl (omega arith) tt }

unnamed_turned : (d b : Bool) (a : ℕ) (f : Stack) (c : Spot) (s : State) → is open_paren c ≡ b → when (not d && b) (params (head d None a) f) ≡ Some s → Turned (brackets f) c s
unnamed_turned true b a f c s g e = none_some s e
unnamed_turned false false a f c s g e = none_some s e
unnamed_turned false true a f c s g e = at_mark open_paren c s g (that _ s e refl tt)

func_turned : (d : Bool) (a : ℕ) (f : Stack) (c : Spot) (s : State) → func_step d a f c ≡ Some s → Turned (brackets f) c s
func_turned d a f (name us, b) s e = that_opens open_paren _ s e refl refl refl tt
func_turned d a f c s e = unnamed_turned d (is open_paren c) a f c s refl e

params_turned : (h : Head) (f : Stack) (c : Spot) (s : State) → params_step h f c ≡ Some s → Turned (brackets f + 1) c s
params_turned h f (name us, b) s e = that _ s e refl tt
params_turned h f c s e = (let m = bodied_turned h [] f c.1 in turned_token close_paren c (bodied h [] f) s e m.counted m.steady)

param_turned : (h : Head) (ps : List Word) (f : Stack) (c : Spot) (s : State) → param_step h ps f c ≡ Some s → Turned (brackets f + 1) c s
param_turned h ps f (name us, b) s e = that _ s e refl tt
param_turned h ps f _ s e = none_some s e

param_end_turned : (h : Head) (ps : List Word) (f : Stack) (c : Spot) (s : State) → param_end_step h ps f c ≡ Some s → Turned (brackets f + 1) c s
param_end_turned h ps f c s e = (let m = bodied_turned h ps f c.1 in turned_or comma c (param h ps f) _ s e refl tt (λ e. turned_token close_paren c (bodied h ps f) s e m.counted m.steady))

-- ---- statements

clause_turned : (x : E) (cs : List Clause) (f : Stack) (c : Spot) (s : State) → clause_step x cs f c ≡ Some s → Turned (brackets f + 1) c s
clause_turned x cs f c s e = turned_or case_word c (want (case_test x cs ∷ f)) _ s e refl tt
    (λ e. elim (chosen (is default_word c) (when (not (has_default (cases_of cs))) (await (colon ∷ []) (start (body (a_clause x cs tree.no_expr) [] ∷ f)))) (when (is close_brace c) (cases_closed x cs f)) (Some s) e) [
      | inl g ↦ at_mark default_word c s g.0 (turned_when (not (has_default (cases_of cs))) (await (colon ∷ []) (start (body (a_clause x cs tree.no_expr) [] ∷ f))) s g.1 (that_comes (start (body (a_clause x cs tree.no_expr) [] ∷ f)) _ refl refl tt))
      | inr g ↦ turned_token close_brace c (cases_closed x cs f) s g.1 (back _) tt
    ])

made_turned : (d : Bool) (x : Placed t.func) (f : Stack) (a : ℕ) → Turned (brackets f + 1) (close_brace, a) (func_made d x f)
made_turned false x f a = record { counted = back _; steady = tt }
made_turned true x [] a = record { counted = back _; steady = tt }
made_turned true x (body b ss ∷ f) a = record { counted = back _; steady = tt }
made_turned true x (_ ∷ f) a = record { counted = back _; steady = tt }

body_turned : (o : Body) (ss : List S) (f : Stack) (a : ℕ) (s : State) → body_closed o ss f ≡ Some s → Turned (brackets (body o ss ∷ f)) (close_brace, a) s
body_turned a_program ss f a s e = none_some s e
body_turned (a_function h ps) ss f a s e = the_turned _ s e (made_turned h.declared (func_of h ps ss) f a)
body_turned _ ss f a s e = that _ s e (back _) tt

list_turned : (f : Stack) (a : ℕ) (s : State) → list_closed f ≡ Some s → Turned (brackets f) (close_brace, a) s
list_turned (body o ss ∷ f) a s e = body_turned o ss f a s e
list_turned [] a s e = none_some s e
list_turned _ a s e = none_some s e

next_turned : (f : Stack) (c : Spot) (s : State) → next_clause f c ≡ Some s → Turned (brackets f) c s
next_turned (body (a_clause x cs m) ss ∷ f) c s e = clause_turned x (cs ++ (m, ss) ∷ []) f c s e
next_turned [] c s e = none_some s e
next_turned _ c s e = none_some s e

sign_turned : (f : Stack) (a : ℕ) (b : Begin) (s : State) → (b ≡ a_next_clause → ⊥) → begin_by f (begin_sign b, a) (Some b) ≡ Some s → Turned (brackets f) (begin_sign b, a) s
sign_turned f a a_block_begins s n e = that _ s e refl tt
sign_turned f a a_list_ends s n e = list_turned f a s e
sign_turned f a an_empty s n e = that _ s e refl tt
sign_turned f a (a_break true) s n e = that _ s e refl tt
sign_turned f a (a_break false) s n e = that _ s e refl tt
sign_turned f a a_next_clause s n e = absurd (n refl)
sign_turned f a a_do s n e = that _ s e refl tt
sign_turned f a a_for s n e = that_opens open_paren _ s e refl refl refl tt
sign_turned f a a_declaration s n e = turned_when (declares f) (func true a f) s e (record { counted = refl; steady = tt })
sign_turned f a an_if s n e = that_opens open_paren _ s e refl refl refl tt
sign_turned f a a_return s n e = that _ s e refl tt
sign_turned f a a_switch s n e = that_opens open_paren _ s e refl refl refl tt
sign_turned f a a_throw s n e = that _ s e refl tt
sign_turned f a a_try_begins s n e = that_opens open_brace _ s e refl refl refl tt
sign_turned f a a_var s n e = that _ s e refl tt
sign_turned f a a_while s n e = that_opens open_paren _ s e refl refl refl tt
sign_turned f a a_with s n e = that_opens open_paren _ s e refl refl refl tt

begin_by_turned : (f : Stack) (c : Spot) (q : Option Begin) (s : State) → look_up begins c.0 ≡ q → begin_by f c q ≡ Some s → Turned (brackets f) c s
begin_by_turned f c None s g e = operand_turned (statement ∷ f) c s e
begin_by_turned f c (Some b) s g e = elim (clause_or b) [
  | inl k ↦ next_turned f c s (subst (λ b. begin_by f c (Some b) ≡ Some s) k e)
  | inr k ↦ (let i = sign_is c.0 b g k in subst (λ (z : Token). begin_by f (z, c.1) (Some b) ≡ Some s → Turned (brackets f) (z, c.1) s) (sym i) (λ e. sign_turned f c.1 b s k e) e)
]

begin_turned : (f : Stack) (c : Spot) (s : State) → begin f c ≡ Some s → Turned (brackets f) c s
begin_turned f (name us, a) s e = that _ s e refl tt
begin_turned f c s e = begin_by_turned f c (look_up begins c.0) s refl e

resume_turned : (f : Stack) (x : S) (c : Spot) (s : State) → resume f x c ≡ Some s → Turned (brackets f) c s
unfolding resume
resume_turned [] x c s e = none_some s e
resume_turned (then_of y ∷ f) x c s e = turned_or else_word c (start (else_of y x ∷ f)) _ s e refl tt (λ e. resume_turned f _ c s e)
resume_turned (else_of y r ∷ f) x c s e = resume_turned f _ c s e
resume_turned (while_body y ∷ f) x c s e = resume_turned f _ c s e
resume_turned (do_body ∷ f) x c s e = turned_token while_word c (await (open_paren ∷ []) (want (do_test x ∷ f))) s e (sym (back _)) (opening open_paren (want (do_test x ∷ f)) refl (omega arith) tt)
resume_turned (for_body r m n ∷ f) x c s e = resume_turned f _ c s e
resume_turned (in_body r y ∷ f) x c s e = resume_turned f _ c s e
resume_turned (with_body y a ∷ f) x c s e = resume_turned f _ c s e
resume_turned (label_of n ∷ f) x c s e = resume_turned f _ c s e
resume_turned (body b ss ∷ f) x c s e = begin_turned (body b (ss ++ x ∷ []) ∷ f) c s e
resume_turned _ x c s e = none_some s e

item_turned : (h : Bool) (its : List Item) (f : Stack) (c : Spot) (s : State) → item_step h its f c ≡ Some s → Turned (one_more h (brackets f)) c s
item_turned h its f (name us, a) s e = that _ s e refl tt
item_turned h its f _ s e = none_some s e

object_turned : (h : Bool) (n : Word) (its : List Item) (f : Stack) (c : Spot) → (h ≡ true) × (first_item its ≡ true) × (is in_word c ≡ true) → Turned (one_more h (brackets f)) c (want (for_object (tree.loop_var n) ∷ f))
object_turned true n its f c g = at_mark in_word c _ g.2 (record { counted = refl; steady = tt })
object_turned false n its f c g = absurd (let e = g.0 in cc)

item_end_turned : (h : Bool) (n : Word) (its : List Item) (f : Stack) (c : Spot) (s : State) → item_end_step h n its f c ≡ Some s → Turned (one_more h (brackets f)) c s
item_end_turned h n its f c s e = turned_or equals c (want (value h n its ∷ f)) _ s e refl tt
    (λ e. elim (chosen (h && first_item its && is in_word c) (Some (want (for_object (tree.loop_var n) ∷ f))) (after_item h (its ++ (n, tree.no_expr) ∷ []) f c) (Some s) e) [
      | inl k ↦ the_turned _ s k.1 (object_turned h n its f c (and_three h (first_item its) (is in_word c) k.0))
      | inr k ↦ after_item_turned h (its ++ (n, tree.no_expr) ∷ []) f c s k.1
    ])

jumped_turned : (b : Bool) (a : ℕ) (f : Stack) (c : Spot) (s : State) → jumped_step b a f c ≡ Some s → Turned (brackets f) c s
jumped_turned b a f (name us, d) s e = that _ s e refl tt
jumped_turned b a f c s e = turned_token semicolon c (ended (jump b None a) f) s e refl tt

finally_turned : (ss : List S) (h : Placed t.handler) (f : Stack) (a : ℕ) → Turned (brackets f) (finally_word, a) (finally_begins ss h f)
finally_turned ss h f a = that_opens open_brace (start (body (a_finally ss h) [] ∷ f)) _ refl refl refl refl tt

tried_turned : (ss : List S) (f : Stack) (c : Spot) (s : State) → tried_step ss f c ≡ Some s → Turned (brackets f) c s
tried_turned ss f c s e = turned_or catch_word c (await (open_paren ∷ []) (catch_name ss f)) _ s e (sym (back _)) (opening open_paren (catch_name ss f) refl (omega arith) tt)
    (λ e. (let m = finally_turned ss tree.no_handler f c.1 in turned_token finally_word c _ s e m.counted m.steady))

caught_turned : (ss : List S) (n : Word) (hs : List S) (f : Stack) (c : Spot) (s : State) → caught_step ss n hs f c ≡ Some s → Turned (brackets f) c s
caught_turned ss n hs f c s e = (let m = finally_turned ss (tree.some_handler n (stmts_of hs)) f c.1 in turned_or finally_word c (finally_begins ss (tree.some_handler n (stmts_of hs)) f) _ s e m.counted m.steady (λ e. resume_turned f (caught_made ss n hs) c s e))

catch_turned : (ss : List S) (f : Stack) (c : Spot) (s : State) → catch_name_step ss f c ≡ Some s → Turned (brackets f + 1) c s
catch_turned ss f (name us, a) s e = that _ s e (ap (λ (n : ℕ). n + 1) (sym (back _))) ((λ e. absurd cc, (λ e. (refl, omega arith), tt)), tt)
catch_turned ss f _ s e = none_some s e

-- ---- what is awaited

await_counted : (d : Token) (ds : List Token) (n a : ℕ) (b : Bool) → Ready (d ∷ ds) n b → open_before ds n ≡ turn (open_before (d ∷ ds) n) (d, a)
await_counted d ds n a b r = go (opens d) refl (shuts d) refl
  where
    go : (o : Bool) → opens d ≡ o → (s : Bool) → shuts d ≡ s
        → open_before ds n ≡ cond o (cond o (open_before ds n - 1) (cond s (open_before ds n + 1) (open_before ds n)) + 1)
        (cond s (cond o (open_before ds n - 1) (cond s (open_before ds n + 1) (open_before ds n)) - 1) (cond o (open_before ds n - 1) (cond s (open_before ds n + 1) (open_before ds n))))
    go true p s q = (let i = r.0 p in omega (arith, i.1))
    go false p true q = back _
    go false p false q = refl

await_turned : (ds : List Token) (r : State) (c : Spot) (s : State) → Ready ds (brackets_in r) (peak r) → Steady r → await_step ds r c ≡ Some s → Turned (open_before ds (brackets_in r)) c s
await_turned [] r c s h k e = none_some s e
await_turned (d ∷ []) r c s h k e = turned_token d c r s e (await_counted d [] (brackets_in r) c.1 (peak r) h) k
await_turned (d ∷ g ∷ ds) r c s h k e = turned_token d c (await (g ∷ ds) r) s e (await_counted d (g ∷ ds) (brackets_in r) c.1 (peak r) h) (h.1, k)

pub step_turned : (s : State) (c : Spot) (r : State) → Steady s → step s c ≡ Some r → Turned (brackets_in s) c r
unfolding step
step_turned (want f) c r h e = operand_turned f c r e
step_turned (have x f) c r h e = have_turned f x c r e
step_turned (past x f) c r h e = settle_turned f (no_in_here f) x c r e
step_turned (listed o xs f) c r h e = listed_turned o xs f c r e
step_turned (member x f) c r h e = member_turned x f c r e
step_turned (key fs f) c r h e = key_turned fs f c r e
step_turned (func d a f) c r h e = func_turned d a f c r e
step_turned (params k f) c r h e = params_turned k f c r e
step_turned (param k ps f) c r h e = param_turned k ps f c r e
step_turned (param_end k ps f) c r h e = param_end_turned k ps f c r e
step_turned (start f) c r h e = begin_turned f c r e
step_turned (begun n f) c r h e = turned_or colon c (start (label_of n ∷ f)) _ r e refl tt (λ e. have_turned (statement ∷ f) (tree.name n) c r e)
step_turned (ended s f) c r h e = resume_turned f s c r e
step_turned (closing s f) c r h e = turned_token semicolon c (ended s f) r e refl tt
step_turned (item k its f) c r h e = item_turned k its f c r e
step_turned (item_end k n its f) c r h e = item_end_turned k n its f c r e
step_turned (for_open f) c r h e = turned_or var_word c (item true [] f) _ r e refl tt (λ e. turned_or semicolon c (for_second tree.no_first f) _ r e refl tt (λ e. operand_turned (for_first ∷ f) c r e))
step_turned (for_second i f) c r h e = turned_or semicolon c (for_third i tree.no_expr f) _ r e refl tt (λ e. operand_turned (for_test i ∷ f) c r e)
step_turned (for_third i m f) c r h e = turned_or close_paren c (start (for_body i m tree.no_expr ∷ f)) _ r e (back _) tt (λ e. operand_turned (for_step i m ∷ f) c r e)
step_turned (returned a f) c r h e = turned_or semicolon c (ended (tree.return tree.no_expr a) f) _ r e refl tt (λ e. operand_turned (giving a ∷ f) c r e)
step_turned (jumped b a f) c r h e = jumped_turned b a f c r e
step_turned (clauses x f) c r h e = clause_turned x [] f c r e
step_turned (tried ss f) c r h e = tried_turned ss f c r e
step_turned (caught ss n hs f) c r h e = caught_turned ss n hs f c r e
step_turned (catch_name ss f) c r h e = catch_turned ss f c r e
step_turned (await ds s) c r h e = await_turned ds s c r h.0 h.1 e
