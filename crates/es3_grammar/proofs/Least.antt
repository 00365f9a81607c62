-- No step makes the shortest end of a text less deep, or opens fewer brackets in all.
use Rattle.es3_grammar.proofs.Texts.{Kind}
use Rattle.es3_grammar.proofs.Fits.{By, Takes, Fits, body_more}
use Rattle.es3_grammar.proofs.Sound.{begin_sign, sign_is, clause_or, and_three}
use Rattle.es3_grammar.specs.Levels as l
use Rattle.es3_tree.specs.declared.UnOp.TheVariants.{Delete, Void, Typeof, Plus, Minus, BitNot, Not}
use Rattle.es3_tree.specs.declared.UnOp.{UnOp}
use Rattle.es3_grammar.proofs.Follow.{own_in_left}
use Rattle.es3_grammar.proofs.Heights.{more_at, more_behind, target_less, target_next, any_next, joined_deep, exprs_deep, fields_deep, stmts_deep, items_deep, cases_deep, cond_more}
use Rattle.es3_grammar.specs.Ends.{spot, letter, close_value, stepped, close_new, close, close_statement, close_func, close_start, close_key, tail, height_at, height_behind, height_func, height_start, height_key, height_items, height}
use Rattle.es3_grammar.specs.Plain.{deep}
use Rattle.es3_grammar.specs.Limit.{opens, shuts, most}
use Rattle.std.proofs.Common.{◌≡◌, ℕ, ◌≤◌, Bool, true, false, cond, not, ◌&&◌, List, [], ◌∷◌, ◌++◌, Option, Some, None, refl, subst, inl, inr, nat_le, max, ◌-◌, ◌+◌, arith, ap, sym, ◌∙◌}
use Rattle.std.proofs.lemmas.Bool.{lt-leb}
use Rattle.es3_tree.specs.Token.{Token, name, word, punct, num, text}
use Rattle.es3_tree.specs.Tree as t
use Rattle.es3_tree.specs.Placed as tree
use Rattle.es3_tree.specs.Placed.{Placed, Word}
use Rattle.es3_grammar.specs.Spots.{Spot, is, look_up, case_word, catch_word, default_word, else_word, finally_word, in_word, var_word, close_brace, open_paren, close_paren, open_bracket, point, semicolon, comma, colon, equals, while_word, open_brace, close_bracket}
use Rattle.es3_grammar.specs.Levels.{E, is_target, takes_left, Infix, joins, a_query, a_step, infix_of, Opening, a_prefix, a_prefix_step, openings, infixes, unary_sign, step_sign, a_this, a_null, a_paren, an_object}
use Rattle.es3_grammar.specs.Grammar.{S, key_of, has_default, placed_word}
use Rattle.es3_grammar.specs.Frames.{Field, Item, Clause, stmts_of, items_of, cases_of, Opened, an_array, a_call, a_new, Head, head, Body, a_program, a_block, a_function, a_clause, a_try, a_catch, a_finally, Frame, paren, subscript, items, field, new_of, prefix_step, prefix, join, test, either, statement, value, if_test, while_test, do_test, for_first, for_test, for_step, for_object, giving, throwing, with_head, switch_head, case_test, then_of, else_of, while_body, do_body, for_body, in_body, with_body, label_of, body, Stack, State, want, have, past, listed, member, key, func, params, param, param_end, start, begun, ended, closing, item, item_end, for_open, for_second, for_third, returned, jumped, clauses, tried, caught, catch_name, await, asked, no_in_here, exprs_of, fields_of}
use Rattle.es3_grammar.specs.Machine.{when, opened, operand, closer, after_expr, none_yet, keyed, key_step, func_step, bodied, params_step, param_step, func_of, func_made, infix_own, binds, shifted, filled, after_item, closes, settle, arguments, have_step, member_step, declares, cases_closed, clause_step, body_closed, list_closed, next_clause, Begin, a_block_begins, a_list_ends, an_empty, a_break, a_next_clause, a_do, a_for, a_declaration, an_if, a_return, a_switch, a_throw, a_try_begins, a_var, a_while, a_with, begins, begin_by, begin, resume, item_step, first_item, jump, jumped_step, finally_begins, catch_name_step, caught_made, await_step, step, item_end_step, open_step}
use Rattle.es3_grammar.proofs.Tables.{chosen, some_is, none_some, spot_is, opening_sign, opening_is, looked_up, infix_found, not_false}
use Rattle.es3_grammar.proofs.SoundParts.{not_target}

-- ---- brackets

pub most_low : (z : List Spot) (o : ℕ) → o ≤ most o z
most_low [] o = omega arith
most_low (c ∷ z) o = omega arith

pub most_back : (k : List Spot) (o : ℕ) → most ((o + 1) - 1) k ≡ most o k
most_back k o = ap (λ (x : ℕ). most x k) (back o)
  where
    back : (o : ℕ) → (o + 1) - 1 ≡ o
    back o = omega arith

close_same : (f : Stack) (b : Bool) (o : ℕ) → most o (close b f) ≡ most o (close true f)
close_same [] b o = refl
close_same (paren ∷ f) b o = ap (max o) (close_same f b (o - 1))
close_same (prefix_step up ∷ f) true o = refl
close_same (prefix_step up ∷ f) false o = omega (arith, most_low (close false f) o)
close_same (_ ∷ f) b o = refl

close_either : (f : Stack) (b c : Bool) (o : ℕ) → most o (close b f) ≡ most o (close c f)
close_either f b c o = close_same f b o ∙ sym (close_same f c o)

-- a state behind a token makes a tree that is as deep at least, and opens as many brackets at least
pub record More (h : ℕ) (z : List Spot) (c : Spot) (s : State) : Type 0 where
  pub higher : h ≤ height s
  pub wider : (o : ℕ) → most o z ≤ most o (c ∷ tail s)

the_more : (h : ℕ) (z : List Spot) (c : Spot) (r s : State) → Some r ≡ Some s → More h z c r → More h z c s
the_more h z c r s e m = subst (λ (x : State). More h z c x) (some_is r s e) m

more_when : (h : ℕ) (z : List Spot) (c : Spot) (b : Bool) (r s : State) → when b r ≡ Some s → (b ≡ true → More h z c r) → More h z c s
more_when h z c true r s e m = the_more h z c r s e (m refl)
more_when h z c false r s e m = none_some s e

at_mark : (h : ℕ) (z : List Spot) (d : Token) (c : Spot) (s : State) → is d c ≡ true → More h z (d, c.1) s → More h z c s
at_mark h z d c s e m = subst (λ (x : Spot). More h z x s) (sym (spot_is d c e)) m

more_token : (h : ℕ) (z : List Spot) (d : Token) (c : Spot) (r s : State) → when (is d c) r ≡ Some s → More h z (d, c.1) r → More h z c s
more_token h z d c r s e m = more_when h z c (is d c) r s e (λ g. at_mark h z d c r g m)

more_or : (h : ℕ) (z : List Spot) (d : Token) (c : Spot) (r : State) (o : Option State) (s : State) → cond (is d c) (Some r) o ≡ Some s → More h z (d, c.1) r → (o ≡ Some s → More h z c s) → More h z c s
more_or h z d c r o s e m k = elim (chosen (is d c) (Some r) o (Some s) e) [ inl g ↦ the_more h z c r s g.1 (at_mark h z d c r g.0 m) | inr g ↦ k g.1 ]

-- ---- an operand begins

new_wider : (b : Bool) (k : List Spot) (o : ℕ) → most o k ≤ most o (close_new b k)
new_wider true k o = omega (arith, most_back k o)
new_wider false k o = omega arith

opened_more : (f : Stack) (a : ℕ) (o : Opening) (s : State) → opened f a (Some o) ≡ Some s → More (height_at true f 1) (letter ∷ close true f) (opening_sign o, a) s
opened_more f a a_this s e = the_more _ _ _ _ s e (record { higher = target_less f false 1; wider = λ o. omega (arith, close_same f false o) })
opened_more f a a_null s e = the_more _ _ _ _ s e (record { higher = target_less f false 1; wider = λ o. omega (arith, close_same f false o) })
opened_more f a (l.a_bool true) s e = the_more _ _ _ _ s e (record { higher = target_less f false 1; wider = λ o. omega (arith, close_same f false o) })
opened_more f a (l.a_bool false) s e = the_more _ _ _ _ s e (record { higher = target_less f false 1; wider = λ o. omega (arith, close_same f false o) })
opened_more f a a_paren s e = the_more _ _ _ _ s e (record { higher = omega arith; wider = λ o. omega (arith, most_back (close true f) o) })
opened_more f a l.an_array s e = the_more _ _ _ _ s e (record { higher = target_less f false 1; wider = λ o. omega (arith, most_back (close false f) o, close_same f false o) })
opened_more f a an_object s e = the_more _ _ _ _ s e (record { higher = target_less f false 1; wider = λ o. omega (arith, most_back (close false f) o, close_same f false o) })
opened_more f a l.a_function s e = the_more _ _ _ _ s e (record { higher = omega (arith, target_less f false 1, more_at f false 1 2 (omega arith)); wider = λ o. omega (arith, func_wide (close false f) o, close_same f false o) })
  where
    func_wide : (k : List Spot) (o : ℕ) → most o k ≤ most o (spot open_paren ∷ spot close_paren ∷ spot open_brace ∷ spot close_brace ∷ k)
    func_wide k o = omega (arith, most_back k o, most_back (spot open_brace ∷ spot close_brace ∷ k) o)
opened_more f a l.a_new s e = the_more _ _ _ _ s e (record { higher = omega (arith, target_less f false 1, more_at f false 1 2 (omega arith)); wider = λ o. omega (arith, new_wider (stepped f) (close false f) o, close_same f false o) })
opened_more f a (a_prefix op) s e = more_when _ _ _ (nat_le (asked f) 13) (want (prefix op a ∷ f)) s e (λ g. record { higher = omega (arith, target_less f false 1, more_at f false 1 2 (omega arith)); wider = λ o. omega (arith, unary_wide op a (letter ∷ close false f) o, most_low (close false f) o, close_same f false o) })
  where
    unary_wide : (op : UnOp) (a : ℕ) (k : List Spot) (o : ℕ) → most o k ≤ most o ((unary_sign op, a) ∷ k)
    unary_wide Delete a k o = omega arith
    unary_wide Void a k o = omega arith
    unary_wide Typeof a k o = omega arith
    unary_wide Plus a k o = omega arith
    unary_wide Minus a k o = omega arith
    unary_wide BitNot a k o = omega arith
    unary_wide Not a k o = omega arith
opened_more f a (a_prefix_step up) s e = more_when _ _ _ (nat_le (asked f) 13) (want (prefix_step up ∷ f)) s e (λ g. record { higher = omega (arith, target_less f false 1, more_at f false 1 2 (omega arith)); wider = λ o. omega (arith, step_wide up a (letter ∷ close false f) o, most_low (close false f) o, close_same f false o) })
  where
    step_wide : (up : Bool) (a : ℕ) (k : List Spot) (o : ℕ) → most o k ≤ most o ((step_sign up, a) ∷ k)
    step_wide true a k o = omega arith
    step_wide false a k o = omega arith

found_more : (f : Stack) (r : Token) (a : ℕ) (o : Option Opening) (s : State) → look_up openings r ≡ o → opened f a o ≡ Some s → More (height_at true f 1) (letter ∷ close true f) (r, a) s
found_more f r a None s is_o e = none_some s e
found_more f r a (Some o) s is_o e = subst (λ (z : Token). More (height_at true f 1) (letter ∷ close true f) (z, a) s) (sym (opening_is r o is_o)) (opened_more f a o s e)

operand_more : (f : Stack) (c : Spot) (s : State) → operand f c ≡ Some s → More (height_at true f 1) (letter ∷ close true f) c s
operand_more f (name us, a) s e = the_more _ _ _ _ s e (record { higher = omega arith; wider = λ o. omega arith })
operand_more f (num n, a) s e = the_more _ _ _ _ s e (record { higher = target_less f false 1; wider = λ o. omega (arith, close_same f false o) })
operand_more f (text us, a) s e = the_more _ _ _ _ s e (record { higher = target_less f false 1; wider = λ o. omega (arith, close_same f false o) })
operand_more f (word n, a) s e = found_more f (word n) a (look_up openings (word n)) s refl e
operand_more f (punct n, a) s e = found_more f (punct n) a (look_up openings (punct n)) s refl e

-- more than a state where less is forced
pub less_more : (h k : ℕ) (z w : List Spot) (c : Spot) (s : State) → h ≤ k → ((o : ℕ) → most o z ≤ most o w) → More k w c s → More h z c s
less_more h k z w c s le wd m = record { higher = (let g = m.higher in omega arith); wider = λ o. (let g = m.wider o in let i = wd o in omega arith) }

-- ---- an operator behind a part

neutral : (i : Bool) (c : Spot) (j : Infix) → infix_of i c.0 ≡ Some j → (k : List Spot) (o : ℕ) → most o k ≤ most o (c ∷ k)
unfolding look_up
neutral i c j e k o = (let op = not_false _ (looked_up (λ t x. not (opens t)) infixes c.0 j refl (infix_found i c.0 j e)) in let sh = not_false _ (looked_up (λ t x. not (shuts t)) infixes c.0 j refl (infix_found i c.0 j e)) in
    rw (op, sh) (omega arith))

shifted_more : (q : Option Infix) (i : Bool) (x : E) (f : Stack) (c : Spot) (s : State) → infix_of i c.0 ≡ q → shifted q x f ≡ Some s → More (height_at (is_target x) f (deep t.expr x)) (close (is_target x) f) c s
shifted_more None i x f c s g e = none_some s e
shifted_more (Some (joins j)) i x f c s g e = more_when _ _ _ (takes_left j x) (want (join j x ∷ f)) s e (λ k. record { higher = any_next f (is_target x) false _ _ (omega arith); wider = λ o. (let n = neutral i c (joins j) g (letter ∷ close false f) o in let m = most_low (close false f) o in let d = close_either f (is_target x) false o in omega arith) })
shifted_more (Some a_query) i x f c s g e = the_more _ _ _ _ s e (record { higher = any_next f (is_target x) false _ _ (omega arith); wider = λ o. (let n = neutral i c a_query g (letter ∷ spot colon ∷ letter ∷ close false f) o in let m = most_low (close false f) o in let d = close_either f (is_target x) false o in omega arith) })
shifted_more (Some (a_step up)) i x f c s g e = more_when _ _ _ (is_target x) (past (tree.step up false x) f) s e (λ k. record { higher = any_next f (is_target x) false _ _ (omega arith); wider = λ o. (let n = neutral i c (a_step up) g (close false f) o in let d = close_either f (is_target x) false o in omega arith) })

-- behind `new` within a prefix `++` no part that is no target settles
stuck : (f : Stack) (i : Bool) (y : E) (c : Spot) (s : State) → stepped f ≡ true → is_target y ≡ false → settle i f y c ≡ Some s → ⊥
unfolding settle
stuck [] i y c s h g e = cc
stuck (new_of ∷ f) i y c s h g e = stuck f i (tree.new y tree.no_exprs) c s h refl (subst (λ (b : Bool). cond b (shifted (infix_of i c.0) y (new_of ∷ f)) (settle i f (tree.new y tree.no_exprs) c) ≡ Some s) (high (infix_of i c.0)) e)
  where
    high : (o : Option Infix) → binds o new_of ≡ false
    high None = refl
    high (Some j) = lt-leb 15 (infix_own j) (omega (arith, own_in_left j))
stuck (prefix_step up ∷ f) i y c s h g e = never (infix_of i c.0) e
  where
    never : (o : Option Infix) → cond (binds o (prefix_step up)) (shifted o y (prefix_step up ∷ f)) (elim (cond (is_target y) (Some (tree.step up true y)) None) [ Some z ↦ settle i f z c | None ↦ None ]) ≡ Some s → ⊥
    never None e = absurd (let k : None ≡ Some s = rw g at e in none_some s k)
    never (Some j) e = absurd (let k : None ≡ Some s = rw (lt-leb 15 (infix_own j) (omega (arith, own_in_left j)), g) at e in none_some s k)
stuck (_ ∷ f) i y c s h g e = absurd cc

-- ---- a place that a token closes

after_expr_more : (o : Opened) (f : Stack) (c : Spot) (xs : List E) (x : E) (s : State) → after_expr o (xs ++ x ∷ []) f c ≡ Some s → More (height_at (is_target x) (items o xs ∷ f) (deep t.expr x)) (spot (closer o) ∷ close false f) c s
after_expr_more an_array f c xs x s e = more_or _ _ comma c (listed an_array (xs ++ x ∷ []) f) _ s e (record { higher = more_at f false _ _ (omega (arith, exprs_deep xs x)); wider = λ o. omega arith })
    (λ e. more_token _ _ close_bracket c (have (tree.array (exprs_of (xs ++ x ∷ []))) f) s e (record { higher = more_at f false _ _ (omega (arith, exprs_deep xs x)); wider = λ o. omega arith }))
after_expr_more (a_call y) f c xs x s e = more_or _ _ comma c (want (items (a_call y) (xs ++ x ∷ []) ∷ f)) _ s e (record { higher = more_at f false _ _ (omega (arith, exprs_deep xs x)); wider = λ o. omega arith })
    (λ e. more_token _ _ close_paren c (have (tree.call y (exprs_of (xs ++ x ∷ []))) f) s e (record { higher = more_at f false _ _ (omega (arith, exprs_deep xs x)); wider = λ o. omega arith }))
after_expr_more (a_new y) f c xs x s e = more_or _ _ comma c (want (items (a_new y) (xs ++ x ∷ []) ∷ f)) _ s e (record { higher = more_at f false _ _ (omega (arith, exprs_deep xs x)); wider = λ o. omega arith })
    (λ e. more_token _ _ close_paren c (have (tree.new y (exprs_of (xs ++ x ∷ []))) f) s e (record { higher = more_at f false _ _ (omega (arith, exprs_deep xs x)); wider = λ o. omega arith }))

key_high : (gs : List Field) (n : Word) (x : E) → 1 + max (deep t.fields (fields_of gs)) (deep t.expr x) ≤ height_key (gs ++ (n, x) ∷ [])
key_high [] n x = omega arith
key_high (g ∷ gs) n x = omega (arith, fields_deep (g ∷ gs) n x)

key_wide : (gs : List Field) (k : List Spot) (o : ℕ) → most o (spot close_brace ∷ k) ≤ most o (close_key gs k)
key_wide [] k o = omega arith
key_wide (g ∷ gs) k o = omega arith

after_item_more : (h : Bool) (f : Stack) (c : Spot) (its : List Item) (s : State) → after_item h its f c ≡ Some s → More (height_behind f (height_items h its)) (close_value h (close_statement f)) c s
after_item_more true f c its s e = more_or _ _ comma c (item true its f) _ s e (record { higher = omega arith; wider = λ o. omega arith })
    (λ e. more_token _ _ semicolon c (for_second (tree.first_var (items_of its)) f) s e (record { higher = omega arith; wider = λ o. omega arith }))
after_item_more false f c its s e = more_or _ _ comma c (item false its f) _ s e (record { higher = omega arith; wider = λ o. omega arith })
    (λ e. more_token _ _ semicolon c (ended (tree.var (items_of its)) f) s e (record { higher = omega arith; wider = λ o. omega arith }))

value_high : (h : Bool) (its : List Item) (n : Word) (x : E) (b : Bool) (f : Stack) → height_at b (value h n its ∷ f) (deep t.expr x) ≤ height_behind f (height_items h (its ++ (n, tree.some_expr x) ∷ []))
value_high true its n x b f = more_behind f _ _ (omega (arith, items_deep its n (tree.some_expr x)))
value_high false its n x b f = more_behind f _ _ (omega (arith, items_deep its n (tree.some_expr x)))

closes_more : (g : Frame) (f : Stack) (x : E) (c : Spot) (s : State) → closes g x f c ≡ Some s → More (height_at (is_target x) (g ∷ f) (deep t.expr x)) (close (is_target x) (g ∷ f)) c s
closes_more paren f x c s e = more_token _ _ close_paren c (have x f) s e (record { higher = omega arith; wider = λ o. omega arith })
closes_more (subscript y) f x c s e = more_token _ _ close_bracket c (have (tree.index y x) f) s e (record { higher = omega arith; wider = λ o. omega arith })
closes_more (items q xs) f x c s e = after_expr_more q f c xs x s e
closes_more (field gs n) f x c s e = more_or _ _ comma c (key (gs ++ (n, x) ∷ []) f) _ s e (record { higher = more_at f false _ _ (key_high gs n x); wider = λ o. omega (arith, key_wide (gs ++ (n, x) ∷ []) (close false f) o) })
    (λ e. more_token _ _ close_brace c (have (tree.object (fields_of (gs ++ (n, x) ∷ []))) f) s e (record { higher = more_at f false _ _ (omega (arith, fields_deep gs n x)); wider = λ o. omega arith }))
closes_more (test y) f x c s e = more_token _ _ colon c (want (either y x ∷ f)) s e (record { higher = omega arith; wider = λ o. omega arith })
closes_more statement f x c s e = more_token _ _ semicolon c (ended (tree.expression x) f) s e (record { higher = omega arith; wider = λ o. omega arith })
closes_more (value h n its) f x c s e = less_more _ _ _ _ c s (value_high h its n x (is_target x) f) (λ o. omega arith) (after_item_more h f c (its ++ (n, tree.some_expr x) ∷ []) s e)
closes_more if_test f x c s e = more_token _ _ close_paren c (start (then_of x ∷ f)) s e (record { higher = omega arith; wider = λ o. omega arith })
closes_more while_test f x c s e = more_token _ _ close_paren c (start (while_body x ∷ f)) s e (record { higher = omega arith; wider = λ o. omega arith })
closes_more (do_test r) f x c s e = more_token _ _ close_paren c (closing (tree.do_loop r x) f) s e (record { higher = omega arith; wider = λ o. omega arith })
closes_more for_first f x c s e = elim (chosen (is in_word c) (when (is_target x) (want (for_object (tree.loop_expr x) ∷ f))) (when (is semicolon c) (for_second (tree.first_expr x) f)) (Some s) e) [
  | inl g ↦ more_when _ _ _ (is_target x) (want (for_object (tree.loop_expr x) ∷ f)) s g.1 (λ k. at_mark _ _ in_word c _ g.0 (record { higher = more_behind f _ _ (omega arith); wider = λ o. omega arith }))
  | inr g ↦ more_token _ _ semicolon c (for_second (tree.first_expr x) f) s g.1 (record { higher = omega arith; wider = λ o. omega arith })
]
closes_more (for_test r) f x c s e = more_token _ _ semicolon c (for_third r (tree.some_expr x) f) s e (record { higher = omega arith; wider = λ o. omega arith })
closes_more (for_step r m) f x c s e = more_token _ _ close_paren c (start (for_body r m (tree.some_expr x) ∷ f)) s e (record { higher = omega arith; wider = λ o. omega arith })
closes_more (for_object r) f x c s e = more_token _ _ close_paren c (start (in_body r x ∷ f)) s e (record { higher = omega arith; wider = λ o. omega arith })
closes_more (giving a) f x c s e = more_token _ _ semicolon c (ended (tree.return (tree.some_expr x) a) f) s e (record { higher = omega arith; wider = λ o. omega arith })
closes_more throwing f x c s e = more_token _ _ semicolon c (ended (tree.throw x) f) s e (record { higher = omega arith; wider = λ o. omega arith })
closes_more (with_head a) f x c s e = more_token _ _ close_paren c (start (with_body x a ∷ f)) s e (record { higher = omega arith; wider = λ o. omega arith })
closes_more switch_head f x c s e = more_token _ _ close_paren c (await (open_brace ∷ []) (clauses x f)) s e (record { higher = omega arith; wider = λ o. omega arith })
closes_more (case_test y cs) f x c s e = more_token _ _ colon c (start (body (a_clause y cs (tree.some_expr x)) [] ∷ f)) s e (record { higher = more_behind f _ _ (omega arith); wider = λ o. omega arith })
closes_more _ f x c s e = none_some s e

-- ---- behind a part

-- a frame that is filled ends as what fills it does, unless it is a `new` within a prefix `++`
pub record Fills (g : Frame) (f : Stack) (x y : E) : Type 0 where
  pub higher : height_at (is_target x) (g ∷ f) (deep t.expr x) ≤ height_at (is_target y) f (deep t.expr y)
  pub same : close (is_target x) (g ∷ f) ≡ close (is_target y) f

pub fill_same : (g : Frame) (f : Stack) (x y : E) → filled g x ≡ Some y → (stepped f ≡ true → is_target y ≡ false → ⊥) → Fills g f x y
fill_same new_of f x y e n = subst (Fills new_of f x) (some_is _ y e) (new_same (stepped f) refl)
  where
    new_same : (b : Bool) → stepped f ≡ b → Fills new_of f x (tree.new x tree.no_exprs)
    new_same true h = absurd (n h (subst (λ z. is_target z ≡ false) (some_is (tree.new x tree.no_exprs) y e) refl))
    new_same false h = record { higher = more_at f false _ _ (omega arith); same = ap (λ b. close_new b (close false f)) h }
fill_same (prefix_step up) f x y e n = elim (chosen (is_target x) (Some (tree.step up true x)) None (Some y) e) [
  | inl g ↦ subst (Fills (prefix_step up) f x) (some_is _ y g.1) (record { higher = rw g.0 (omega arith); same = rw g.0 refl })
  | inr g ↦ none_some y g.1
]
fill_same (prefix op a) f x y e n = subst (Fills (prefix op a) f x) (some_is _ y e) (record { higher = omega arith; same = refl })
fill_same (join j z) f x y e n = subst (Fills (join j z) f x) (some_is _ y e) (record { higher = rw (not_target j z x) (more_at f false _ _ (omega (arith, joined_deep j z x))); same = rw (not_target j z x) refl })
fill_same (either p q) f x y e n = subst (Fills (either p q) f x) (some_is _ y e) (record { higher = omega arith; same = refl })
fill_same _ f x y e n = none_some y e

fill_more : (g : Frame) (f : Stack) (x y : E) (c : Spot) (s : State) (i : Bool) → filled g x ≡ Some y → settle i f y c ≡ Some s → More (height_at (is_target y) f (deep t.expr y)) (close (is_target y) f) c s
    → More (height_at (is_target x) (g ∷ f) (deep t.expr x)) (close (is_target x) (g ∷ f)) c s
fill_more g f x y c s i e r m = let w = fill_same g f x y e (λ h n. stuck f i y c s h n r) in less_more _ _ _ _ c s w.higher (λ o. (let k = ap (most o) w.same in omega arith)) m

abbrev settled : Bool → Frame → Stack → E → Spot → Option E → Option State
settled i f k x c o = elim o [ Some y ↦ settle i k y c | None ↦ closes f x k c ]

settle_more : (f : Stack) (i : Bool) (x : E) (c : Spot) (s : State) → settle i f x c ≡ Some s → More (height_at (is_target x) f (deep t.expr x)) (close (is_target x) f) c s
unfolding settle
settle_more [] i x c s e = shifted_more (infix_of i c.0) i x [] c s refl e
settle_more (g ∷ f) i x c s e = elim (chosen (binds (infix_of i c.0) g) _ _ (Some s) e) [
  | inl p ↦ shifted_more (infix_of i c.0) i x (g ∷ f) c s refl p.1
  | inr p ↦ go (λ y k. settle_more f i y c s k) (filled g x) refl p.1
]
  where
    go : ((y : E) → settle i f y c ≡ Some s → More (height_at (is_target y) f (deep t.expr y)) (close (is_target y) f) c s) → (o : Option E) → filled g x ≡ o → settled i g f x c o ≡ Some s → More (height_at (is_target x) (g ∷ f) (deep t.expr x)) (close (is_target x) (g ∷ f)) c s
    go rec None fi e = closes_more g f x c s e
    go rec (Some y) fi e = fill_more g f x y c s i fi e (rec y e)

new_less : (b : Bool) (k : List Spot) (o : ℕ) → most o (close_new b k) ≤ most o (spot open_paren ∷ spot close_paren ∷ k)
new_less true k o = omega arith
new_less false k o = omega (arith, most_back k o)

arguments_more : (f : Stack) (x : E) (a : ℕ) → More (height_at (is_target x) f (deep t.expr x)) (close (is_target x) f) (open_paren, a) (arguments x f)
arguments_more [] x a = record { higher = any_next [] (is_target x) false _ _ (omega arith); wider = λ o. omega arith }
arguments_more (new_of ∷ f) x a = record { higher = more_at f false _ _ (omega arith); wider = λ o. new_less (stepped f) (close false f) o }
arguments_more (g ∷ f) x a = record { higher = any_next (g ∷ f) (is_target x) false _ _ (omega arith); wider = λ o. omega (arith, close_either (g ∷ f) (is_target x) false o, most_back (close false (g ∷ f)) o) }

have_more : (f : Stack) (x : E) (c : Spot) (s : State) → have_step x f c ≡ Some s → More (height_at (is_target x) f (deep t.expr x)) (close (is_target x) f) c s
have_more f x c s e = more_or _ _ point c (member x f) _ s e (record { higher = target_next f (is_target x) (deep t.expr x); wider = λ o. omega (arith, close_same f (is_target x) o, most_low (close true f) o) })
    (λ e. more_or _ _ open_bracket c (want (subscript x ∷ f)) _ s e (record { higher = any_next f (is_target x) true _ _ (omega arith); wider = λ o. omega (arith, close_same f (is_target x) o, most_back (close true f) o) })
    (λ e. more_or _ _ open_paren c (arguments x f) _ s e (arguments_more f x c.1) (λ e. settle_more f (no_in_here f) x c s e)))

-- ---- functions

unnamed_more : (d b : Bool) (a : ℕ) (f : Stack) (c : Spot) (s : State) → is open_paren c ≡ b → when (not d && b) (params (head d None a) f) ≡ Some s → More (height_func d f) (tail (func d a f)) c s
unnamed_more true b a f c s g e = none_some s e
unnamed_more false false a f c s g e = none_some s e
unnamed_more false true a f c s g e = at_mark _ _ open_paren c s g (the_more _ _ _ _ s e (record { higher = omega arith; wider = λ o. omega arith }))

func_more : (d : Bool) (a : ℕ) (f : Stack) (c : Spot) (s : State) → func_step d a f c ≡ Some s → More (height_func d f) (tail (func d a f)) c s
func_more d a f (name us, b) s e = the_more _ _ _ _ s e (record { higher = omega arith; wider = λ o. omega arith })
func_more d a f (word n, b) s e = unnamed_more d (is open_paren (word n, b)) a f (word n, b) s refl e
func_more d a f (punct n, b) s e = unnamed_more d (is open_paren (punct n, b)) a f (punct n, b) s refl e
func_more d a f (num n, b) s e = unnamed_more d (is open_paren (num n, b)) a f (num n, b) s refl e
func_more d a f (text n, b) s e = unnamed_more d (is open_paren (text n, b)) a f (text n, b) s refl e

bodied_more : (h : Head) (ps : List Word) (f : Stack) (a : ℕ) → More (height_func h.declared f) (spot close_paren ∷ spot open_brace ∷ spot close_brace ∷ close_func h.declared f) (close_paren, a) (bodied h ps f)
bodied_more h ps f a = record { higher = omega arith; wider = λ o. omega arith }

params_more : (h : Head) (f : Stack) (c : Spot) (s : State) → params_step h f c ≡ Some s → More (height_func h.declared f) (tail (params h f)) c s
params_more h f (name us, b) s e = the_more _ _ _ _ s e (record { higher = omega arith; wider = λ o. omega arith })
params_more h f (word n, b) s e = more_token _ _ close_paren (word n, b) (bodied h [] f) s e (bodied_more h [] f b)
params_more h f (punct n, b) s e = more_token _ _ close_paren (punct n, b) (bodied h [] f) s e (bodied_more h [] f b)
params_more h f (num n, b) s e = more_token _ _ close_paren (num n, b) (bodied h [] f) s e (bodied_more h [] f b)
params_more h f (text n, b) s e = more_token _ _ close_paren (text n, b) (bodied h [] f) s e (bodied_more h [] f b)

param_more : (h : Head) (ps : List Word) (f : Stack) (c : Spot) (s : State) → param_step h ps f c ≡ Some s → More (height_func h.declared f) (tail (param h ps f)) c s
param_more h ps f (name us, b) s e = the_more _ _ _ _ s e (record { higher = omega arith; wider = λ o. omega arith })
param_more h ps f _ s e = none_some s e

key_more : (fs : List Field) (f : Stack) (c : Spot) (s : State) → key_step fs f c ≡ Some s → More (height (key fs f)) (tail (key fs f)) c s
key_more fs f c s e = elim (chosen (is close_brace c) (when (none_yet fs) (have (tree.object tree.no_fields) f)) (keyed fs f (key_of c)) (Some s) e) [
  | inl g ↦ more_when _ _ _ (none_yet fs) (have (tree.object tree.no_fields) f) s g.1 (λ k. at_mark _ _ close_brace c _ g.0 (no_fields_more fs c.1 k))
  | inr g ↦ keyed_more c s g.1
]
  where
    no_fields_more : (fs : List Field) (a : ℕ) → none_yet fs ≡ true → More (height (key fs f)) (tail (key fs f)) (close_brace, a) (have (tree.object tree.no_fields) f)
    no_fields_more [] a k = record { higher = more_at f false _ _ (omega arith); wider = λ o. omega arith }
    no_fields_more (x ∷ xs) a k = absurd cc

    field_high : (fs : List Field) (n : Word) → height (key fs f) ≤ height_at true (field fs n ∷ f) 1
    field_high [] n = more_at f false _ _ (omega arith)
    field_high (x ∷ xs) n = more_at f false _ _ (omega arith)

    field_wide : (fs : List Field) (k : List Spot) (o : ℕ) → most o (close_key fs k) ≤ most o (spot close_brace ∷ k)
    field_wide [] k o = omega arith
    field_wide (x ∷ xs) k o = omega arith

    keyed_so : (fs : List Field) (n : Word) (us : Token) (a : ℕ) → ((k : List Spot) (o : ℕ) → most o k ≤ most o ((us, a) ∷ k)) → More (height (key fs f)) (tail (key fs f)) (us, a) (await (colon ∷ []) (want (field fs n ∷ f)))
    keyed_so fs n us a w = record { higher = field_high fs n; wider = λ o. (let i = field_wide fs (close false f) o in let j = w (spot colon ∷ letter ∷ spot close_brace ∷ close false f) o in omega arith) }

    keyed_more : (c : Spot) (s : State) → keyed fs f (key_of c) ≡ Some s → More (height (key fs f)) (tail (key fs f)) c s
    keyed_more (name us, a) s e = the_more _ _ _ _ s e (keyed_so fs _ (name us) a (λ k o. omega arith))
    keyed_more (text us, a) s e = the_more _ _ _ _ s e (keyed_so fs _ (text us) a (λ k o. omega arith))
    keyed_more (num n, a) s e = the_more _ _ _ _ s e (keyed_so fs _ (num n) a (λ k o. omega arith))
    keyed_more (word n, a) s e = none_some s e
    keyed_more (punct n, a) s e = none_some s e

-- ---- statements

start_low : (f : Stack) → height_start f ≤ height_behind f 1
start_low (body o ss ∷ f) = more_behind (body o ss ∷ f) 0 1 (omega arith)
start_low [] = omega arith
start_low (_ ∷ f) = omega arith

start_wide : (f : Stack) (o : ℕ) → most o (close_start f) ≤ most o (close_statement f)
start_wide (body q ss ∷ f) o = omega arith
start_wide [] o = omega arith
start_wide (g ∷ f) o = omega (arith, most_low (close_statement (g ∷ f)) o)

clause_more : (x : E) (cs : List Clause) (f : Stack) (c : Spot) (s : State) → clause_step x cs f c ≡ Some s → More (height_behind f (1 + max (deep t.expr x) (deep t.cases (cases_of cs)))) (spot close_brace ∷ close_statement f) c s
clause_more x cs f c s e = more_or _ _ case_word c (want (case_test x cs ∷ f)) _ s e (record { higher = more_behind f _ _ (omega arith); wider = λ o. omega arith })
    (λ e. elim (chosen (is default_word c) (when (not (has_default (cases_of cs))) (await (colon ∷ []) (start (body (a_clause x cs tree.no_expr) [] ∷ f)))) (when (is close_brace c) (cases_closed x cs f)) (Some s) e) [
      | inl g ↦ more_when _ _ _ (not (has_default (cases_of cs))) (await (colon ∷ []) (start (body (a_clause x cs tree.no_expr) [] ∷ f))) s g.1 (λ k. at_mark _ _ default_word c _ g.0 (record { higher = more_behind f _ _ (omega arith); wider = λ o. omega arith }))
      | inr g ↦ more_token _ _ close_brace c (cases_closed x cs f) s g.1 (record { higher = more_behind f _ _ (omega arith); wider = λ o. omega arith })
    ])

-- one more statement in a list
list_more : (b : Body) (ss : List S) (x : S) (f : Stack) → height_behind (body b ss ∷ f) (deep t.stmt x) ≤ height_behind (body b (ss ++ x ∷ []) ∷ f) 0
list_more a_program ss x f = omega (arith, stmts_deep ss x)
list_more a_block ss x f = more_behind f _ _ (omega (arith, stmts_deep ss x))
list_more (a_function k ps) ss x f = cond_more k.declared _ _ _ _ (more_behind f _ _ (omega (arith, stmts_deep ss x))) (more_at f false _ _ (omega (arith, stmts_deep ss x)))
list_more (a_clause y cs m) ss x f = more_behind f _ _ (omega (arith, stmts_deep ss x))
list_more a_try ss x f = more_behind f _ _ (omega (arith, stmts_deep ss x))
list_more (a_catch rs n) ss x f = more_behind f _ _ (omega (arith, stmts_deep ss x))
list_more (a_finally rs k) ss x f = more_behind f _ _ (omega (arith, stmts_deep ss x))

list_close_same : (b : Body) (ss rs : List S) (f : Stack) → close_statement (body b ss ∷ f) ≡ close_statement (body b rs ∷ f)
list_close_same a_program ss rs f = refl
list_close_same a_block ss rs f = refl
list_close_same (a_function k ps) ss rs f = refl
list_close_same (a_clause y cs m) ss rs f = refl
list_close_same a_try ss rs f = refl
list_close_same (a_catch qs n) ss rs f = refl
list_close_same (a_finally qs k) ss rs f = refl

made_more : (d : Bool) (x : Placed t.func) (f : Stack) (a : ℕ) → (d ≡ true → declares f ≡ true) → More (cond d (height_behind f (1 + deep t.func x)) (height_at false f (1 + deep t.func x))) (spot close_brace ∷ cond d (close_statement f) (close false f)) (close_brace, a) (func_made d x f)
made_more false x f a h = record { higher = omega arith; wider = λ o. omega arith }
made_more true x (body b ss ∷ f) a h = record { higher = one_more b ss; wider = λ o. same_close b ss o }
  where
    one_more : (b : Body) (ss : List S) → height_behind (body b ss ∷ f) (1 + deep t.func x) ≤ height_behind (body b (ss ++ tree.declare x ∷ []) ∷ f) 0
    one_more b ss = list_more b ss (tree.declare x) f

    same_close : (b : Body) (ss : List S) (o : ℕ) → most o (spot close_brace ∷ close_statement (body b ss ∷ f)) ≤ most o ((close_brace, a) ∷ close_statement (body b (ss ++ tree.declare x ∷ []) ∷ f))
    same_close b ss o = omega (arith, ap (λ k. most (o - 1) k) (list_close_same b ss (ss ++ tree.declare x ∷ []) f))
made_more true x [] a h = absurd (let e = h refl in cc)
made_more true x (_ ∷ f) a h = absurd (let e = h refl in cc)

by_first : (d : Bool) (a b : Type 0) → By d a b → d ≡ true → a
by_first true a b h e = h
by_first false a b h e = absurd cc

body_close_more : (kind : Kind) (q : Body) (ss : List S) (f : Stack) (a : ℕ) (s : State) → Takes kind (body q ss ∷ f) → body_closed q ss f ≡ Some s → More (height_behind (body q ss ∷ f) 0) (close_statement (body q ss ∷ f)) (close_brace, a) s
body_close_more kind a_program ss f a s h e = none_some s e
body_close_more kind a_block ss f a s h e = the_more _ _ _ _ s e (record { higher = more_behind f _ _ (omega arith); wider = λ o. omega arith })
body_close_more kind (a_function k ps) ss f a s h e = the_more _ _ _ _ s e (less_more _ _ _ _ _ _ (cond_more k.declared _ _ _ _ (more_behind f _ _ (omega arith)) (more_at f false _ _ (omega arith))) (λ o. omega arith)
    (made_more k.declared (func_of k ps ss) f a (λ d. (by_first k.declared _ _ h d).0)))
body_close_more kind (a_clause x cs m) ss f a s h e = the_more _ _ _ _ s e (record { higher = more_behind f _ _ (omega (arith, cases_deep cs m ss)); wider = λ o. omega arith })
body_close_more kind a_try ss f a s h e = the_more _ _ _ _ s e (record { higher = more_behind f _ _ (omega arith); wider = λ o. omega arith })
body_close_more kind (a_catch rs n) ss f a s h e = the_more _ _ _ _ s e (record { higher = more_behind f _ _ (omega arith); wider = λ o. omega arith })
body_close_more kind (a_finally rs k) ss f a s h e = the_more _ _ _ _ s e (record { higher = more_behind f _ _ (omega arith); wider = λ o. omega arith })

list_close_more : (kind : Kind) (f : Stack) (a : ℕ) (s : State) → Takes kind f → list_closed f ≡ Some s → More (height_start f) (close_start f) (close_brace, a) s
list_close_more kind (body q ss ∷ f) a s h e = body_close_more kind q ss f a s h e
list_close_more kind [] a s h e = none_some s e
list_close_more kind _ a s h e = none_some s e

next_more : (f : Stack) (c : Spot) (s : State) → next_clause f c ≡ Some s → More (height_start f) (close_start f) c s
next_more (body (a_clause x cs m) ss ∷ f) c s e = less_more _ _ _ _ c s (more_behind f _ _ (omega (arith, cases_deep cs m ss))) (λ o. omega arith) (clause_more x (cs ++ (m, ss) ∷ []) f c s e)
next_more [] c s e = none_some s e
next_more _ c s e = none_some s e

-- a statement begins, and is one deep at least
started_more : (f : Stack) (c : Spot) (s : State) → More (height_behind f 1) (close_statement f) c s → More (height_start f) (close_start f) c s
started_more f c s m = less_more _ _ _ _ c s (start_low f) (start_wide f) m

brackets_more : (k : List Spot) (o : ℕ) → most o k ≤ most o (spot open_paren ∷ letter ∷ spot close_paren ∷ spot semicolon ∷ k)
brackets_more k o = omega (arith, most_back k o)

sign_more : (kind : Kind) (f : Stack) (a : ℕ) (b : Begin) (s : State) → Takes kind f → (b ≡ a_next_clause → ⊥) → begin_by f (begin_sign b, a) (Some b) ≡ Some s → More (height_start f) (close_start f) (begin_sign b, a) s
sign_more kind f a a_block_begins s h n e = the_more _ _ _ _ s e (started_more f _ _ (record { higher = more_behind f _ _ (omega arith); wider = λ o. omega (arith, most_back (close_statement f) o) }))
sign_more kind f a a_list_ends s h n e = list_close_more kind f a s h e
sign_more kind f a an_empty s h n e = the_more _ _ _ _ s e (started_more f _ _ (record { higher = omega arith; wider = λ o. omega arith }))
sign_more kind f a (a_break true) s h n e = the_more _ _ _ _ s e (started_more f _ _ (record { higher = omega arith; wider = λ o. omega arith }))
sign_more kind f a (a_break false) s h n e = the_more _ _ _ _ s e (started_more f _ _ (record { higher = omega arith; wider = λ o. omega arith }))
sign_more kind f a a_next_clause s h n e = absurd (n refl)
sign_more kind f a a_do s h n e = the_more _ _ _ _ s e (started_more f _ _ (record { higher = more_behind f _ _ (omega arith); wider = λ o. omega (arith, most_back (spot semicolon ∷ close_statement f) o, most_low (close_statement f) o) }))
sign_more kind f a a_for s h n e = the_more _ _ _ _ s e (started_more f _ _ (record { higher = more_behind f _ _ (omega arith); wider = λ o. omega (arith, most_back (spot semicolon ∷ close_statement f) o, most_low (close_statement f) o) }))
sign_more kind f a a_declaration s h n e = more_when _ _ _ (declares f) (func true a f) s e (λ g. started_more f _ _ (record { higher = more_behind f _ _ (omega arith); wider = λ o. omega (arith, most_back (close_statement f) o, most_back (spot open_brace ∷ spot close_brace ∷ close_statement f) o) }))
sign_more kind f a an_if s h n e = the_more _ _ _ _ s e (started_more f _ _ (record { higher = more_behind f _ _ (omega arith); wider = λ o. omega (arith, brackets_more (close_statement f) o) }))
sign_more kind f a a_return s h n e = the_more _ _ _ _ s e (started_more f _ _ (record { higher = omega arith; wider = λ o. omega arith }))
sign_more kind f a a_switch s h n e = the_more _ _ _ _ s e (started_more f _ _ (record { higher = more_behind f _ _ (omega arith); wider = λ o. omega (arith, most_back (close_statement f) o, most_back (spot open_brace ∷ spot close_brace ∷ close_statement f) o) }))
sign_more kind f a a_throw s h n e = the_more _ _ _ _ s e (started_more f _ _ (record { higher = more_behind f _ _ (omega arith); wider = λ o. omega arith }))
sign_more kind f a a_try_begins s h n e = the_more _ _ _ _ s e (started_more f _ _ (record { higher = more_behind f _ _ (omega arith); wider = λ o. omega (arith, most_back (close_statement f) o, most_back (spot finally_word ∷ spot open_brace ∷ spot close_brace ∷ close_statement f) o) }))
sign_more kind f a a_var s h n e = the_more _ _ _ _ s e (started_more f _ _ (record { higher = omega arith; wider = λ o. omega arith }))
sign_more kind f a a_while s h n e = the_more _ _ _ _ s e (started_more f _ _ (record { higher = more_behind f _ _ (omega arith); wider = λ o. omega (arith, brackets_more (close_statement f) o) }))
sign_more kind f a a_with s h n e = the_more _ _ _ _ s e (started_more f _ _ (record { higher = more_behind f _ _ (omega arith); wider = λ o. omega (arith, brackets_more (close_statement f) o) }))

found_begin_more : (kind : Kind) (f : Stack) (c : Spot) (q : Option Begin) (s : State) → look_up begins c.0 ≡ q → Takes kind f → begin_by f c q ≡ Some s → More (height_start f) (close_start f) c s
found_begin_more kind f c None s g h e = started_more f c s (less_more _ _ _ _ c s (more_behind f 1 2 (omega arith)) (λ o. omega (arith, most_low (close_statement f) o)) (operand_more (statement ∷ f) c s e))
found_begin_more kind f c (Some b) s g h e = elim (clause_or b) [
  | inl k ↦ next_more f c s (subst (λ b. begin_by f c (Some b) ≡ Some s) k e)
  | inr k ↦ (let i = sign_is c.0 b g k in subst (λ (z : Token). begin_by f (z, c.1) (Some b) ≡ Some s → More (height_start f) (close_start f) (z, c.1) s) (sym i) (λ e. sign_more kind f c.1 b s h k e) e)
]

begin_more : (kind : Kind) (f : Stack) (c : Spot) (s : State) → Takes kind f → begin f c ≡ Some s → More (height_start f) (close_start f) c s
begin_more kind f (name us, a) s h e = the_more _ _ _ _ s e (started_more f _ _ (record { higher = more_behind f _ _ (omega arith); wider = λ o. omega (arith, most_low (close_statement f) o) }))
begin_more kind f (word n, a) s h e = found_begin_more kind f (word n, a) (look_up begins (word n)) s refl h e
begin_more kind f (punct n, a) s h e = found_begin_more kind f (punct n, a) (look_up begins (punct n)) s refl h e
begin_more kind f (num n, a) s h e = found_begin_more kind f (num n, a) (look_up begins (num n)) s refl h e
begin_more kind f (text us, a) s h e = found_begin_more kind f (text us, a) (look_up begins (text us)) s refl h e

resume_more : (kind : Kind) (f : Stack) (x : S) (c : Spot) (s : State) → Takes kind f → resume f x c ≡ Some s → More (height_behind f (deep t.stmt x)) (close_statement f) c s
unfolding resume
resume_more kind [] x c s h e = none_some s e
resume_more kind (then_of y ∷ f) x c s h e = more_or _ _ else_word c (start (else_of y x ∷ f)) _ s e (record { higher = more_behind f _ _ (omega arith); wider = λ o. omega (arith, most_low (close_statement f) o) })
    (λ e. less_more _ _ _ _ c s (more_behind f _ _ (omega arith)) (λ o. omega arith) (resume_more kind f (tree.branch y x tree.no_stmt) c s h e))
resume_more kind (else_of y r ∷ f) x c s h e = less_more _ _ _ _ c s (more_behind f _ _ (omega arith)) (λ o. omega arith) (resume_more kind f (tree.branch y r (tree.some_stmt x)) c s h e)
resume_more kind (while_body y ∷ f) x c s h e = less_more _ _ _ _ c s (more_behind f _ _ (omega arith)) (λ o. omega arith) (resume_more kind f (tree.while_loop y x) c s h e)
resume_more kind (do_body ∷ f) x c s h e = more_token _ _ while_word c (await (open_paren ∷ []) (want (do_test x ∷ f))) s e (record { higher = more_behind f _ _ (omega arith); wider = λ o. omega arith })
resume_more kind (for_body r m n ∷ f) x c s h e = less_more _ _ _ _ c s (more_behind f _ _ (omega arith)) (λ o. omega arith) (resume_more kind f (tree.for_loop r m n x) c s h e)
resume_more kind (in_body r y ∷ f) x c s h e = less_more _ _ _ _ c s (more_behind f _ _ (omega arith)) (λ o. omega arith) (resume_more kind f (tree.for_in r y x) c s h e)
resume_more kind (with_body y a ∷ f) x c s h e = less_more _ _ _ _ c s (more_behind f _ _ (omega arith)) (λ o. omega arith) (resume_more kind f (tree.with_object y x a) c s h e)
resume_more kind (label_of n ∷ f) x c s h e = less_more _ _ _ _ c s (more_behind f _ _ (omega arith)) (λ o. omega arith) (resume_more kind f (tree.label n x) c s h e)
resume_more kind (body b ss ∷ f) x c s h e = less_more _ _ _ _ c s (list_more b ss x f) (λ o. omega (arith, ap (most o) (list_close_same b ss (ss ++ x ∷ []) f))) (begin_more kind (body b (ss ++ x ∷ []) ∷ f) c s (body_more kind b f ss (ss ++ x ∷ []) h) e)
resume_more kind _ x c s h e = none_some s e

item_more : (h : Bool) (its : List Item) (f : Stack) (c : Spot) (s : State) → item_step h its f c ≡ Some s → More (height (item h its f)) (tail (item h its f)) c s
item_more h its f (name us, a) s e = the_more _ _ _ _ s e (record { higher = omega arith; wider = λ o. omega arith })
item_more h its f _ s e = none_some s e

value_more : (h : Bool) (n : Word) (its : List Item) (f : Stack) (a : ℕ) → More (height (item_end h n its f)) (tail (item_end h n its f)) (equals, a) (want (value h n its ∷ f))
value_more true n its f a = record { higher = more_behind f _ _ (omega arith); wider = λ o. omega arith }
value_more false n its f a = record { higher = more_behind f _ _ (omega arith); wider = λ o. omega (arith, most_low (close_statement f) o) }

object_more : (h : Bool) (n : Word) (its : List Item) (f : Stack) (c : Spot) → (h ≡ true) × (first_item its ≡ true) × (is in_word c ≡ true) → More (height (item_end h n its f)) (tail (item_end h n its f)) c (want (for_object (tree.loop_var n) ∷ f))
object_more true n [] f c g = at_mark _ _ in_word c _ g.2 (record { higher = more_behind f _ _ (omega arith); wider = λ o. omega arith })
object_more true n (x ∷ its) f c g = absurd (let e = g.1 in cc)
object_more false n its f c g = absurd (let e = g.0 in cc)

items_high : (h : Bool) (its : List Item) (n : Word) → height_items h its ≤ height_items h (its ++ (n, tree.no_expr) ∷ [])
items_high true its n = omega (arith, items_deep its n tree.no_expr)
items_high false its n = omega (arith, items_deep its n tree.no_expr)

item_end_more : (h : Bool) (n : Word) (its : List Item) (f : Stack) (c : Spot) (s : State) → item_end_step h n its f c ≡ Some s → More (height (item_end h n its f)) (tail (item_end h n its f)) c s
item_end_more h n its f c s e = more_or _ _ equals c (want (value h n its ∷ f)) _ s e (value_more h n its f c.1)
    (λ e. elim (chosen (h && first_item its && is in_word c) (Some (want (for_object (tree.loop_var n) ∷ f))) (after_item h (its ++ (n, tree.no_expr) ∷ []) f c) (Some s) e) [
      | inl k ↦ the_more _ _ _ _ s k.1 (object_more h n its f c (and_three h (first_item its) (is in_word c) k.0))
      | inr k ↦ less_more _ _ _ _ c s (more_behind f _ _ (items_high h its n)) (λ o. omega arith) (after_item_more h f c (its ++ (n, tree.no_expr) ∷ []) s k.1)
    ])

jump_deep : (b : Bool) (n : Option Word) (a : ℕ) → deep t.stmt (jump b n a) ≡ 1
jump_deep true n a = refl
jump_deep false n a = refl

jumped_more : (b : Bool) (a : ℕ) (f : Stack) (c : Spot) (s : State) → jumped_step b a f c ≡ Some s → More (height (jumped b a f)) (tail (jumped b a f)) c s
jumped_more b a f (name us, d) s e = the_more _ _ _ _ s e (record { higher = more_behind f _ _ (omega (arith, jump_deep b (Some (placed_word us d)) a)); wider = λ o. omega arith })
jumped_more b a f (word n, d) s e = more_token _ _ semicolon (word n, d) (ended (jump b None a) f) s e (record { higher = more_behind f _ _ (omega (arith, jump_deep b None a)); wider = λ o. omega arith })
jumped_more b a f (punct n, d) s e = more_token _ _ semicolon (punct n, d) (ended (jump b None a) f) s e (record { higher = more_behind f _ _ (omega (arith, jump_deep b None a)); wider = λ o. omega arith })
jumped_more b a f (num n, d) s e = more_token _ _ semicolon (num n, d) (ended (jump b None a) f) s e (record { higher = more_behind f _ _ (omega (arith, jump_deep b None a)); wider = λ o. omega arith })
jumped_more b a f (text n, d) s e = more_token _ _ semicolon (text n, d) (ended (jump b None a) f) s e (record { higher = more_behind f _ _ (omega (arith, jump_deep b None a)); wider = λ o. omega arith })

member_more : (x : E) (f : Stack) (c : Spot) (s : State) → member_step x f c ≡ Some s → More (height (member x f)) (tail (member x f)) c s
member_more x f (name us, a) s e = the_more _ _ _ _ s e (record { higher = omega arith; wider = λ o. omega arith })
member_more x f _ s e = none_some s e

catch_more : (ss : List S) (f : Stack) (c : Spot) (s : State) → catch_name_step ss f c ≡ Some s → More (height (catch_name ss f)) (tail (catch_name ss f)) c s
catch_more ss f (name us, a) s e = the_more _ _ _ _ s e (record { higher = more_behind f _ _ (omega arith); wider = λ o. omega arith })
catch_more ss f _ s e = none_some s e

listed_more : (q : Opened) (xs : List E) (f : Stack) (c : Spot) (s : State) → open_step q xs f c ≡ Some s → More (height (listed q xs f)) (tail (listed q xs f)) c s
listed_more an_array xs f c s e = more_or _ _ close_bracket c (have (tree.array (exprs_of xs)) f) _ s e (record { higher = omega arith; wider = λ o. omega arith })
    (λ e. less_more _ _ _ _ c s (more_at f false _ _ (omega arith)) (λ o. omega arith) (operand_more (items an_array xs ∷ f) c s e))
listed_more (a_call y) xs f c s e = more_or _ _ close_paren c (have (tree.call y (exprs_of xs)) f) _ s e (record { higher = omega arith; wider = λ o. omega arith })
    (λ e. less_more _ _ _ _ c s (more_at f false _ _ (omega arith)) (λ o. omega arith) (operand_more (items (a_call y) xs ∷ f) c s e))
listed_more (a_new y) xs f c s e = more_or _ _ close_paren c (have (tree.new y (exprs_of xs)) f) _ s e (record { higher = omega arith; wider = λ o. omega arith })
    (λ e. less_more _ _ _ _ c s (more_at f false _ _ (omega arith)) (λ o. omega arith) (operand_more (items (a_new y) xs ∷ f) c s e))

await_more : (ds : List Token) (r : State) (c : Spot) (s : State) → await_step ds r c ≡ Some s → More (height r) (tail (await ds r)) c s
await_more [] r c s e = none_some s e
await_more (d ∷ []) r c s e = more_token _ _ d c r s e (record { higher = omega arith; wider = λ o. omega arith })
await_more (d ∷ g ∷ ds) r c s e = more_token _ _ d c (await (g ∷ ds) r) s e (record { higher = omega arith; wider = λ o. omega arith })

pub step_least : (kind : Kind) (s : State) (c : Spot) (r : State) → Fits kind s → step s c ≡ Some r → More (height s) (tail s) c r
unfolding step
step_least kind (want f) c r h e = operand_more f c r e
step_least kind (have x f) c r h e = have_more f x c r e
step_least kind (past x f) c r h e = settle_more f (no_in_here f) x c r e
step_least kind (listed q xs f) c r h e = listed_more q xs f c r e
step_least kind (member x f) c r h e = member_more x f c r e
step_least kind (key fs f) c r h e = key_more fs f c r e
step_least kind (func d a f) c r h e = func_more d a f c r e
step_least kind (params k f) c r h e = params_more k f c r e
step_least kind (param k ps f) c r h e = param_more k ps f c r e
step_least kind (param_end k ps f) c r h e = more_or _ _ comma c (param k ps f) _ r e (record { higher = omega arith; wider = λ o. omega arith }) (λ e. more_token _ _ close_paren c (bodied k ps f) r e (bodied_more k ps f c.1))
step_least kind (start f) c r h e = begin_more kind f c r h e
step_least kind (begun n f) c r h e = more_or _ _ colon c (start (label_of n ∷ f)) _ r e (record { higher = omega arith; wider = λ o. omega arith }) (λ e. have_more (statement ∷ f) (tree.name n) c r e)
step_least kind (ended s f) c r h e = resume_more kind f s c r h e
step_least kind (closing s f) c r h e = more_token _ _ semicolon c (ended s f) r e (record { higher = omega arith; wider = λ o. omega arith })
step_least kind (item k its f) c r h e = item_more k its f c r e
step_least kind (item_end k n its f) c r h e = item_end_more k n its f c r e
step_least kind (for_open f) c r h e = more_or _ _ var_word c (item true [] f) _ r e (record { higher = omega arith; wider = λ o. omega arith })
    (λ e. more_or _ _ semicolon c (for_second tree.no_first f) _ r e (record { higher = omega arith; wider = λ o. omega arith }) (λ e. less_more _ _ _ _ c r (omega arith) (λ o. omega arith) (operand_more (for_first ∷ f) c r e)))
step_least kind (for_second i f) c r h e = more_or _ _ semicolon c (for_third i tree.no_expr f) _ r e (record { higher = more_behind f _ _ (omega arith); wider = λ o. omega arith })
    (λ e. less_more _ _ _ _ c r (more_behind f _ _ (omega arith)) (λ o. omega arith) (operand_more (for_test i ∷ f) c r e))
step_least kind (for_third i m f) c r h e = more_or _ _ close_paren c (start (for_body i m tree.no_expr ∷ f)) _ r e (record { higher = more_behind f _ _ (omega arith); wider = λ o. omega arith })
    (λ e. less_more _ _ _ _ c r (more_behind f _ _ (omega arith)) (λ o. omega arith) (operand_more (for_step i m ∷ f) c r e))
step_least kind (returned a f) c r h e = more_or _ _ semicolon c (ended (tree.return tree.no_expr a) f) _ r e (record { higher = more_behind f _ _ (omega arith); wider = λ o. omega arith })
    (λ e. less_more _ _ _ _ c r (more_behind f _ _ (omega arith)) (λ o. omega arith) (operand_more (giving a ∷ f) c r e))
step_least kind (jumped b a f) c r h e = jumped_more b a f c r e
step_least kind (clauses x f) c r h e = less_more _ _ _ _ c r (more_behind f _ _ (omega arith)) (λ o. omega arith) (clause_more x [] f c r e)
step_least kind (tried ss f) c r h e = more_or _ _ catch_word c (await (open_paren ∷ []) (catch_name ss f)) _ r e (record { higher = omega arith; wider = λ o. omega (arith, most_back (spot open_brace ∷ spot close_brace ∷ close_statement f) o) })
    (λ e. more_token _ _ finally_word c (finally_begins ss tree.no_handler f) r e (record { higher = more_behind f _ _ (omega arith); wider = λ o. omega arith }))
step_least kind (caught ss n hs f) c r h e = more_or _ _ finally_word c (finally_begins ss (tree.some_handler n (stmts_of hs)) f) _ r e (record { higher = more_behind f _ _ (omega arith); wider = λ o. omega (arith, most_back (close_statement f) o) })
    (λ e. less_more _ _ _ _ c r (more_behind f _ _ (omega arith)) (λ o. omega arith) (resume_more kind f (caught_made ss n hs) c r h e))
step_least kind (catch_name ss f) c r h e = catch_more ss f c r e
step_least kind (await ds s) c r h e = await_more ds s c r e
