-- What is read is spelled so: tokens within and behind an expression.
use Rattle.std.proofs.Common.{◌≡◌, ℕ, ◌≤◌, Bool, true, false, cond, List, [], ◌∷◌, ◌++◌, Option, Some, None, refl, sym, ap, subst, inl, inr, ◌∙◌, arith, append_assoc, nat_le, map}
use Rattle.std.proofs.lemmas.Bool.{leb-true}
use Rattle.std.proofs.lemmas.List.{append-nil}
use Rattle.es3_tree.specs.Token.{Token, name, word, punct, num, text}
use Rattle.es3_tree.specs.Tree as t
use Rattle.es3_tree.specs.Placed as tree
use Rattle.es3_grammar.specs.Spots.{Spot, is, look_up, do_word, in_word, new_word, switch_word, case_word, var_word, while_word, open_brace, close_brace, open_paren, close_paren, open_bracket, close_bracket, point, semicolon, comma, colon, query, equals}
use Rattle.es3_grammar.specs.Levels.{E, is_target, infix_of, Opening, a_this, a_null, a_bool, a_paren, an_object, a_prefix, a_prefix_step, openings}
use Rattle.es3_grammar.specs.Levels as l
use Rattle.es3_grammar.specs.Grammar.{Bars, free, no_in, bars_call, is_open, ends_statement, named, BeginsPlain, placed_word, Spells, s_this, s_null, s_true, s_false, s_num, s_text, s_name, s_paren, s_array, s_object, s_index, s_call, s_new_call, s_some_exprs, s_some_fields, s_value, s_first_var, s_first_expr, s_some_expr, s_loop_expr, s_expression, s_var, s_return, s_throw, s_do, s_no_stmts, s_no_cases}
use Rattle.es3_grammar.specs.Frames.{Item, exprs_of, fields_of, items_of, Opened, an_array, a_call, a_new, Frame, paren, subscript, items, field, new_of, prefix_step, prefix, test, either, statement, value, if_test, while_test, do_test, for_first, for_test, for_step, for_object, giving, throwing, with_head, switch_head, case_test, then_of, while_body, for_body, in_body, with_body, a_clause, body, Stack, State, want, have, member, key, start, ended, closing, item, for_second, for_third, clauses, await, asks, asked, no_in_here}
use Rattle.es3_grammar.specs.Machine.{when, operand, opened, closer, closed_list, behind_comma, after_expr, binds, filled, closes, settle, past_step, have_step, arguments, after_item}
use Rattle.es3_grammar.proofs.Tables.{chosen, none_some, spot_is, opening_sign, opening_is}
use Rattle.es3_grammar.proofs.Follow.{barred, bars_of}
use Rattle.es3_grammar.proofs.Longer.{Listed, ListedFields, exprs_so, fields_so, items_so, listed_on, fields_on, items_on}
use Rattle.es3_grammar.proofs.Stands.{Headed, Place, Before, VarTokens, VarItems, ForFirst, ForSecond, HeadOf, Leads, makes, Stands, Over, StandsFor, Switched}
use Rattle.es3_grammar.proofs.SoundParts.{the_state, when_so, token_so, token_or, place_headed, asked_fits, over_on, over_as, over_frame, inward, asked_within, closing_to, Part, part_of, soft_in, soft_any, unbound, shifted_sound, bound, filled_in, plug}

-- ---- lists of expressions

pub closed_so : (b : Bars) (o : Opened) (p : List Spot) (xs : List E) (r : List Spot) (e : ℕ) → Before b o p → Spells t.exprs free 0 (exprs_of xs) r → Spells t.expr b 16 (closed_list o xs) (p ++ (r ++ (closer o, e) ∷ []))
closed_so b an_array p xs r e h g = rw h.1 (s_array b 16 h.0 e (exprs_of xs) r (omega arith) g)
closed_so b (a_call x) p xs r e h g = subst (λ z. Spells t.expr b 16 (tree.call x (exprs_of xs)) z) (sym (ap (λ z. z ++ (r ++ (close_paren, e) ∷ [])) h.4 ∙ append_assoc h.0 ((open_paren, h.1) ∷ []) (r ++ (close_paren, e) ∷ [])))
    (s_call b 16 h.1 e x (exprs_of xs) h.0 r (omega arith) h.2 h.3 g)
closed_so b (a_new x) p xs r e h g = subst (λ z. Spells t.expr b 16 (tree.new x (exprs_of xs)) z) (sym (ap (λ z. z ++ (r ++ (close_paren, e) ∷ [])) h.4 ∙ ap (λ z. (new_word, h.1) ∷ z) (append_assoc h.0 ((open_paren, h.2) ∷ []) (r ++ (close_paren, e) ∷ []))))
    (s_new_call b 16 h.1 h.2 e x (exprs_of xs) h.0 r (omega arith) h.3 g)

regroup : (v p r q z : List Spot) → v ≡ p ++ r → v ++ (q ++ z) ≡ p ++ ((r ++ q) ++ z)
regroup v p r q z e = ap (λ k. k ++ (q ++ z)) e ∙ append_assoc p r (q ++ z) ∙ ap (λ k. p ++ k) (sym (append_assoc r q z))

middle : (w k q z : List Spot) → (w ++ k) ++ (q ++ z) ≡ (w ++ (k ++ q)) ++ z
middle w k q z = append_assoc w k (q ++ z) ∙ ap (λ y. w ++ y) (sym (append_assoc k q z)) ∙ sym (append_assoc w (k ++ q) z)

after_expr_sound : (o : Opened) (fs : Stack) (c : Spot) (xs : List E) (x : E) (u : List Spot) (s : State) → Over fs (λ z. (p : List Spot) × (r : List Spot) × Before (bars_of fs) o p × Spells t.exprs free 1 (exprs_of (xs ++ x ∷ [])) r × (z ≡ p ++ r)) u
    → asked fs ≤ 16 → after_expr o (xs ++ x ∷ []) fs c ≡ Some s → StandsFor s (u ++ c ∷ [])
after_expr_sound o fs c xs x u s h le e = token_or comma c (behind_comma o (xs ++ x ∷ []) fs) _ s u e (more o h)
    (λ e g. token_so (closer o) c (have (closed_list o (xs ++ x ∷ [])) fs) s u e
    (over_on fs _ (Spells t.expr (bars_of fs) 16 (closed_list o (xs ++ x ∷ []))) u ((closer o, c.1) ∷ []) h
    (λ w i. subst (λ z. Spells t.expr (bars_of fs) 16 (closed_list o (xs ++ x ∷ [])) z) (sym (ap (λ z. z ++ (closer o, c.1) ∷ []) i.4 ∙ append_assoc i.0 i.1 ((closer o, c.1) ∷ [])))
    (closed_so (bars_of fs) o i.0 (xs ++ x ∷ []) i.1 c.1 i.2 (s_some_exprs _ i.1 i.3)))))
  where
    listed_so : (o : Opened) → Over fs (λ z. (p : List Spot) × (r : List Spot) × Before (bars_of fs) o p × Spells t.exprs free 1 (exprs_of (xs ++ x ∷ [])) r × (z ≡ p ++ r)) u
        → Over fs (λ z. (v : List Spot) × (w : List Spot) × Before (bars_of fs) o v × Listed (xs ++ x ∷ []) w × (z ≡ v ++ w)) (u ++ (comma, c.1) ∷ [])
    listed_so o h = over_on fs _ _ u ((comma, c.1) ∷ []) h (λ w i. (i.0, i.1 ++ (comma, c.1) ∷ [], i.2, listed_on xs x c.1 i.1 i.3, ap (λ z. z ++ (comma, c.1) ∷ []) i.4 ∙ append_assoc i.0 i.1 ((comma, c.1) ∷ [])))

    more : (o : Opened) → Over fs (λ z. (p : List Spot) × (r : List Spot) × Before (bars_of fs) o p × Spells t.exprs free 1 (exprs_of (xs ++ x ∷ [])) r × (z ≡ p ++ r)) u
        → StandsFor (behind_comma o (xs ++ x ∷ []) fs) (u ++ (comma, c.1) ∷ [])
    more an_array h = (listed_so an_array h, tt)
    more (a_call y) h = (over_frame (items (a_call y) (xs ++ x ∷ [])) fs _ (listed_so (a_call y) h) le, tt)
    more (a_new y) h = (over_frame (items (a_new y) (xs ++ x ∷ [])) fs _ (listed_so (a_new y) h) le, tt)

-- ---- items of a `var`

pub after_item_sound : (h : Bool) (fs : Stack) (c : Spot) (its : List Item) (y : Item) (u : List Spot) (s : State)
    → Over fs (λ z. (p : List Spot) × (r : List Spot) × VarTokens h p × Spells t.items (barred false h) 0 (items_of (its ++ y ∷ [])) r × (z ≡ p ++ r)) u
    → after_item h (its ++ y ∷ []) fs c ≡ Some s → StandsFor s (u ++ c ∷ [])
after_item_sound h fs c its y u s o e = token_or comma c (item h (its ++ y ∷ []) fs) _ s u e
    (over_on fs _ (VarItems h (its ++ y ∷ [])) u ((comma, c.1) ∷ []) o (λ w i. (i.0, i.1 ++ (comma, c.1) ∷ [], i.2, items_on (barred false h) its y c.1 i.1 i.3, ap (λ z. z ++ (comma, c.1) ∷ []) i.4 ∙ append_assoc i.0 i.1 ((comma, c.1) ∷ []))))
    (λ e g. rest h o e)
  where
    rest : (h : Bool) → Over fs (λ z. (p : List Spot) × (r : List Spot) × VarTokens h p × Spells t.items (barred false h) 0 (items_of (its ++ y ∷ [])) r × (z ≡ p ++ r)) u
        → cond h (when (is semicolon c) (for_second (tree.first_var (items_of (its ++ y ∷ []))) fs)) (when (ends_statement c) (ended (tree.var (items_of (its ++ y ∷ []))) fs)) ≡ Some s → StandsFor s (u ++ c ∷ [])
    rest true o e = token_so semicolon c (for_second (tree.first_var (items_of (its ++ y ∷ []))) fs) s u e
        (over_on fs _ (ForFirst (tree.first_var (items_of (its ++ y ∷ [])))) u ((semicolon, c.1) ∷ []) o
        (λ w i. let v = i.2 in ((var_word, v.2) ∷ i.1, v.0, v.1, c.1, s_first_var v.2 (items_of (its ++ y ∷ [])) i.1 i.3, ap (λ z. z ++ (semicolon, c.1) ∷ []) (i.4 ∙ ap (λ z. z ++ i.1) v.3))))
    rest false o e = when_so (ends_statement c) (ended (tree.var (items_of (its ++ y ∷ []))) fs) s (u ++ c ∷ []) e (λ g.
        over_on fs _ (λ w. Spells t.stmt free 0 (tree.var (items_of (its ++ y ∷ []))) w × (is_open (tree.var (items_of (its ++ y ∷ []))) ≡ false)) u (c ∷ []) o
        (λ w i. let v = i.2 in (subst (λ z. Spells t.stmt free 0 (tree.var (items_of (its ++ y ∷ []))) (z ++ c ∷ [])) (sym (i.4 ∙ ap (λ z. z ++ i.1) v.1)) (s_var v.0 c (items_of (its ++ y ∷ [])) i.1 i.3 g), refl)))

-- ---- tokens that are awaited

pub one_mark : (d : Token) (q : List Spot) → map (λ c. c.0) q ≡ d ∷ [] → (a : ℕ) × (q ≡ (d, a) ∷ [])
one_mark d [] e = absurd cc
one_mark d (c ∷ []) e = (c.1, ap (λ (z : Token). (z, c.1) ∷ []) (let h : c.0 ∷ [] ≡ d ∷ [] = e in cc))
one_mark d (c ∷ b ∷ q) e = absurd cc

pub two_marks : (d g : Token) (q : List Spot) → map (λ c. c.0) q ≡ d ∷ g ∷ [] → (a : ℕ) × (b : ℕ) × (q ≡ (d, a) ∷ (g, b) ∷ [])
two_marks d g [] e = absurd cc
two_marks d g (c ∷ []) e = absurd cc
two_marks d g (c ∷ b ∷ []) e = (c.1, b.1, ap (λ (z : Token). (z, c.1) ∷ b ∷ []) (first_is _ _ _ _ e) ∙ ap (λ (z : Token). (d, c.1) ∷ (z, b.1) ∷ []) (second_is _ _ _ _ e))
  where
    first_is : (x y v w : Token) → x ∷ y ∷ [] ≡ v ∷ w ∷ [] → x ≡ v
    first_is x y v w e = cc

    second_is : (x y v w : Token) → x ∷ y ∷ [] ≡ v ∷ w ∷ [] → y ≡ w
    second_is x y v w e = cc
two_marks d g (c ∷ b ∷ r ∷ q) e = absurd cc

-- ---- a place that a token of its own closes

-- a part at the level 0
said : (b : Bars) (n : ℕ) (x : E) (w : List Spot) → Part b n x w → Spells t.expr b 0 x w
said b n x w p = part_of b n 0 x w p (omega arith)

pub closes_sound : (f : Frame) (fs : Stack) (c : Spot) (n : ℕ) (x : E) (u : List Spot) (s : State) → Over (f ∷ fs) (Part (bars_of (f ∷ fs)) n x) u → asks f ≤ n → closes f x fs c ≡ Some s → StandsFor s (u ++ c ∷ [])
closes_sound paren fs c n x u s o le e = token_so close_paren c (have x fs) s u e (closing_to paren fs _ (Spells t.expr (bars_of fs) 16 x) u (close_paren, c.1) o
    (λ v w i p. rw i.1 (s_paren (bars_of fs) 16 i.0 c.1 x w (omega arith) (said free n x w p))))
closes_sound (subscript y) fs c n x u s o le e = token_so close_bracket c (have (tree.index y x) fs) s u e (closing_to (subscript y) fs _ (Spells t.expr (bars_of fs) 16 (tree.index y x)) u (close_bracket, c.1) o
    (λ v w i p. subst (λ z. Spells t.expr (bars_of fs) 16 (tree.index y x) z) (sym (ap (λ z. z ++ (w ++ (close_bracket, c.1) ∷ [])) i.3 ∙ append_assoc i.0 ((open_bracket, i.1) ∷ []) (w ++ (close_bracket, c.1) ∷ [])))
    (s_index (bars_of fs) 16 i.1 c.1 y x i.0 w (omega arith) i.2 (said free n x w p))))
closes_sound (items k xs) fs c n x u s o le e = after_expr_sound k fs c xs x u s
    (inward (items k xs) fs _ _ u o (λ v w i p. (i.0, i.1 ++ w, i.2, exprs_so xs i.1 x w i.3 (part_of free n 1 x w p le), ap (λ z. z ++ w) i.4 ∙ append_assoc i.0 i.1 w))) (asked_within (items k xs) fs _ u o) e
closes_sound (field gs m) fs c n x u s o le e = token_or comma c (key (gs ++ (m, x) ∷ []) fs) _ s u e
    (closing_to (field gs m) fs _ (λ z. (w : List Spot) × (a : ℕ) × ListedFields (gs ++ (m, x) ∷ []) w × (z ≡ (open_brace, a) ∷ w)) u (comma, c.1) o
    (λ v w i p. (
      (i.0 ++ i.1 ∷ (colon, i.3) ∷ w) ++ (comma, c.1) ∷ [],
      i.2,
      fields_on gs (m, x) c.1 _ (fields_so gs i.0 i.3 i.1 m x w i.4 i.5 (part_of free n 1 x w p le)),
      ap (λ z. z ++ (w ++ (comma, c.1) ∷ [])) i.6 ∙ ap (λ z. (open_brace, i.2) ∷ z) (middle i.0 (i.1 ∷ (colon, i.3) ∷ []) w ((comma, c.1) ∷ [])),
    )))
    (λ e g. token_so close_brace c (have (tree.object (fields_of (gs ++ (m, x) ∷ []))) fs) s u e
    (closing_to (field gs m) fs _ (Spells t.expr (bars_of fs) 16 (tree.object (fields_of (gs ++ (m, x) ∷ [])))) u (close_brace, c.1) o
    (λ v w i p. subst (λ z. Spells t.expr (bars_of fs) 16 (tree.object (fields_of (gs ++ (m, x) ∷ []))) z)
    (sym (ap (λ z. z ++ (w ++ (close_brace, c.1) ∷ [])) i.6 ∙ ap (λ z. (open_brace, i.2) ∷ z) (middle i.0 (i.1 ∷ (colon, i.3) ∷ []) w ((close_brace, c.1) ∷ []))))
    (s_object (bars_of fs) 16 i.2 c.1 (fields_of (gs ++ (m, x) ∷ [])) (i.0 ++ i.1 ∷ (colon, i.3) ∷ w) (omega arith) (s_some_fields _ _ (fields_so gs i.0 i.3 i.1 m x w i.4 i.5 (part_of free n 1 x w p le)))))))
closes_sound (test y) fs c n x u s o le e = token_so colon c (want (either y x ∷ fs)) s u e (
  over_frame (either y x) fs _ (closing_to (test y) fs _ (Leads fs (either y x)) u (colon, c.1) o
      (λ v w i p. (i.0, w, i.1, c.1, i.2, part_of free n 1 x w p le, ap (λ z. z ++ (w ++ (colon, c.1) ∷ [])) i.3 ∙ append_assoc i.0 ((query, i.1) ∷ []) (w ++ (colon, c.1) ∷ [])))) (asked_within (test y) fs _ u o),
  tt,
)
closes_sound statement fs c n x u s o le e = when_so (ends_statement c) (ended (tree.expression x) fs) s (u ++ c ∷ []) e (λ g.
    closing_to statement fs (λ w. Part free n x w × BeginsPlain w) (λ w. Spells t.stmt free 0 (tree.expression x) w × (is_open (tree.expression x) ≡ false)) u c (o.0, o.1, o.2, o.3, (o.4, o.3), o.5)
    (λ v w i p. (rw i (s_expression c x w (said free n x w p.0) p.1 g), refl)))
closes_sound (value h m its) fs c n x u s o le e = after_item_sound h fs c its (m, tree.some_expr x) u s
    (inward (value h m its) fs _ _ u o (λ v w i p. let j = i.2 in let k = j.1 in (
      k.0,
      k.1 ++ named m ∷ (equals, i.1) ∷ w,
      k.2,
      items_so (barred false h) its k.1 m (tree.some_expr x) ((equals, i.1) ∷ w) k.3 (s_value (barred false h) i.1 x w (part_of (barred false h) n 1 x w p le)),
      ap (λ z. z ++ w) (i.3 ∙ ap (λ z. z ++ (equals, i.1) ∷ []) (j.2 ∙ ap (λ z. z ++ named m ∷ []) k.4)) ∙ four k.0 k.1 (named m) (equals, i.1) w,
    ))) e
  where
    four : (p r : List Spot) (a b : Spot) (w : List Spot) → (((p ++ r) ++ a ∷ []) ++ b ∷ []) ++ w ≡ p ++ (r ++ a ∷ b ∷ w)
    four p r a b w = append_assoc ((p ++ r) ++ a ∷ []) (b ∷ []) w ∙ append_assoc (p ++ r) (a ∷ []) (b ∷ w) ∙ append_assoc p r (a ∷ b ∷ w)
closes_sound if_test fs c n x u s o le e = token_so close_paren c (start (then_of x ∷ fs)) s u e (
  over_frame (then_of x) fs _ (closing_to if_test fs _ (Leads fs (then_of x)) u (close_paren, c.1) o
      (λ v w i p. (i.0, (w, i.1.0, c.1, said free n x w p, ap (λ z. z ++ (w ++ (close_paren, c.1) ∷ [])) i.1.1)))) (asked_within if_test fs _ u o),
  tt,
)
closes_sound while_test fs c n x u s o le e = token_so close_paren c (start (while_body x ∷ fs)) s u e (
  over_frame (while_body x) fs _ (closing_to while_test fs _ (Leads fs (while_body x)) u (close_paren, c.1) o
      (λ v w i p. (i.0, (w, i.1.0, c.1, said free n x w p, ap (λ z. z ++ (w ++ (close_paren, c.1) ∷ [])) i.1.1)))) (asked_within while_test fs _ u o),
  tt,
)
closes_sound (do_test r) fs c n x u s o le e = token_so close_paren c (closing (tree.do_loop r x) fs) s u e (closing_to (do_test r) fs _ _ u (close_paren, c.1) o
    (λ v w i p. (
      λ d g. subst (λ z. Spells t.stmt free 0 (tree.do_loop r x) z) (sym (ap (λ z. (z ++ (w ++ (close_paren, c.1) ∷ [])) ++ d ∷ []) i.5 ∙ ap (λ z. (do_word, i.1) ∷ z) (append_assoc (i.0 ++ (while_word, i.2) ∷ (open_paren, i.3) ∷ []) (w ++ (close_paren, c.1) ∷ []) (d ∷ [])
          ∙ append_assoc i.0 ((while_word, i.2) ∷ (open_paren, i.3) ∷ []) ((w ++ (close_paren, c.1) ∷ []) ++ d ∷ []) ∙ ap (λ z. i.0 ++ (while_word, i.2) ∷ (open_paren, i.3) ∷ z) (append_assoc w ((close_paren, c.1) ∷ []) (d ∷ [])))))
          (s_do i.1 i.2 i.3 c.1 d r x i.0 w i.4 (said free n x w p) g),
      refl,
    )))
closes_sound for_first fs c n x u s o le e = elim (chosen (is in_word c) (when (is_target x) (want (for_object (tree.loop_expr x) ∷ fs))) (when (is semicolon c) (for_second (tree.first_expr x) fs)) (Some s) e) [
  | inl g ↦ when_so (is_target x) (want (for_object (tree.loop_expr x) ∷ fs)) s (u ++ c ∷ []) g.1 (λ h. (
    over_frame (for_object (tree.loop_expr x)) fs _ (closing_to for_first fs _ (Leads fs (for_object (tree.loop_expr x))) u c o
        (λ v w i p. (w, i.0, i.1.0, c.1, s_loop_expr x w h (part_of no_in n 15 x w p (p.high h)), ap (λ (z : Spot). v ++ (w ++ z ∷ [])) (spot_is in_word c g.0) ∙ ap (λ z. z ++ (w ++ (in_word, c.1) ∷ [])) i.1.1))) (asked_within for_first fs _ u o),
    tt,
  ))
  | inr g ↦ token_so semicolon c (for_second (tree.first_expr x) fs) s u g.1 (closing_to for_first fs _ (ForFirst (tree.first_expr x)) u (semicolon, c.1) o
      (λ v w i p. (w, i.0, i.1.0, c.1, s_first_expr x w (said no_in n x w p), ap (λ z. z ++ (w ++ (semicolon, c.1) ∷ [])) i.1.1)))
]
closes_sound (for_test r) fs c n x u s o le e = token_so semicolon c (for_third r (tree.some_expr x) fs) s u e (closing_to (for_test r) fs _ (ForSecond r (tree.some_expr x)) u (semicolon, c.1) o
    (λ v w i p. (v, w, c.1, i, s_some_expr x w (said free n x w p), refl)))
closes_sound (for_step r m) fs c n x u s o le e = token_so close_paren c (start (for_body r m (tree.some_expr x) ∷ fs)) s u e (
  over_frame (for_body r m (tree.some_expr x)) fs _ (closing_to (for_step r m) fs _ (Leads fs (for_body r m (tree.some_expr x))) u (close_paren, c.1) o
      (λ v w i p. (v, w, c.1, i, s_some_expr x w (said free n x w p), refl))) (asked_within (for_step r m) fs _ u o),
  tt,
)
closes_sound (for_object r) fs c n x u s o le e = token_so close_paren c (start (in_body r x ∷ fs)) s u e (
  over_frame (in_body r x) fs _ (closing_to (for_object r) fs _ (Leads fs (in_body r x)) u (close_paren, c.1) o
      (λ v w i p. (v, w, c.1, i, said free n x w p, refl))) (asked_within (for_object r) fs _ u o),
  tt,
)
closes_sound (giving a) fs c n x u s o le e = when_so (ends_statement c) (ended (tree.return (tree.some_expr x) a) fs) s (u ++ c ∷ []) e (λ g.
    closing_to (giving a) fs _ (λ w. Spells t.stmt free 0 (tree.return (tree.some_expr x) a) w × (is_open (tree.return (tree.some_expr x) a) ≡ false)) u c o
    (λ v w i p. (rw i (s_return a c (tree.some_expr x) w (s_some_expr x w (said free n x w p)) g), refl)))
closes_sound throwing fs c n x u s o le e = when_so (ends_statement c) (ended (tree.throw x) fs) s (u ++ c ∷ []) e (λ g.
    closing_to throwing fs _ (λ w. Spells t.stmt free 0 (tree.throw x) w × (is_open (tree.throw x) ≡ false)) u c o
    (λ v w i p. (rw i.1 (s_throw i.0 c x w (said free n x w p) g), refl)))
closes_sound (with_head a) fs c n x u s o le e = token_so close_paren c (start (with_body x a ∷ fs)) s u e (
  over_frame (with_body x a) fs _ (closing_to (with_head a) fs _ (Leads fs (with_body x a)) u (close_paren, c.1) o
      (λ v w i p. (w, i.0, c.1, said free n x w p, ap (λ z. z ++ (w ++ (close_paren, c.1) ∷ [])) i.1))) (asked_within (with_head a) fs _ u o),
  tt,
)
closes_sound switch_head fs c n x u s o le e = token_so close_paren c (await (open_brace ∷ []) (clauses x fs)) s u e (λ q h. (let m = one_mark open_brace q h in
    subst (λ (z : List Spot). Over fs (Switched x []) ((u ++ (close_paren, c.1) ∷ []) ++ z)) (sym m.1)
    (over_on fs (λ z. (a : ℕ) × HeadOf switch_word a x z) (Switched x []) (u ++ (close_paren, c.1) ∷ []) ((open_brace, m.0) ∷ [])
    (closing_to switch_head fs _ (λ z. (a : ℕ) × HeadOf switch_word a x z) u (close_paren, c.1) o (λ v w i p. (i.0, (w, i.1.0, c.1, said free n x w p, ap (λ z. z ++ (w ++ (close_paren, c.1) ∷ [])) i.1.1))))
    (λ w i. (i.1.0, [], i.0, i.1.1, i.1.2, m.0, i.1.3, s_no_cases, refl, ap (λ z. z ++ (open_brace, m.0) ∷ []) i.1.4 ∙ ap (λ z. (switch_word, i.0) ∷ (open_paren, i.1.1) ∷ z) (append_assoc i.1.0 ((close_paren, i.1.2) ∷ []) ((open_brace, m.0) ∷ [])))))))
closes_sound (case_test y cs) fs c n x u s o le e = token_so colon c (start (body (a_clause y cs (tree.some_expr x)) [] ∷ fs)) s u e (
  over_frame (body (a_clause y cs (tree.some_expr x)) []) fs _ (closing_to (case_test y cs) fs _ (Leads fs (body (a_clause y cs (tree.some_expr x)) [])) u (colon, c.1) o
      (λ v w i p. (v ++ (w ++ (colon, c.1) ∷ []), [], (i.0, (case_word, i.1) ∷ (w ++ (colon, c.1) ∷ []), i.2, (w, i.1, c.1, said free n x w p, refl), tt, ap (λ z. z ++ (w ++ (colon, c.1) ∷ [])) i.3 ∙ append_assoc i.0 ((case_word, i.1) ∷ []) (w ++ (colon, c.1) ∷ [])), s_no_stmts 0, sym (append-nil _)))) (asked_within (case_test y cs) fs _ u o),
  tt,
)
closes_sound _ fs c n x u s o le e = none_some s e

-- ---- behind a part

abbrev settled : Bool → Frame → Stack → E → Spot → Option E → Option State
settled i f k x c o = elim o [ Some y ↦ settle i k y c | None ↦ closes f x k c ]

pub settle_sound : (f : Stack) (i : Bool) (c : Spot) (n : ℕ) (x : E) (u : List Spot) (s : State) → no_in_here f ≡ i → Over f (Part (bars_of f) n x) u → asked f ≤ n → soft_in (infix_of i c.0) ≤ n
    → settle i f x c ≡ Some s → StandsFor s (u ++ c ∷ [])
unfolding settle
settle_sound [] i c n x u s is_i o le lf e = shifted_sound (infix_of i c.0) [] c n x u s (ap (λ b. infix_of b c.0) is_i) o (λ j h. omega arith) lf e
settle_sound (f ∷ fs) i c n x u s is_i o le lf e = elim (chosen (binds (infix_of i c.0) f) _ _ (Some s) e) [
  | inl h ↦ shifted_sound (infix_of i c.0) (f ∷ fs) c n x u s (ap (λ b. infix_of b c.0) is_i) o (bound (infix_of i c.0) f h.0) lf h.1
  | inr h ↦ go (λ y z p q. settle_sound fs i c (makes f) y u s z p (asked_within f fs _ u o) q) h.0 (filled f x) refl h.1
]
  where
    go : ((y : E) → no_in_here fs ≡ i → Over fs (Part (bars_of fs) (makes f) y) u → soft_in (infix_of i c.0) ≤ makes f → settle i fs y c ≡ Some s → StandsFor s (u ++ c ∷ []))
        → binds (infix_of i c.0) f ≡ false → (r : Option E) → filled f x ≡ r → settled i f fs x c r ≡ Some s → StandsFor s (u ++ c ∷ [])
    go rec nb None fi e = closes_sound f fs c n x u s o le e
    go rec nb (Some y) fi e = rec y (sym (filled_in f fs x y fi) ∙ is_i)
        (inward f fs (Part (bars_of (f ∷ fs)) n x) (Part (bars_of fs) (makes f) y) u o (λ v w j p. plug f fs n x y v w fi j p le (asked_within f fs _ u o))) (unbound f x y (infix_of i c.0) fi nb) e

pub as_part : (b : Bars) (x : E) (w : List Spot) → Spells t.expr b 16 x w → Part b 16 x w
as_part b x w p = record { spelled = p; high = λ h. omega arith }

calls_free : (i : Bool) → bars_call (barred false i) ≡ false
calls_free true = refl
calls_free false = refl

arguments_sound : (f : Stack) (x : E) (a : ℕ) (u : List Spot) → Over f (Spells t.expr (bars_of f) 16 x) u → StandsFor (arguments x f) (u ++ (open_paren, a) ∷ [])
arguments_sound [] x a u o = (over_on [] _ _ u ((open_paren, a) ∷ []) o (λ w p. (w ++ (open_paren, a) ∷ [], [], (w, a, refl, p, refl), refl, sym (append-nil _))), refl)
arguments_sound (new_of ∷ f) x a u o = (closing_to new_of f _ _ u (open_paren, a) o (λ v w i p. ((new_word, i.0) ∷ (w ++ (open_paren, a) ∷ []), [], (w, i.0, a, p, refl), refl, ap (λ z. z ++ (w ++ (open_paren, a) ∷ [])) i.1 ∙ sym (append-nil _))), refl)
arguments_sound (g ∷ f) x a u o = (over_on (g ∷ f) _ _ u ((open_paren, a) ∷ []) o (λ w p. (w ++ (open_paren, a) ∷ [], [], (w, a, calls_free (no_in_here (g ∷ f)), p, refl), refl, sym (append-nil _))), refl)

pub have_sound : (f : Stack) (x : E) (c : Spot) (u : List Spot) (s : State) → Over f (Spells t.expr (bars_of f) 16 x) u → have_step x f c ≡ Some s → StandsFor s (u ++ c ∷ [])
have_sound f x c u s o e = token_or point c (member x f) _ s u e (over_on f _ _ u ((point, c.1) ∷ []) o (λ w p. (w, c.1, p, refl)))
    (λ e g. token_or open_bracket c (want (subscript x ∷ f)) _ s u e (over_frame (subscript x) f _ (over_on f _ (Leads f (subscript x)) u ((open_bracket, c.1) ∷ []) o (λ w p. (w, c.1, p, refl))) (let a = asked_fits f in omega arith), tt)
    (λ e g. token_or open_paren c (arguments x f) _ s u e (arguments_sound f x c.1 u o)
    (λ e g. settle_sound f (no_in_here f) c 16 x u s refl (over_as f _ _ u o (λ w p. as_part (bars_of f) x w p)) (let a = asked_fits f in omega arith) (let a = soft_any (infix_of (no_in_here f) c.0) in omega arith) e)))

pub past_sound : (f : Stack) (x : E) (c : Spot) (u : List Spot) (s : State) → Over f (λ w. Spells t.expr (bars_of f) 14 x w × (is_target x ≡ false)) u → asked f ≤ 14 → past_step x f c ≡ Some s → StandsFor s (u ++ c ∷ [])
past_sound f x c u s o le e = settle_sound f (no_in_here f) c 14 x u s refl (over_as f _ _ u o (λ w p. record { spelled = p.0; high = λ h. absurd (cc (h, p.1)) })) le (let a = soft_any (infix_of (no_in_here f) c.0) in omega arith) e

-- ---- an operand begins

over_one : (f : Stack) (u : List Spot) (c : Spot) (M : List Spot → Type 0) → Stands f u → ((k : List Spot) → Headed f (c ∷ k)) → M (c ∷ []) → Over f M (u ++ c ∷ [])
over_one f u c M st hd m = (u, c ∷ [], st, hd [], m, refl)

opened_sound : (f : Stack) (a : ℕ) (o : Opening) (s : State) (u : List Spot) → Stands f u → ((k : List Spot) → Headed f ((opening_sign o, a) ∷ k)) → opened f a (Some o) ≡ Some s → StandsFor s (u ++ (opening_sign o, a) ∷ [])
opened_sound f a a_this s u st hd e = the_state _ _ s e (over_one f u _ _ st hd (s_this (bars_of f) 16 a (omega arith)))
opened_sound f a a_null s u st hd e = the_state _ _ s e (over_one f u _ _ st hd (s_null (bars_of f) 16 a (omega arith)))
opened_sound f a (l.a_bool true) s u st hd e = the_state _ _ s e (over_one f u _ _ st hd (s_true (bars_of f) 16 a (omega arith)))
opened_sound f a (l.a_bool false) s u st hd e = the_state _ _ s e (over_one f u _ _ st hd (s_false (bars_of f) 16 a (omega arith)))
opened_sound f a a_paren s u st hd e = the_state _ _ s e (over_frame paren f _ (over_one f u _ (Leads f paren) st hd (a, refl)) (let b = asked_fits f in omega arith), tt)
opened_sound f a l.an_array s u st hd e = the_state _ _ s e (over_one f u _ _ st hd ((open_bracket, a) ∷ [], [], (a, refl), refl, refl), tt)
opened_sound f a an_object s u st hd e = the_state _ _ s e (over_one f u _ _ st hd ([], a, refl, refl))
opened_sound f a l.a_function s u st hd e = the_state _ _ s e (over_one f u _ _ st hd refl, hd)
opened_sound f a l.a_new s u st hd e = the_state _ _ s e (over_frame new_of f _ (over_one f u _ (Leads f new_of) st hd (a, refl)) (asked_fits f), tt)
opened_sound f a (a_prefix op) s u st hd e = when_so (nat_le (asked f) 13) (want (prefix op a ∷ f)) s _ e (λ g. (over_frame (prefix op a) f _ (over_one f u _ (Leads f (prefix op a)) st hd refl) (leb-true (asked f) 13 g), tt))
opened_sound f a (a_prefix_step up) s u st hd e = when_so (nat_le (asked f) 13) (want (prefix_step up ∷ f)) s _ e (λ g. (over_frame (prefix_step up) f _ (over_one f u _ (Leads f (prefix_step up)) st hd (a, refl)) (leb-true (asked f) 13 g), tt))

found_sound : (f : Stack) (r : Token) (a : ℕ) (o : Option Opening) (s : State) (u : List Spot) → look_up openings r ≡ o → Stands f u → ((k : List Spot) → Headed f ((r, a) ∷ k)) → opened f a o ≡ Some s → StandsFor s (u ++ (r, a) ∷ [])
found_sound f r a None s u is_o st hd e = none_some s e
found_sound f r a (Some o) s u is_o st hd e =
    subst (λ (z : Token). ((k : List Spot) → Headed f ((z, a) ∷ k)) → StandsFor s (u ++ (z, a) ∷ [])) (sym (opening_is r o is_o)) (λ h. opened_sound f a o s u st h e) hd

pub operand_sound : (f : Stack) (c : Spot) (s : State) (u : List Spot) → Stands f u → ((k : List Spot) → Headed f (c ∷ k)) → operand f c ≡ Some s → StandsFor s (u ++ c ∷ [])
operand_sound f (name us, a) s u st hd e = the_state _ _ s e (over_one f u _ _ st hd (s_name (bars_of f) 16 (placed_word us a) (omega arith)))
operand_sound f (num n, a) s u st hd e = the_state _ _ s e (over_one f u _ _ st hd (s_num (bars_of f) 16 a n (omega arith)))
operand_sound f (text us, a) s u st hd e = the_state _ _ s e (over_one f u _ _ st hd (s_text (bars_of f) 16 a us (omega arith)))
operand_sound f (word n, a) s u st hd e = found_sound f (word n) a (look_up openings (word n)) s u refl st hd e
operand_sound f (punct n, a) s u st hd e = found_sound f (punct n) a (look_up openings (punct n)) s u refl st hd e

-- an operand within a frame, no expression statement
pub within_sound : (g : Frame) (f : Stack) (c : Spot) (s : State) (u : List Spot) → Stands (g ∷ f) u → Place (g ∷ f) → operand (g ∷ f) c ≡ Some s → StandsFor s (u ++ c ∷ [])
within_sound g f c s u st p e = operand_sound (g ∷ f) c s u st (λ k. place_headed (g ∷ f) (c ∷ k) p) e
