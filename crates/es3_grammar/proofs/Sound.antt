-- What is read is spelled so: statements.
use Rattle.std.proofs.Common.{◌≡◌, ℕ, ◌⊎◌, Bool, true, false, cond, not, ◌&&◌, List, [], ◌∷◌, ◌++◌, Option, Some, None, refl, sym, ap, subst, inl, inr, ◌∙◌, arith, append_assoc}
use Rattle.std.proofs.lemmas.List.{append-nil}
use Rattle.es3_tree.specs.Token.{Token, name, word, punct, num, text}
use Rattle.es3_tree.specs.Tree as t
use Rattle.es3_tree.specs.Placed as tree
use Rattle.es3_tree.specs.Placed.{Placed, Word}
use Rattle.es3_grammar.specs.Spots.{Spot, is, same_token, look_up, catch_word, do_word, else_word, finally_word, function_word, in_word, switch_word, case_word, default_word, var_word, while_word, open_brace, close_brace, open_paren, close_paren, semicolon, colon, equals, break_word, continue_word, for_word, if_word, return_word, throw_word, try_word, with_word}
use Rattle.es3_grammar.specs.Levels.{E}
use Rattle.es3_grammar.specs.Grammar.{S, free, is_open, ends_statement, named, naming, one_default, has_default, is_plain, BeginsPlain, placed_word, Spells, s_name, s_return, s_no_stmts, s_switch, s_block, s_empty, s_catch, s_finally, s_catch_finally, s_if, s_else, s_while, s_with, s_for, s_for_in, s_label, s_loop_var, s_no_value, s_no_first, s_no_expr, s_continue, s_break}
use Rattle.es3_grammar.specs.Frames.{Item, Clause, stmts_of, cases_of, Body, Frame, statement, value, if_test, while_test, do_test, for_first, for_test, for_step, for_object, giving, throwing, with_head, switch_head, case_test, then_of, while_body, do_body, for_body, in_body, with_body, a_clause, body, Stack, State, want, have, past, listed, member, key, func, start, ended, closing, item, for_second, for_third, clauses, await, a_function, a_program, a_block, params, param, param_end, a_try, a_catch, a_finally, begun, item_end, for_open, returned, jumped, tried, caught, catch_name, label_of, else_of}
use Rattle.es3_grammar.specs.Machine.{when, operand, after_item, declares, clause_step, cases_closed, body_closed, list_closed, next_clause, Begin, a_block_begins, a_list_ends, an_empty, a_break, a_next_clause, a_do, a_for, a_declaration, an_if, a_return, a_switch, a_throw, a_try_begins, a_var, a_while, a_with, begins, headed, begin_by, begin, begun_step, resume, item_step, first_item, item_end_step, for_open_step, for_second_step, for_third_step, returned_step, jump, jumped_step, finally_begins, tried_step, catch_name_step, caught_made, caught_step, await_step, step}
use Rattle.es3_grammar.proofs.Tables.{chosen, none_some, spot_is, same_is, looked_up, not_false}
use Rattle.es3_grammar.proofs.Follow.{barred}
use Rattle.es3_grammar.proofs.Longer.{items_so, Case, cases_so}
use Rattle.es3_grammar.proofs.Stands.{Place, VarItems, VarItem, ForFirst, ForSecond, ForObject, HeadOf, Word2, Leads, makes, Stands, Over, StandsFor, Switched, DefaultFits, Tried, Caught, Handled, Jumped}
use Rattle.es3_grammar.proofs.SoundParts.{the_state, when_so, token_so, token_or, place_headed, asked_fits, over_on, over_as, over_frame, inward, asked_within, closing_to}
use Rattle.es3_grammar.proofs.SoundExpr.{one_mark, two_marks, have_sound, operand_sound, within_sound, past_sound, after_item_sound}
use Rattle.es3_grammar.proofs.SoundFunctions.{longer_body, open_sound, key_sound, member_sound, func_sound, params_sound, param_sound, param_end_sound, func_closed}

-- ---- clauses of a `switch`

defaults_end : (cs : List Clause) (m : Placed t.maybe_expr) (ss : List S) → one_default (cases_of cs) ≡ true → DefaultFits m cs → one_default (cases_of (cs ++ (m, ss) ∷ [])) ≡ true
defaults_end [] tree.no_expr ss h g = refl
defaults_end [] (tree.some_expr x) ss h g = refl
defaults_end ((tree.no_expr, rs) ∷ cs) tree.no_expr ss h g = absurd cc
defaults_end ((tree.no_expr, rs) ∷ cs) (tree.some_expr x) ss h g = rw (has_end cs x ss) h
  where
    has_end : (cs : List Clause) (x : E) (ss : List S) → has_default (cases_of (cs ++ (tree.some_expr x, ss) ∷ [])) ≡ has_default (cases_of cs)
    has_end [] x ss = refl
    has_end ((tree.no_expr, rs) ∷ cs) x ss = refl
    has_end ((tree.some_expr y, rs) ∷ cs) x ss = has_end cs x ss
defaults_end ((tree.some_expr y, rs) ∷ cs) tree.no_expr ss h g = defaults_end cs tree.no_expr ss h g
defaults_end ((tree.some_expr y, rs) ∷ cs) (tree.some_expr x) ss h g = defaults_end cs (tree.some_expr x) ss h tt

-- a clause is whole
switched_on : (x : E) (cs : List Clause) (m : Placed t.maybe_expr) (ss : List S) (v w q : List Spot) → Switched x cs v → Case m w → DefaultFits m cs → Spells t.stmts free 0 (stmts_of ss) q → Switched x (cs ++ (m, ss) ∷ []) ((v ++ w) ++ q)
switched_on x cs m ss v w q sw c d p = (
  sw.0,
  sw.1 ++ (w ++ q),
  sw.2,
  sw.3,
  sw.4,
  sw.5,
  sw.6,
  cases_so cs sw.1 m ss w q sw.7 c p,
  defaults_end cs m ss sw.8 d,
  append_assoc v w q ∙ ap (λ z. z ++ (w ++ q)) sw.9 ∙ ap (λ z. (switch_word, sw.2) ∷ (open_paren, sw.3) ∷ z) (append_assoc sw.0 ((close_paren, sw.4) ∷ (open_brace, sw.5) ∷ sw.1) (w ++ q)),
)

cases_close : (x : E) (cs : List Clause) (f : Stack) (a : ℕ) (u : List Spot) → Over f (Switched x cs) u → StandsFor (cases_closed x cs f) (u ++ (close_brace, a) ∷ [])
cases_close x cs f a u o = over_on f (Switched x cs) _ u ((close_brace, a) ∷ []) o (λ w i. (
  subst (λ z. Spells t.stmt free 0 (tree.switch x (cases_of cs)) z)
      (sym (ap (λ z. z ++ (close_brace, a) ∷ []) i.9 ∙ ap (λ z. (switch_word, i.2) ∷ (open_paren, i.3) ∷ z) (append_assoc i.0 ((close_paren, i.4) ∷ (open_brace, i.5) ∷ i.1) ((close_brace, a) ∷ []))))
      (s_switch i.2 i.3 i.4 i.5 a x (cases_of cs) i.0 i.1 i.6 i.7 i.8),
  refl,
))

clause_sound : (x : E) (cs : List Clause) (f : Stack) (c : Spot) (u : List Spot) (s : State) → Over f (Switched x cs) u → clause_step x cs f c ≡ Some s → StandsFor s (u ++ c ∷ [])
clause_sound x cs f c u s o e = token_or case_word c (want (case_test x cs ∷ f)) _ s u e (over_frame (case_test x cs) f _ (over_on f _ (Leads f (case_test x cs)) u _ o (λ w i. (w, c.1, i, refl))) (let a = asked_fits f in omega arith), tt)
    (λ e g. elim (chosen (is default_word c) (when (not (has_default (cases_of cs))) (await (colon ∷ []) (start (body (a_clause x cs tree.no_expr) [] ∷ f)))) (when (is close_brace c) (cases_closed x cs f)) (Some s) e) [
      | inl h ↦ when_so (not (has_default (cases_of cs))) (await (colon ∷ []) (start (body (a_clause x cs tree.no_expr) [] ∷ f))) s (u ++ c ∷ []) h.1 (λ d q k. (let m = one_mark colon q k in
          subst (λ (z : List Spot). Stands (body (a_clause x cs tree.no_expr) [] ∷ f) ((u ++ c ∷ []) ++ z) × Unit {0}) (sym m.1) (
            over_frame (body (a_clause x cs tree.no_expr) []) f _ (subst (λ (z : List Spot). Over f (Leads f (body (a_clause x cs tree.no_expr) [])) z) (sym (append_assoc u (c ∷ []) ((colon, m.0) ∷ [])))
                (over_on f (Switched x cs) (Leads f (body (a_clause x cs tree.no_expr) [])) u (c ∷ (colon, m.0) ∷ []) o
                (λ w i. (w ++ c ∷ (colon, m.0) ∷ [], [], (w, c ∷ (colon, m.0) ∷ [], i, (c.1, m.0, ap (λ (z : Spot). z ∷ (colon, m.0) ∷ []) (spot_is default_word c h.0)), not_false _ d, refl), s_no_stmts 0, sym (append-nil _))))) (let a = asked_fits f in omega arith),
            tt,
          )))
      | inr h ↦ token_so close_brace c (cases_closed x cs f) s u h.1 (cases_close x cs f c.1 u o)
    ])

clause_over : (x : E) (cs : List Clause) (m : Placed t.maybe_expr) (ss : List S) (f : Stack) (u : List Spot) → Stands (body (a_clause x cs m) ss ∷ f) u → Over f (Switched x (cs ++ (m, ss) ∷ [])) u
clause_over x cs m ss f u st = (st.0, st.1, st.2, st.5, (let i = st.3 in let k = i.2 in subst (λ (z : List Spot). Switched x (cs ++ (m, ss) ∷ []) z) (sym (i.4 ∙ ap (λ z. z ++ i.1) k.5)) (switched_on x cs m ss k.0 k.1 i.1 k.2 k.3 k.4 i.3)), st.6)

-- ---- lists of statements end

block_close : (f : Stack) (a : ℕ) (ss : List S) (u : List Spot) → Stands (body a_block ss ∷ f) u → StandsFor (ended (tree.block (stmts_of ss)) f) (u ++ (close_brace, a) ∷ [])
block_close f a ss u st = over_on f (Leads f (body a_block ss)) _ u ((close_brace, a) ∷ []) (st.0, st.1, st.2, st.5, st.3, st.6) (λ w i. (
  subst (λ z. Spells t.stmt free 0 (tree.block (stmts_of ss)) z)
      (sym (ap (λ z. z ++ (close_brace, a) ∷ []) (i.4 ∙ ap (λ z. z ++ i.1) i.2.1))) (s_block i.2.0 a (stmts_of ss) i.1 i.3),
  refl,
))

finally_spelled : (rs : List S) (h : Placed t.handler) (ls : List S) (v w : List Spot) (a d e : ℕ) → Handled rs h v → Spells t.stmts free 0 (stmts_of ls) w
    → Spells t.stmt free 0 (tree.try (stmts_of rs) h (tree.some_block (stmts_of ls))) (v ++ (finally_word, a) ∷ (open_brace, d) ∷ (w ++ (close_brace, e) ∷ []))
finally_spelled rs tree.no_handler ls v w a d e h p = subst (λ z. Spells t.stmt free 0 (tree.try (stmts_of rs) tree.no_handler (tree.some_block (stmts_of ls))) z)
    (sym (ap (λ z. z ++ (finally_word, a) ∷ (open_brace, d) ∷ (w ++ (close_brace, e) ∷ [])) h.5 ∙ ap (λ z. (try_word, h.1) ∷ (open_brace, h.2) ∷ z) (append_assoc h.0 ((close_brace, h.3) ∷ []) ((finally_word, a) ∷ (open_brace, d) ∷ (w ++ (close_brace, e) ∷ [])))))
    (s_finally h.1 h.2 h.3 a d e (stmts_of rs) (stmts_of ls) h.0 w h.4 p)
finally_spelled rs (tree.some_handler n hs) ls v w a d e h p = let c = h.3 in let r = c.5 in subst (λ z. Spells t.stmt free 0 (tree.try (stmts_of rs) (tree.some_handler n hs) (tree.some_block (stmts_of ls))) z)
    (sym (ap (λ z. z ++ (finally_word, a) ∷ (open_brace, d) ∷ (w ++ (close_brace, e) ∷ [])) (h.5 ∙ ap (λ z. z ++ (h.1 ++ (close_brace, h.2) ∷ [])) (c.6 ∙ ap (λ z. z ++ (catch_word, c.1) ∷ (open_paren, c.2) ∷ named n ∷ (close_paren, c.3) ∷ (open_brace, c.4) ∷ []) r.5))
    ∙ ap (λ z. (try_word, r.1) ∷ (open_brace, r.2) ∷ z) (deep r.0 ((close_brace, r.3) ∷ []) ((catch_word, c.1) ∷ (open_paren, c.2) ∷ named n ∷ (close_paren, c.3) ∷ (open_brace, c.4) ∷ []) h.1 ((close_brace, h.2) ∷ []) ((finally_word, a) ∷ (open_brace, d) ∷ (w ++ (close_brace, e) ∷ [])))))
    (s_catch_finally r.1 r.2 r.3 c.1 c.2 c.3 c.4 h.2 a d e (stmts_of rs) n hs (stmts_of ls) r.0 h.1 w r.4 h.4 p)
  where
    deep : (v b k w c z : List Spot) → (((v ++ b) ++ k) ++ (w ++ c)) ++ z ≡ v ++ (b ++ (k ++ (w ++ (c ++ z))))
    deep v b k w c z = append_assoc ((v ++ b) ++ k) (w ++ c) z ∙ append_assoc (v ++ b) k ((w ++ c) ++ z) ∙ append_assoc v b (k ++ ((w ++ c) ++ z)) ∙ ap (λ y. v ++ (b ++ (k ++ y))) (append_assoc w c z)

pub caught_spelled : (rs : List S) (n : Word) (hs : Placed t.stmts) (u : List Spot) → Caught rs n hs u → Spells t.stmt free 0 (tree.try (stmts_of rs) (tree.some_handler n hs) tree.no_block) u
caught_spelled rs n hs u h = let c = h.3 in let r = c.5 in subst (λ z. Spells t.stmt free 0 (tree.try (stmts_of rs) (tree.some_handler n hs) tree.no_block) z)
    (sym (h.5 ∙ ap (λ z. z ++ (h.1 ++ (close_brace, h.2) ∷ [])) (c.6 ∙ ap (λ z. z ++ (catch_word, c.1) ∷ (open_paren, c.2) ∷ named n ∷ (close_paren, c.3) ∷ (open_brace, c.4) ∷ []) r.5)
    ∙ ap (λ z. (try_word, r.1) ∷ (open_brace, r.2) ∷ z) (append_assoc (r.0 ++ (close_brace, r.3) ∷ []) ((catch_word, c.1) ∷ (open_paren, c.2) ∷ named n ∷ (close_paren, c.3) ∷ (open_brace, c.4) ∷ []) (h.1 ++ (close_brace, h.2) ∷ [])
    ∙ append_assoc r.0 ((close_brace, r.3) ∷ []) ((catch_word, c.1) ∷ (open_paren, c.2) ∷ named n ∷ (close_paren, c.3) ∷ (open_brace, c.4) ∷ (h.1 ++ (close_brace, h.2) ∷ [])))))
    (s_catch r.1 r.2 r.3 c.1 c.2 c.3 c.4 h.2 (stmts_of rs) n hs r.0 h.1 r.4 h.4)

body_close : (o : Body) (f : Stack) (a : ℕ) (ss : List S) (u : List Spot) (s : State) → Stands (body o ss ∷ f) u → body_closed o ss f ≡ Some s → StandsFor s (u ++ (close_brace, a) ∷ [])
body_close a_program f a ss u s st e = none_some s e
body_close a_block f a ss u s st e = the_state _ _ s e (block_close f a ss u st)
body_close (a_function h ps) f a ss u s st e = the_state _ _ s e (func_closed h ps ss f a u st)
body_close (a_clause x cs m) f a ss u s st e = the_state _ _ s e (cases_close x (cs ++ (m, ss) ∷ []) f a u (clause_over x cs m ss f u st))
body_close a_try f a ss u s st e = the_state _ _ s e (over_on f (Leads f (body a_try ss)) (Tried ss) u ((close_brace, a) ∷ []) (st.0, st.1, st.2, st.5, st.3, st.6)
    (λ w i. (i.1, i.2.0, i.2.1, a, i.3, ap (λ z. z ++ (close_brace, a) ∷ []) (i.4 ∙ ap (λ z. z ++ i.1) i.2.2))))
body_close (a_catch rs n) f a ss u s st e = the_state _ _ s e (over_on f (Leads f (body (a_catch rs n) ss)) (Caught rs n (stmts_of ss)) u ((close_brace, a) ∷ []) (st.0, st.1, st.2, st.5, st.3, st.6)
    (λ w i. (i.0, i.1, a, i.2, i.3, ap (λ z. z ++ (close_brace, a) ∷ []) i.4 ∙ append_assoc i.0 i.1 ((close_brace, a) ∷ []))))
body_close (a_finally rs h) f a ss u s st e = the_state _ _ s e (over_on f (Leads f (body (a_finally rs h) ss)) _ u ((close_brace, a) ∷ []) (st.0, st.1, st.2, st.5, st.3, st.6)
    (λ w i. let k = i.2 in (
      subst (λ z. Spells t.stmt free 0 (tree.try (stmts_of rs) h (tree.some_block (stmts_of ss))) z)
          (sym (ap (λ z. z ++ (close_brace, a) ∷ []) (i.4 ∙ ap (λ z. z ++ i.1) k.4) ∙ append_assoc (k.0 ++ (finally_word, k.1) ∷ (open_brace, k.2) ∷ []) i.1 ((close_brace, a) ∷ []) ∙ append_assoc k.0 ((finally_word, k.1) ∷ (open_brace, k.2) ∷ []) (i.1 ++ (close_brace, a) ∷ [])))
          (finally_spelled rs h ss k.0 i.1 k.1 k.2 a k.3 i.3),
      refl,
    )))

list_close : (f : Stack) (a : ℕ) (u : List Spot) (s : State) → Stands f u → list_closed f ≡ Some s → StandsFor s (u ++ (close_brace, a) ∷ [])
list_close (body o ss ∷ f) a u s st e = body_close o f a ss u s st e
list_close [] a u s st e = none_some s e
list_close _ a u s st e = none_some s e

next_sound : (f : Stack) (c : Spot) (u : List Spot) (s : State) → Stands f u → next_clause f c ≡ Some s → StandsFor s (u ++ c ∷ [])
next_sound (body (a_clause x cs m) ss ∷ f) c u s st e = clause_sound x (cs ++ (m, ss) ∷ []) f c u s (clause_over x cs m ss f u st) e
next_sound [] c u s st e = none_some s e
next_sound _ c u s st e = none_some s e

-- ---- a statement begins

abbrev pub begin_sign : Begin → Token
begin_sign a_block_begins = open_brace
begin_sign a_list_ends = close_brace
begin_sign an_empty = semicolon
begin_sign (a_break true) = break_word
begin_sign (a_break false) = continue_word
begin_sign a_next_clause = case_word
begin_sign a_do = do_word
begin_sign a_for = for_word
begin_sign a_declaration = function_word
begin_sign an_if = if_word
begin_sign a_return = return_word
begin_sign a_switch = switch_word
begin_sign a_throw = throw_word
begin_sign a_try_begins = try_word
begin_sign a_var = var_word
begin_sign a_while = while_word
begin_sign a_with = with_word

abbrev has_begin : Token → Begin → Bool
has_begin r a_next_clause = true
has_begin r b = same_token (begin_sign b) r

-- a token that no row has
abbrev in_rows : Token → List (Token × Begin) → Bool
in_rows d [] = false
in_rows d (r ∷ rs) = cond (same_token r.0 d) true (in_rows d rs)

not_there : (rows : List (Token × Begin)) (r d : Token) → look_up rows r ≡ None → in_rows d rows ≡ true → same_token d r ≡ false
unfolding look_up
not_there [] r d e h = absurd cc
not_there (x ∷ xs) r d e h = elim (chosen (same_token x.0 r) (Some x.1) (look_up xs r) None e) [
  | inl g ↦ none_some x.1 (sym g.1)
  | inr g ↦ elim (chosen (same_token x.0 d) true (in_rows d xs) true h) [ inl k ↦ subst (λ z. same_token z r ≡ false) (sym (same_is x.0 d k.0)) g.0 | inr k ↦ not_there xs r d g.1 k.1 ]
]

placed_over : (f : Stack) (u : List Spot) (c : Spot) (M : List Spot → Type 0) → Stands f u → Place f → M (c ∷ []) → Over f M (u ++ c ∷ [])
placed_over f u c M st p m = (u, c ∷ [], st, place_headed f (c ∷ []) p, m, refl)

-- a word and an open parenthesis
headed_so : (g : Frame) (f : Stack) (w : Token) (a : ℕ) (u : List Spot) (s : State) → Stands f u → Place f → Place (g ∷ f) → makes g ≡ 16 → ((v : List Spot) → Word2 w a v → Leads f g v) → headed g f ≡ Some s → StandsFor s (u ++ (w, a) ∷ [])
headed_so g f w a u s st p pg m h e = the_state _ _ s e (λ q k. (let n = one_mark open_paren q k in
    subst (λ (z : List Spot). Stands (g ∷ f) ((u ++ (w, a) ∷ []) ++ z) × Place (g ∷ f)) (sym n.1)
    (over_frame g f _ (over_on f (λ z. z ≡ (w, a) ∷ []) (Leads f g) (u ++ (w, a) ∷ []) ((open_paren, n.0) ∷ []) (placed_over f u (w, a) _ st p refl) (λ v i. h _ (n.0, ap (λ z. z ++ (open_paren, n.0) ∷ []) i))) (let b = asked_fits f in omega (arith, m)), pg)))

plainly : (f : Stack) (c : Spot) (s : State) (u : List Spot) → Stands f u → Place f → is_plain c ≡ true → operand (statement ∷ f) c ≡ Some s → StandsFor s (u ++ c ∷ [])
plainly f c s u st p h e = operand_sound (statement ∷ f) c s u (u, [], st, refl, (let a = asked_fits f in omega arith), place_headed f [] p, sym (append-nil u)) (λ k. h) e

frame_16 : (g : Frame) (f : Stack) (u : List Spot) (c : Spot) → Stands f u → Place f → makes g ≡ 16 → Leads f g (c ∷ []) → Stands (g ∷ f) (u ++ c ∷ [])
frame_16 g f u c st p m h = over_frame g f _ (placed_over f u c (Leads f g) st p h) (let b = asked_fits f in omega (arith, m))

by_begin : (f : Stack) (a : ℕ) (b : Begin) (s : State) (u : List Spot) → Stands f u → Place f → (b ≡ a_next_clause → ⊥) → begin_by f (begin_sign b, a) (Some b) ≡ Some s → StandsFor s (u ++ (begin_sign b, a) ∷ [])
by_begin f a a_block_begins s u st p n e = the_state _ _ s e (frame_16 (body a_block []) f u _ st p refl ((open_brace, a) ∷ [], [], (a, refl), s_no_stmts 0, refl), tt)
by_begin f a a_list_ends s u st p n e = list_close f a u s st e
by_begin f a an_empty s u st p n e = the_state _ _ s e (placed_over f u _ _ st p (s_empty a, refl))
by_begin f a (a_break true) s u st p n e = the_state _ _ s e (placed_over f u _ _ st p refl)
by_begin f a (a_break false) s u st p n e = the_state _ _ s e (placed_over f u _ _ st p refl)
by_begin f a a_next_clause s u st p n e = absurd (n refl)
by_begin f a a_do s u st p n e = the_state _ _ s e (frame_16 do_body f u _ st p refl (a, refl), tt)
by_begin f a a_for s u st p n e = the_state _ _ s e (λ q k. (let m = one_mark open_paren q k in
    subst (λ (z : List Spot). Over f (λ z. (a : ℕ) × Word2 for_word a z) ((u ++ (for_word, a) ∷ []) ++ z)) (sym m.1)
    (over_on f (λ z. z ≡ (for_word, a) ∷ []) _ (u ++ (for_word, a) ∷ []) ((open_paren, m.0) ∷ []) (placed_over f u _ _ st p refl) (λ v i. (a, (m.0, ap (λ z. z ++ (open_paren, m.0) ∷ []) i))))))
by_begin f a a_declaration s u st p n e = when_so (declares f) (func true a f) s _ e (λ g. (placed_over f u _ _ st p refl, g))
by_begin f a an_if s u st p n e = headed_so if_test f if_word a u s st p tt refl (λ v i. (a, i)) e
by_begin f a a_return s u st p n e = the_state _ _ s e (placed_over f u _ _ st p refl)
by_begin f a a_switch s u st p n e = headed_so switch_head f switch_word a u s st p tt refl (λ v i. (a, i)) e
by_begin f a a_throw s u st p n e = the_state _ _ s e (frame_16 throwing f u _ st p refl (a, refl), tt)
by_begin f a a_try_begins s u st p n e = the_state _ _ s e (λ q k. (let m = one_mark open_brace q k in
    subst (λ (z : List Spot). Stands (body a_try [] ∷ f) ((u ++ (try_word, a) ∷ []) ++ z) × Unit {0}) (sym m.1) (
      over_frame (body a_try []) f _ (over_on f (λ z. z ≡ (try_word, a) ∷ []) (Leads f (body a_try [])) (u ++ (try_word, a) ∷ []) ((open_brace, m.0) ∷ []) (placed_over f u _ _ st p refl)
          (λ v i. (v ++ (open_brace, m.0) ∷ [], [], (a, m.0, ap (λ z. z ++ (open_brace, m.0) ∷ []) i), s_no_stmts 0, sym (append-nil _)))) (let b = asked_fits f in omega arith),
      tt,
    )))
by_begin f a a_var s u st p n e = the_state _ _ s e (placed_over f u _ (VarItems false []) st p ((var_word, a) ∷ [], [], (a, refl), refl, refl))
by_begin f a a_while s u st p n e = headed_so while_test f while_word a u s st p tt refl (λ v i. (a, i)) e
by_begin f a a_with s u st p n e = headed_so (with_head a) f with_word a u s st p tt refl (λ v i. i) e

pub clause_or : (b : Begin) → (b ≡ a_next_clause) ⊎ (b ≡ a_next_clause → ⊥)
clause_or a_next_clause = inl refl
clause_or _ = inr (λ e. cc)

pub sign_is : (r : Token) (b : Begin) → look_up begins r ≡ Some b → (b ≡ a_next_clause → ⊥) → r ≡ begin_sign b
unfolding look_up
sign_is r b e n = go b n (looked_up has_begin begins r b refl e)
  where
    go : (b : Begin) → (b ≡ a_next_clause → ⊥) → has_begin r b ≡ true → r ≡ begin_sign b
    go a_next_clause n h = absurd (n refl)
    go (a_break true) n h = same_is _ r h
    go (a_break false) n h = same_is _ r h
    go b n h = same_is (begin_sign b) r h

found_begin : (f : Stack) (c : Spot) (o : Option Begin) (s : State) (u : List Spot) → look_up begins c.0 ≡ o → Stands f u → Place f → begin_by f c o ≡ Some s → StandsFor s (u ++ c ∷ [])
unfolding look_up
found_begin f c None s u h st p e = plainly f c s u st p (rw (not_there begins c.0 open_brace h refl, not_there begins c.0 function_word h refl) refl) e
found_begin f c (Some b) s u h st p e = elim (clause_or b) [
  | inl g ↦ next_sound f c u s st (subst (λ b. begin_by f c (Some b) ≡ Some s) g e)
  | inr g ↦ (let i = sign_is c.0 b h g in subst (λ (z : Token). begin_by f (z, c.1) (Some b) ≡ Some s → StandsFor s (u ++ (z, c.1) ∷ [])) (sym i) (λ e. by_begin f c.1 b s u st p g e) e)
]

pub begin_sound : (f : Stack) (c : Spot) (s : State) (u : List Spot) → Stands f u → Place f → begin f c ≡ Some s → StandsFor s (u ++ c ∷ [])
begin_sound f (name us, a) s u st p e = the_state _ _ s e (placed_over f u _ _ st p refl, p)
begin_sound f (word n, a) s u st p e = found_begin f (word n, a) (look_up begins (word n)) s u refl st p e
begin_sound f (punct n, a) s u st p e = found_begin f (punct n, a) (look_up begins (punct n)) s u refl st p e
begin_sound f (num n, a) s u st p e = found_begin f (num n, a) (look_up begins (num n)) s u refl st p e
begin_sound f (text us, a) s u st p e = found_begin f (text us, a) (look_up begins (text us)) s u refl st p e

begun_sound : (n : Word) (f : Stack) (c : Spot) (u : List Spot) (s : State) → StandsFor (begun n f) u → begun_step n f c ≡ Some s → StandsFor s (u ++ c ∷ [])
begun_sound n f c u s st e = token_or colon c (start (label_of n ∷ f)) _ s u e
    (over_frame (label_of n) f _ (over_on f _ (Leads f (label_of n)) u _ st.0 (λ w i. (c.1, ap (λ z. z ++ (colon, c.1) ∷ []) i))) (let a = asked_fits f in omega arith), tt)
    (λ e g. have_sound (statement ∷ f) (tree.name n) c u s
    (let o = st.0 in (o.0, o.1, (o.0, [], o.2, refl, (let a = asked_fits f in omega arith), place_headed f [] st.1, sym (append-nil o.0)), subst BeginsPlain (sym o.4) refl, subst (λ z. Spells t.expr free 16 (tree.name n) z) (sym o.4) (s_name free 16 n (omega arith)), o.5)) e)

-- ---- a statement is whole

head_tokens : (c : Token) (a : ℕ) (x : E) (v w : List Spot) (h : HeadOf c a x v) → v ++ w ≡ (c, a) ∷ (open_paren, h.1) ∷ (h.0 ++ (close_paren, h.2) ∷ w)
head_tokens c a x v w h = ap (λ z. z ++ w) h.4 ∙ ap (λ z. (c, a) ∷ (open_paren, h.1) ∷ z) (append_assoc h.0 ((close_paren, h.2) ∷ []) w)

pub then_spelled : (f : Stack) (x : E) (s : S) (v w : List Spot) → Leads f (then_of x) v → Spells t.stmt free 0 s w → Spells t.stmt free 0 (tree.branch x s tree.no_stmt) (v ++ w)
then_spelled f x s v w i p = let h = i.1 in subst (λ z. Spells t.stmt free 0 (tree.branch x s tree.no_stmt) z) (sym (head_tokens if_word i.0 x v w h)) (s_if i.0 h.1 h.2 x s h.0 w h.3 p)

pub else_spelled : (f : Stack) (x : E) (r s : S) (v w : List Spot) → Leads f (else_of x r) v → Spells t.stmt free 0 s w → Spells t.stmt free 0 (tree.branch x r (tree.some_stmt s)) (v ++ w)
else_spelled f x r s v w i p = let h = i.4 in subst (λ z. Spells t.stmt free 0 (tree.branch x r (tree.some_stmt s)) z)
    (sym (ap (λ z. z ++ w) i.7 ∙ append_assoc i.0 (i.1 ++ (else_word, i.3) ∷ []) w ∙ ap (λ z. i.0 ++ z) (append_assoc i.1 ((else_word, i.3) ∷ []) w) ∙ head_tokens if_word i.2 x i.0 (i.1 ++ (else_word, i.3) ∷ w) h))
    (s_else i.2 h.1 h.2 i.3 x r s h.0 i.1 w h.3 i.5 i.6 p)

pub while_spelled : (f : Stack) (x : E) (s : S) (v w : List Spot) → Leads f (while_body x) v → Spells t.stmt free 0 s w → Spells t.stmt free 0 (tree.while_loop x s) (v ++ w)
while_spelled f x s v w i p = let h = i.1 in subst (λ z. Spells t.stmt free 0 (tree.while_loop x s) z) (sym (head_tokens while_word i.0 x v w h)) (s_while i.0 h.1 h.2 x s h.0 w h.3 p)

pub with_spelled : (f : Stack) (x : E) (a : ℕ) (s : S) (v w : List Spot) → Leads f (with_body x a) v → Spells t.stmt free 0 s w → Spells t.stmt free 0 (tree.with_object x s a) (v ++ w)
with_spelled f x a s v w h p = subst (λ z. Spells t.stmt free 0 (tree.with_object x s a) z) (sym (head_tokens with_word a x v w h)) (s_with a h.1 h.2 x s h.0 w h.3 p)

first_tokens : (r : Placed t.first) (v w : List Spot) (h : ForFirst r v) → v ++ w ≡ (for_word, h.1) ∷ (open_paren, h.2) ∷ (h.0 ++ (semicolon, h.3) ∷ w)
first_tokens r v w h = ap (λ z. z ++ w) h.5 ∙ ap (λ z. (for_word, h.1) ∷ (open_paren, h.2) ∷ z) (append_assoc h.0 ((semicolon, h.3) ∷ []) w)

pub for_spelled : (f : Stack) (r : Placed t.first) (m n : Placed t.maybe_expr) (s : S) (v w : List Spot) → Leads f (for_body r m n) v → Spells t.stmt free 0 s w → Spells t.stmt free 0 (tree.for_loop r m n s) (v ++ w)
for_spelled f r m n s v w i p = let j = i.3 in let h = j.3 in subst (λ z. Spells t.stmt free 0 (tree.for_loop r m n s) z)
    (sym (ap (λ z. z ++ w) i.5 ∙ append_assoc i.0 (i.1 ++ (close_paren, i.2) ∷ []) w ∙ ap (λ z. i.0 ++ z) (append_assoc i.1 ((close_paren, i.2) ∷ []) w)
    ∙ ap (λ z. z ++ (i.1 ++ (close_paren, i.2) ∷ w)) j.5 ∙ append_assoc j.0 (j.1 ++ (semicolon, j.2) ∷ []) (i.1 ++ (close_paren, i.2) ∷ w) ∙ ap (λ z. j.0 ++ z) (append_assoc j.1 ((semicolon, j.2) ∷ []) (i.1 ++ (close_paren, i.2) ∷ w))
    ∙ first_tokens r j.0 (j.1 ++ (semicolon, j.2) ∷ (i.1 ++ (close_paren, i.2) ∷ w)) h))
    (s_for h.1 h.2 h.3 j.2 i.2 r m n s h.0 j.1 i.1 w h.4 j.4 i.4 p)

pub in_spelled : (f : Stack) (r : Placed t.loop_target) (x : E) (s : S) (v w : List Spot) → Leads f (in_body r x) v → Spells t.stmt free 0 s w → Spells t.stmt free 0 (tree.for_in r x s) (v ++ w)
in_spelled f r x s v w i p = let h = i.3 in subst (λ z. Spells t.stmt free 0 (tree.for_in r x s) z)
    (sym (ap (λ z. z ++ w) i.5 ∙ append_assoc i.0 (i.1 ++ (close_paren, i.2) ∷ []) w ∙ ap (λ z. i.0 ++ z) (append_assoc i.1 ((close_paren, i.2) ∷ []) w)
    ∙ ap (λ z. z ++ (i.1 ++ (close_paren, i.2) ∷ w)) h.5 ∙ ap (λ z. (for_word, h.1) ∷ (open_paren, h.2) ∷ z) (append_assoc h.0 ((in_word, h.3) ∷ []) (i.1 ++ (close_paren, i.2) ∷ w))))
    (s_for_in h.1 h.2 h.3 i.2 r x s h.0 i.1 w h.4 i.4 p)

pub label_spelled : (f : Stack) (n : Word) (s : S) (v w : List Spot) → Leads f (label_of n) v → Spells t.stmt free 0 s w → Spells t.stmt free 0 (tree.label n s) (v ++ w)
label_spelled f n s v w i p = rw i.1 (s_label i.0 n s w p)

pub resume_sound : (f : Stack) (x : S) (c : Spot) (u : List Spot) (s : State) → Over f (Spells t.stmt free 0 x) u → (is else_word c ≡ true → is_open x ≡ false) → resume f x c ≡ Some s → StandsFor s (u ++ c ∷ [])
unfolding resume
resume_sound [] x c u s o n e = none_some s e
resume_sound (then_of y ∷ f) x c u s o n e = elim (chosen (is else_word c) (Some (start (else_of y x ∷ f))) (resume f (tree.branch y x tree.no_stmt) c) (Some s) e) [
  | inl g ↦ the_state _ _ s g.1 (
    over_frame (else_of y x) f _ (closing_to (then_of y) f (Spells t.stmt free 0 x) (Leads f (else_of y x)) u c o
        (λ v w i p. (v, w, i.0, c.1, i.1, p, n g.0, ap (λ (z : Spot). v ++ (w ++ z ∷ [])) (spot_is else_word c g.0)))) (asked_within (then_of y) f _ u o),
    tt,
  )
  | inr g ↦ resume_sound f (tree.branch y x tree.no_stmt) c u s (inward (then_of y) f _ _ u o (then_spelled f y x)) (λ h. absurd (cc (h, g.0))) g.1
]
resume_sound (else_of y r ∷ f) x c u s o n e = resume_sound f (tree.branch y r (tree.some_stmt x)) c u s (inward (else_of y r) f _ _ u o (else_spelled f y r x)) n e
resume_sound (while_body y ∷ f) x c u s o n e = resume_sound f (tree.while_loop y x) c u s (inward (while_body y) f _ _ u o (while_spelled f y x)) n e
resume_sound (do_body ∷ f) x c u s o n e = token_so while_word c (await (open_paren ∷ []) (want (do_test x ∷ f))) s u e (λ q k. (let m = one_mark open_paren q k in
    subst (λ (z : List Spot). Stands (do_test x ∷ f) ((u ++ (while_word, c.1) ∷ []) ++ z) × Unit {0}) (sym m.1) (
      over_frame (do_test x) f _ (subst (λ (z : List Spot). Over f (Leads f (do_test x)) z) (sym (append_assoc u ((while_word, c.1) ∷ []) ((open_paren, m.0) ∷ [])))
          (inward do_body f (λ z. (w : List Spot) × Spells t.stmt free 0 x w × (z ≡ w ++ (while_word, c.1) ∷ (open_paren, m.0) ∷ [])) (Leads f (do_test x)) _
          (over_on (do_body ∷ f) (Spells t.stmt free 0 x) _ u ((while_word, c.1) ∷ (open_paren, m.0) ∷ []) o (λ w p. (w, p, refl)))
          (λ v z i p. (p.0, i.0, c.1, m.0, p.1, ap (λ y. v ++ y) p.2 ∙ ap (λ y. y ++ (p.0 ++ (while_word, c.1) ∷ (open_paren, m.0) ∷ [])) i.1)))) (asked_within do_body f _ u o),
      tt,
    )))
resume_sound (for_body r m k ∷ f) x c u s o n e = resume_sound f (tree.for_loop r m k x) c u s (inward (for_body r m k) f _ _ u o (for_spelled f r m k x)) n e
resume_sound (in_body r y ∷ f) x c u s o n e = resume_sound f (tree.for_in r y x) c u s (inward (in_body r y) f _ _ u o (in_spelled f r y x)) n e
resume_sound (with_body y a ∷ f) x c u s o n e = resume_sound f (tree.with_object y x a) c u s (inward (with_body y a) f _ _ u o (with_spelled f y a x)) n e
resume_sound (label_of m ∷ f) x c u s o n e = resume_sound f (tree.label m x) c u s (inward (label_of m) f _ _ u o (label_spelled f m x)) n e
resume_sound (body b ss ∷ f) x c u s o n e = begin_sound (body b (ss ++ x ∷ []) ∷ f) c s u (longer_body f b ss x u o) tt e
resume_sound _ x c u s o n e = none_some s e

-- ---- the parts of statements

item_sound : (h : Bool) (its : List Item) (f : Stack) (c : Spot) (u : List Spot) (s : State) → StandsFor (item h its f) u → item_step h its f c ≡ Some s → StandsFor s (u ++ c ∷ [])
item_sound h its f (name us, a) u s st e = the_state _ _ s e (over_on f _ (VarItem h (placed_word us a) its) u _ st (λ w i. (w, i, refl)))
item_sound h its f _ u s st e = none_some s e

loop_var_so : (n : Word) (its : List Item) (a : ℕ) (w : List Spot) → first_item its ≡ true → VarItem true n its w → ForObject (tree.loop_var n) (w ++ (in_word, a) ∷ [])
loop_var_so n [] a w h i = let k = i.1 in let v = k.2 in (
  (var_word, v.2) ∷ named n ∷ [],
  v.0,
  v.1,
  a,
  s_loop_var v.2 n,
  ap (λ z. z ++ (in_word, a) ∷ []) (i.2 ∙ ap (λ z. z ++ named n ∷ []) (k.4 ∙ ap (λ z. k.0 ++ z) k.3 ∙ append-nil k.0 ∙ v.3)),
)
loop_var_so n (x ∷ its) a w h i = absurd cc

pub and_three : (a b c : Bool) → (a && b && c) ≡ true → (a ≡ true) × (b ≡ true) × (c ≡ true)
and_three true true c e = (refl, refl, e)
and_three true false c e = absurd cc
and_three false b c e = absurd cc

item_end_sound : (h : Bool) (n : Word) (its : List Item) (f : Stack) (c : Spot) (u : List Spot) (s : State) → StandsFor (item_end h n its f) u → item_end_step h n its f c ≡ Some s → StandsFor s (u ++ c ∷ [])
item_end_sound h n its f c u s st e = token_or equals c (want (value h n its ∷ f)) _ s u e
    (over_frame (value h n its) f _ (over_on f _ (Leads f (value h n its)) u ((equals, c.1) ∷ []) st (λ w i. (w, c.1, i, refl))) (let a = asked_fits f in omega arith), tt)
    (λ e g. elim (chosen (h && first_item its && is in_word c) (Some (want (for_object (tree.loop_var n) ∷ f))) (after_item h (its ++ (n, tree.no_expr) ∷ []) f c) (Some s) e) [
      | inl k ↦ (let b = and_three h (first_item its) (is in_word c) k.0 in the_state _ _ s k.1 (
        over_frame (for_object (tree.loop_var n)) f _ (subst (λ (z : Spot). Over f (Leads f (for_object (tree.loop_var n))) (u ++ z ∷ [])) (sym (spot_is in_word c b.2))
            (over_on f (VarItem true n its) (Leads f (for_object (tree.loop_var n))) u ((in_word, c.1) ∷ []) (subst (λ h. Over f (VarItem h n its) u) b.0 st) (λ w i. loop_var_so n its c.1 w b.1 i))) (let a = asked_fits f in omega arith),
        tt,
      ))
      | inr k ↦ after_item_sound h f c its (n, tree.no_expr) u s (over_as f _ _ u st (λ w i. let j = i.1 in (j.0, j.1 ++ named n ∷ [], j.2, items_so (barred false h) its j.1 n tree.no_expr [] j.3 (s_no_value (barred false h)), i.2 ∙ ap (λ z. z ++ named n ∷ []) j.4 ∙ append_assoc j.0 j.1 (named n ∷ [])))) k.1
    ])

for_open_sound : (f : Stack) (c : Spot) (u : List Spot) (s : State) → StandsFor (for_open f) u → for_open_step f c ≡ Some s → StandsFor s (u ++ c ∷ [])
for_open_sound f c u s st e = token_or var_word c (item true [] f) _ s u e (over_on f _ (VarItems true []) u _ st (λ w i. (w ++ (var_word, c.1) ∷ [], [], (i.0, i.1.0, c.1, ap (λ z. z ++ (var_word, c.1) ∷ []) i.1.1), refl, sym (append-nil _))))
    (λ e g. token_or semicolon c (for_second tree.no_first f) _ s u e (over_on f _ (ForFirst tree.no_first) u _ st (λ w i. ([], i.0, i.1.0, c.1, s_no_first, ap (λ z. z ++ (semicolon, c.1) ∷ []) i.1.1)))
    (λ e g. within_sound for_first f c s u (over_frame for_first f u st (let a = asked_fits f in omega arith)) tt e))

for_second_sound : (r : Placed t.first) (f : Stack) (c : Spot) (u : List Spot) (s : State) → StandsFor (for_second r f) u → for_second_step r f c ≡ Some s → StandsFor s (u ++ c ∷ [])
for_second_sound r f c u s st e = token_or semicolon c (for_third r tree.no_expr f) _ s u e (over_on f _ (ForSecond r tree.no_expr) u _ st (λ w i. (w, [], c.1, i, s_no_expr, refl)))
    (λ e g. within_sound (for_test r) f c s u (over_frame (for_test r) f u st (let a = asked_fits f in omega arith)) tt e)

for_third_sound : (r : Placed t.first) (m : Placed t.maybe_expr) (f : Stack) (c : Spot) (u : List Spot) (s : State) → StandsFor (for_third r m f) u → for_third_step r m f c ≡ Some s → StandsFor s (u ++ c ∷ [])
for_third_sound r m f c u s st e = token_or close_paren c (start (for_body r m tree.no_expr ∷ f)) _ s u e (over_frame (for_body r m tree.no_expr) f _ (over_on f _ (Leads f (for_body r m tree.no_expr)) u _ st (λ w i. (w, [], c.1, i, s_no_expr, refl))) (let a = asked_fits f in omega arith), tt)
    (λ e g. within_sound (for_step r m) f c s u (over_frame (for_step r m) f u st (let a = asked_fits f in omega arith)) tt e)

returned_sound : (a : ℕ) (f : Stack) (c : Spot) (u : List Spot) (s : State) → StandsFor (returned a f) u → returned_step a f c ≡ Some s → StandsFor s (u ++ c ∷ [])
returned_sound a f c u s st e = elim (chosen (ends_statement c) (Some (ended (tree.return tree.no_expr a) f)) (operand (giving a ∷ f) c) (Some s) e) [
  | inl g ↦ the_state _ _ s g.1 (over_on f _ _ u (c ∷ []) st (λ w i. (subst (λ z. Spells t.stmt free 0 (tree.return tree.no_expr a) (z ++ c ∷ [])) (sym i) (s_return a c tree.no_expr [] s_no_expr g.0), refl)))
  | inr g ↦ within_sound (giving a) f c s u (over_frame (giving a) f u st (let b = asked_fits f in omega arith)) tt g.1
]

jump_spelled : (b : Bool) (n : Option Word) (a : ℕ) (w : List Spot) (c : Spot) → Jumped b a w → ends_statement c ≡ true → Spells t.stmt free 0 (jump b n a) (w ++ (naming n ++ c ∷ []))
jump_spelled true n a w c j h = rw j (s_break a c n h)
jump_spelled false n a w c j h = rw j (s_continue a c n h)

jump_closed : (b : Bool) (n : Option Word) (a : ℕ) → is_open (jump b n a) ≡ false
jump_closed true n a = refl
jump_closed false n a = refl

jump_ends : (b : Bool) (a : ℕ) (f : Stack) (c : Spot) (u : List Spot) (s : State) → StandsFor (jumped b a f) u → when (ends_statement c) (ended (jump b None a) f) ≡ Some s → StandsFor s (u ++ c ∷ [])
jump_ends b a f c u s st e = when_so (ends_statement c) (ended (jump b None a) f) s _ e (λ h. over_on f _ _ u (c ∷ []) st (λ w i. (jump_spelled b None a w c i h, jump_closed b None a)))

jumped_sound : (b : Bool) (a : ℕ) (f : Stack) (c : Spot) (u : List Spot) (s : State) → StandsFor (jumped b a f) u → jumped_step b a f c ≡ Some s → StandsFor s (u ++ c ∷ [])
jumped_sound b a f (name us, d) u s st e = the_state _ _ s e (over_on f _ _ u ((name us, d) ∷ []) st
    (λ w i. (λ c h. subst (λ z. Spells t.stmt free 0 (jump b (Some (placed_word us d)) a) z) (sym (append_assoc w ((name us, d) ∷ []) (c ∷ []))) (jump_spelled b (Some (placed_word us d)) a w c i h), jump_closed b (Some (placed_word us d)) a)))
jumped_sound b a f (word n, d) u s st e = jump_ends b a f (word n, d) u s st e
jumped_sound b a f (punct n, d) u s st e = jump_ends b a f (punct n, d) u s st e
jumped_sound b a f (num n, d) u s st e = jump_ends b a f (num n, d) u s st e
jumped_sound b a f (text n, d) u s st e = jump_ends b a f (text n, d) u s st e

finally_so : (ss : List S) (h : Placed t.handler) (f : Stack) (a : ℕ) (u : List Spot) → Over f (Handled ss h) u → StandsFor (finally_begins ss h f) (u ++ (finally_word, a) ∷ [])
finally_so ss h f a u o = λ q k. (let m = one_mark open_brace q k in
    subst (λ (z : List Spot). Stands (body (a_finally ss h) [] ∷ f) ((u ++ (finally_word, a) ∷ []) ++ z) × Unit {0}) (sym m.1) (
      over_frame (body (a_finally ss h) []) f _ (subst (λ (z : List Spot). Over f (Leads f (body (a_finally ss h) [])) z) (sym (append_assoc u ((finally_word, a) ∷ []) ((open_brace, m.0) ∷ [])))
          (over_on f (Handled ss h) (Leads f (body (a_finally ss h) [])) u _ o (λ w i. (w ++ (finally_word, a) ∷ (open_brace, m.0) ∷ [], [], (w, a, m.0, i, refl), s_no_stmts 0, sym (append-nil _))))) (let b = asked_fits f in omega arith),
      tt,
    ))

tried_sound : (ss : List S) (f : Stack) (c : Spot) (u : List Spot) (s : State) → StandsFor (tried ss f) u → tried_step ss f c ≡ Some s → StandsFor s (u ++ c ∷ [])
tried_sound ss f c u s st e = token_or catch_word c (await (open_paren ∷ []) (catch_name ss f)) _ s u e (λ q k. (let m = one_mark open_paren q k in
    subst (λ (z : List Spot). StandsFor (catch_name ss f) ((u ++ (catch_word, c.1) ∷ []) ++ z)) (sym m.1)
    (subst (λ (z : List Spot). StandsFor (catch_name ss f) z) (sym (append_assoc u ((catch_word, c.1) ∷ []) ((open_paren, m.0) ∷ []))) (over_on f (Tried ss) _ u _ st (λ w i. (w, c.1, m.0, i, refl))))))
    (λ e g. token_so finally_word c (finally_begins ss tree.no_handler f) s u e (finally_so ss tree.no_handler f c.1 u st))

catch_name_sound : (ss : List S) (f : Stack) (c : Spot) (u : List Spot) (s : State) → StandsFor (catch_name ss f) u → catch_name_step ss f c ≡ Some s → StandsFor s (u ++ c ∷ [])
catch_name_sound ss f (name us, a) u s st e = the_state _ _ s e (λ q k. (let m = two_marks close_paren open_brace q k in
    subst (λ (z : List Spot). Stands (body (a_catch ss (placed_word us a)) [] ∷ f) ((u ++ (name us, a) ∷ []) ++ z) × Unit {0}) (sym m.2) (
      over_frame (body (a_catch ss (placed_word us a)) []) f _ (subst (λ (z : List Spot). Over f (Leads f (body (a_catch ss (placed_word us a)) [])) z) (sym (append_assoc u ((name us, a) ∷ []) ((close_paren, m.0) ∷ (open_brace, m.1) ∷ [])))
          (over_on f _ (Leads f (body (a_catch ss (placed_word us a)) [])) u ((name us, a) ∷ (close_paren, m.0) ∷ (open_brace, m.1) ∷ []) st
          (λ w i. (w ++ (name us, a) ∷ (close_paren, m.0) ∷ (open_brace, m.1) ∷ [], [], (i.0, i.1, i.2, m.0, m.1, i.3, ap (λ z. z ++ (name us, a) ∷ (close_paren, m.0) ∷ (open_brace, m.1) ∷ []) i.4 ∙ append_assoc i.0 ((catch_word, i.1) ∷ (open_paren, i.2) ∷ []) ((name us, a) ∷ (close_paren, m.0) ∷ (open_brace, m.1) ∷ [])), s_no_stmts 0, sym (append-nil _))))) (let b = asked_fits f in omega arith),
      tt,
    )))
catch_name_sound ss f _ u s st e = none_some s e

caught_sound : (ss : List S) (n : Word) (hs : List S) (f : Stack) (c : Spot) (u : List Spot) (s : State) → StandsFor (caught ss n hs f) u → caught_step ss n hs f c ≡ Some s → StandsFor s (u ++ c ∷ [])
caught_sound ss n hs f c u s st e = token_or finally_word c (finally_begins ss (tree.some_handler n (stmts_of hs)) f) _ s u e (finally_so ss (tree.some_handler n (stmts_of hs)) f c.1 u st)
    (λ e g. resume_sound f (caught_made ss n hs) c u s (over_as f _ _ u st (λ w i. caught_spelled ss n (stmts_of hs) w i)) (λ h. refl) e)

await_sound : (ds : List Token) (r : State) (c : Spot) (u : List Spot) (s : State) → StandsFor (await ds r) u → await_step ds r c ≡ Some s → StandsFor s (u ++ c ∷ [])
await_sound [] r c u s st e = none_some s e
await_sound (d ∷ []) r c u s st e = token_so d c r s u e (st ((d, c.1) ∷ []) refl)
await_sound (d ∷ g ∷ ds) r c u s st e = token_so d c (await (g ∷ ds) r) s u e (λ q h. subst (λ (z : List Spot). StandsFor r z) (sym (append_assoc u ((d, c.1) ∷ []) q)) (st ((d, c.1) ∷ q) (ap (λ (z : List Token). d ∷ z) h)))

pub step_sound : (s : State) (c : Spot) (r : State) (u : List Spot) → StandsFor s u → step s c ≡ Some r → StandsFor r (u ++ c ∷ [])
unfolding step
step_sound (want f) c r u st e = operand_sound f c r u st.0 (λ k. place_headed f (c ∷ k) st.1) e
step_sound (have x f) c r u st e = have_sound f x c u r st e
step_sound (past x f) c r u st e = past_sound f x c u r st.0 st.1 e
step_sound (listed o xs f) c r u st e = open_sound o xs f c u r st e
step_sound (member x f) c r u st e = member_sound x f c u r st e
step_sound (key fs f) c r u st e = key_sound fs f c u r st e
step_sound (func d a f) c r u st e = func_sound d a f c u r st e
step_sound (params h f) c r u st e = params_sound h f c u r st e
step_sound (param h ps f) c r u st e = param_sound h ps f c u r st e
step_sound (param_end h ps f) c r u st e = param_end_sound h ps f c u r st e
step_sound (start f) c r u st e = begin_sound f c r u st.0 st.1 e
step_sound (begun n f) c r u st e = begun_sound n f c u r st e
step_sound (ended s f) c r u st e = resume_sound f s c u r (over_as f _ _ u st (λ w i. i.0)) (λ h. st.4.1) e
step_sound (closing s f) c r u st e = when_so (ends_statement c) (ended s f) r _ e (λ h. over_on f _ _ u (c ∷ []) st (λ w i. (i.0 c h, i.1)))
step_sound (item h its f) c r u st e = item_sound h its f c u r st e
step_sound (item_end h n its f) c r u st e = item_end_sound h n its f c u r st e
step_sound (for_open f) c r u st e = for_open_sound f c u r st e
step_sound (for_second i f) c r u st e = for_second_sound i f c u r st e
step_sound (for_third i m f) c r u st e = for_third_sound i m f c u r st e
step_sound (returned a f) c r u st e = returned_sound a f c u r st e
step_sound (jumped b a f) c r u st e = jumped_sound b a f c u r st e
step_sound (clauses x f) c r u st e = clause_sound x [] f c u r st e
step_sound (tried ss f) c r u st e = tried_sound ss f c u r st e
step_sound (caught ss n hs f) c r u st e = caught_sound ss n hs f c u r st e
step_sound (catch_name ss f) c r u st e = catch_name_sound ss f c u r st e
step_sound (await ds s) c r u st e = await_sound ds s c u r st e
