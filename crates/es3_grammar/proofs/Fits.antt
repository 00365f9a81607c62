-- In each state that is reached the frames fit one another.
use Rattle.std.proofs.Common.{◌≡◌, ℕ, ◌≤◌, Bool, true, false, cond, not, ◌&&◌, List, [], ◌∷◌, ◌++◌, Option, Some, None, refl, subst, inl, inr, nat_le, arith}
use Rattle.std.proofs.lemmas.Bool.{leb-true}
use Rattle.es3_tree.specs.Token.{Token, name, word, punct, num, text}
use Rattle.es3_tree.specs.Tree as t
use Rattle.es3_tree.specs.Placed as tree
use Rattle.es3_tree.specs.Placed.{Placed, Word}
use Rattle.es3_grammar.specs.Spots.{Spot, is, look_up, case_word, catch_word, default_word, else_word, finally_word, in_word, var_word, close_brace, open_paren, close_paren, open_bracket, point, semicolon, comma, colon, equals}
use Rattle.es3_grammar.specs.Levels.{E, own, is_target, takes_left, Infix, joins, a_query, a_step, infix_of, Opening, a_prefix, a_prefix_step, openings}
use Rattle.es3_grammar.specs.Grammar.{S, ends_statement, key_of, has_default}
use Rattle.es3_grammar.specs.Frames.{Field, Item, Clause, stmts_of, items_of, cases_of, Opened, an_array, a_call, a_new, Head, head, Body, a_program, a_block, a_function, a_clause, a_try, a_catch, a_finally, Frame, paren, subscript, items, field, new_of, prefix_step, prefix, join, test, either, statement, value, if_test, while_test, do_test, for_first, for_test, for_step, for_object, giving, throwing, with_head, switch_head, case_test, then_of, else_of, while_body, do_body, for_body, in_body, with_body, label_of, body, Stack, State, want, have, past, listed, member, key, func, params, param, param_end, start, begun, ended, closing, item, item_end, for_open, for_second, for_third, returned, jumped, clauses, tried, caught, catch_name, await, asked, no_in_here}
use Rattle.es3_grammar.specs.Machine.{when, opened, operand, closer, closed_list, behind_comma, after_expr, none_yet, keyed, key_step, func_step, bodied, params_step, param_step, func_of, func_made, infix_own, binds, shifted, filled, after_item, closes, settle, arguments, have_step, member_step, declares, cases_closed, clause_step, body_closed, list_closed, next_clause, Begin, a_block_begins, a_list_ends, an_empty, a_break, a_next_clause, a_do, a_for, a_declaration, an_if, a_return, a_switch, a_throw, a_try_begins, a_var, a_while, a_with, begins, begin_by, begin, resume, item_step, first_item, jump, jumped_step, finally_begins, catch_name_step, caught_made, await_step, step}
use Rattle.es3_grammar.proofs.Tables.{chosen, some_is, none_some}
use Rattle.es3_grammar.proofs.SoundParts.{bound}
use Rattle.es3_grammar.proofs.Texts.{Kind, programs, phrases}

-- one of two, by a truth value
abbrev pub By : Bool → Type 0 → Type 0 → Type 0
By true a b = a
By false a b = b

abbrev pub is_mark : Token → Bool
is_mark (word n) = true
is_mark (punct n) = true
is_mark r = false

abbrev pub Awaits : List Token → Type 0
Awaits [] = ⊥
Awaits (d ∷ []) = is_mark d ≡ true
Awaits (d ∷ g ∷ ds) = (is_mark d ≡ true) × Awaits (g ∷ ds)

abbrev settled : Bool → Frame → Stack → E → Spot → Option E → Option State
settled i f k x c o = elim o [ Some y ↦ settle i k y c | None ↦ closes f x k c ]

module _ (kind : Kind) where
  -- the place within these frames is an expression's, or a statement's, with such a text at the bottom
  abbrev mutual
    pub Expects : Stack → Type 0
    Expects [] = kind ≡ phrases
    Expects (paren ∷ f) = Expects f
    Expects (subscript x ∷ f) = Expects f
    Expects (items o xs ∷ f) = Expects f
    Expects (field fs n ∷ f) = Expects f
    Expects (new_of ∷ f) = Expects f
    Expects (prefix_step up ∷ f) = (asked f ≤ 13) × Expects f
    Expects (prefix op a ∷ f) = (asked f ≤ 13) × Expects f
    Expects (join j x ∷ f) = (asked f ≤ own j) × Expects f
    Expects (test x ∷ f) = (asked f ≤ 2) × Expects f
    Expects (either x y ∷ f) = (asked f ≤ 2) × Expects f
    Expects (statement ∷ f) = Takes f
    Expects (value h n its ∷ f) = Takes f
    Expects (if_test ∷ f) = Takes f
    Expects (while_test ∷ f) = Takes f
    Expects (do_test s ∷ f) = Takes f
    Expects (for_first ∷ f) = Takes f
    Expects (for_test r ∷ f) = Takes f
    Expects (for_step r m ∷ f) = Takes f
    Expects (for_object r ∷ f) = Takes f
    Expects (giving a ∷ f) = Takes f
    Expects (throwing ∷ f) = Takes f
    Expects (with_head a ∷ f) = Takes f
    Expects (switch_head ∷ f) = Takes f
    Expects (case_test x cs ∷ f) = Takes f
    Expects _ = ⊥

    pub Takes : Stack → Type 0
    Takes (then_of x ∷ f) = Takes f
    Takes (else_of x s ∷ f) = Takes f
    Takes (while_body x ∷ f) = Takes f
    Takes (do_body ∷ f) = Takes f
    Takes (for_body r m n ∷ f) = Takes f
    Takes (in_body r x ∷ f) = Takes f
    Takes (with_body x a ∷ f) = Takes f
    Takes (label_of n ∷ f) = Takes f
    Takes (body a_program ss ∷ []) = kind ≡ programs
    Takes (body a_block ss ∷ f) = Takes f
    Takes (body (a_function h ps) ss ∷ f) = By h.declared ((declares f ≡ true) × Takes f) (Expects f)
    Takes (body (a_clause x cs m) ss ∷ f) = Takes f
    Takes (body a_try ss ∷ f) = Takes f
    Takes (body (a_catch rs n) ss ∷ f) = Takes f
    Takes (body (a_finally rs h) ss ∷ f) = Takes f
    Takes _ = ⊥

  abbrev pub FuncFits : Bool → Stack → Type 0
  FuncFits d f = By d ((declares f ≡ true) × Takes f) (Expects f)

  abbrev pub Fits : State → Type 0
  Fits (want f) = Expects f
  Fits (have x f) = Expects f
  Fits (past x f) = Expects f × (asked f ≤ 14)
  Fits (listed o xs f) = Expects f
  Fits (member x f) = Expects f
  Fits (key fs f) = Expects f
  Fits (func d a f) = FuncFits d f
  Fits (params h f) = FuncFits h.declared f
  Fits (param h ps f) = FuncFits h.declared f
  Fits (param_end h ps f) = FuncFits h.declared f
  Fits (await ds s) = Fits s × Awaits ds
  Fits (start f) = Takes f
  Fits (begun n f) = Takes f
  Fits (ended s f) = Takes f
  Fits (closing s f) = Takes f
  Fits (item h its f) = Takes f
  Fits (item_end h n its f) = Takes f
  Fits (for_open f) = Takes f
  Fits (for_second r f) = Takes f
  Fits (for_third r m f) = Takes f
  Fits (returned a f) = Takes f
  Fits (jumped b a f) = Takes f
  Fits (clauses x f) = Takes f
  Fits (tried ss f) = Takes f
  Fits (caught ss n hs f) = Takes f
  Fits (catch_name ss f) = Takes f

  the : (r s : State) → Some r ≡ Some s → Fits r → Fits s
  the r s e h = subst Fits (some_is r s e) h

  when_fits : (b : Bool) (r s : State) → when b r ≡ Some s → (b ≡ true → Fits r) → Fits s
  when_fits true r s e h = the r s e (h refl)
  when_fits false r s e h = none_some s e

  if_fits : (b : Bool) (r : State) (o : Option State) (s : State) → cond b (Some r) o ≡ Some s → Fits r → (o ≡ Some s → Fits s) → Fits s
  if_fits true r o s e h k = the r s e h
  if_fits false r o s e h k = k e

  -- ---- expressions

  opened_fits : (f : Stack) (a : ℕ) (o : Option Opening) (s : State) → Expects f → opened f a o ≡ Some s → Fits s
  opened_fits f a None s h e = none_some s e
  opened_fits f a (Some (a_prefix op)) s h e = when_fits (nat_le (asked f) 13) (want (prefix op a ∷ f)) s e (λ g. (leb-true (asked f) 13 g, h))
  opened_fits f a (Some (a_prefix_step up)) s h e = when_fits (nat_le (asked f) 13) (want (prefix_step up ∷ f)) s e (λ g. (leb-true (asked f) 13 g, h))
  opened_fits f a (Some _) s h e = the _ s e h

  pub operand_fits : (f : Stack) (c : Spot) (s : State) → Expects f → operand f c ≡ Some s → Fits s
  operand_fits f (name us, a) s h e = the _ s e h
  operand_fits f (num n, a) s h e = the _ s e h
  operand_fits f (text us, a) s h e = the _ s e h
  operand_fits f (word n, a) s h e = opened_fits f a (look_up openings (word n)) s h e
  operand_fits f (punct n, a) s h e = opened_fits f a (look_up openings (punct n)) s h e

  comma_fits : (o : Opened) (xs : List E) (f : Stack) → Expects f → Fits (behind_comma o xs f)
  comma_fits an_array xs f h = h
  comma_fits (a_call x) xs f h = h
  comma_fits (a_new x) xs f h = h

  after_expr_fits : (o : Opened) (xs : List E) (f : Stack) (c : Spot) (s : State) → Expects f → after_expr o xs f c ≡ Some s → Fits s
  after_expr_fits o xs f c s h e = if_fits (is comma c) (behind_comma o xs f) _ s e (comma_fits o xs f h) (λ e. when_fits (is (closer o) c) _ s e (λ g. h))

  keyed_fits : (fs : List Field) (f : Stack) (o : Option Word) (s : State) → Expects f → keyed fs f o ≡ Some s → Fits s
  keyed_fits fs f None s h e = none_some s e
  keyed_fits fs f (Some n) s h e = the _ s e (h, refl)

  key_fits : (fs : List Field) (f : Stack) (c : Spot) (s : State) → Expects f → key_step fs f c ≡ Some s → Fits s
  key_fits fs f c s h e = elim (chosen (is close_brace c) (when (none_yet fs) (have (tree.object tree.no_fields) f)) (keyed fs f (key_of c)) (Some s) e) [
    | inl g ↦ when_fits (none_yet fs) _ s g.1 (λ k. h)
    | inr g ↦ keyed_fits fs f (key_of c) s h g.1
  ]

  bodied_fits : (h : Head) (ps : List Word) (f : Stack) → FuncFits h.declared f → Fits (bodied h ps f)
  bodied_fits h ps f k = (k, refl)

  func_fits : (d : Bool) (a : ℕ) (f : Stack) (c : Spot) (s : State) → FuncFits d f → func_step d a f c ≡ Some s → Fits s
  func_fits d a f (name us, b) s h e = the _ s e (h, refl)
  func_fits d a f (word n, b) s h e = when_fits _ (params (head d None a) f) s e (λ g. h)
  func_fits d a f (punct n, b) s h e = when_fits _ (params (head d None a) f) s e (λ g. h)
  func_fits d a f (num n, b) s h e = when_fits _ (params (head d None a) f) s e (λ g. h)
  func_fits d a f (text n, b) s h e = when_fits _ (params (head d None a) f) s e (λ g. h)

  params_fits : (h : Head) (f : Stack) (c : Spot) (s : State) → FuncFits h.declared f → params_step h f c ≡ Some s → Fits s
  params_fits h f (name us, b) s k e = the _ s e k
  params_fits h f (word n, b) s k e = when_fits (is close_paren (word n, b)) (bodied h [] f) s e (λ g. bodied_fits h [] f k)
  params_fits h f (punct n, b) s k e = when_fits (is close_paren (punct n, b)) (bodied h [] f) s e (λ g. bodied_fits h [] f k)
  params_fits h f (num n, b) s k e = when_fits (is close_paren (num n, b)) (bodied h [] f) s e (λ g. bodied_fits h [] f k)
  params_fits h f (text n, b) s k e = when_fits (is close_paren (text n, b)) (bodied h [] f) s e (λ g. bodied_fits h [] f k)

  param_fits : (h : Head) (ps : List Word) (f : Stack) (c : Spot) (s : State) → FuncFits h.declared f → param_step h ps f c ≡ Some s → Fits s
  param_fits h ps f (name us, b) s k e = the _ s e k
  param_fits h ps f _ s k e = none_some s e

  after_item_fits : (h : Bool) (its : List Item) (f : Stack) (c : Spot) (s : State) → Takes f → after_item h its f c ≡ Some s → Fits s
  after_item_fits h its f c s k e = if_fits (is comma c) (item h its f) _ s e k (λ e. rest h e)
    where
      rest : (h : Bool) → cond h (when (is semicolon c) (for_second (tree.first_var (items_of its)) f)) (when (ends_statement c) (ended (tree.var (items_of its)) f)) ≡ Some s → Fits s
      rest true e = when_fits _ (for_second (tree.first_var (items_of its)) f) s e (λ g. k)
      rest false e = when_fits _ (ended (tree.var (items_of its)) f) s e (λ g. k)

  shifted_fits : (o : Option Infix) (x : E) (f : Stack) (s : State) → Expects f → ((i : Infix) → o ≡ Some i → asked f ≤ infix_own i) → shifted o x f ≡ Some s → Fits s
  shifted_fits None x f s h le e = none_some s e
  shifted_fits (Some (joins j)) x f s h le e = when_fits (takes_left j x) (want (join j x ∷ f)) s e (λ g. (le (joins j) refl, h))
  shifted_fits (Some a_query) x f s h le e = the _ s e (le a_query refl, h)
  shifted_fits (Some (a_step up)) x f s h le e = when_fits (is_target x) (past (tree.step up false x) f) s e (λ g. (h, le (a_step up) refl))

  pub filled_fits : (f : Frame) (fs : Stack) (x y : E) → filled f x ≡ Some y → Expects (f ∷ fs) → Expects fs
  filled_fits new_of fs x y e h = h
  filled_fits (prefix_step up) fs x y e h = h.1
  filled_fits (prefix op a) fs x y e h = h.1
  filled_fits (join j z) fs x y e h = h.1
  filled_fits (either z q) fs x y e h = h.1
  filled_fits _ fs x y e h = none_some y e

  closes_fits : (f : Frame) (fs : Stack) (x : E) (c : Spot) (s : State) → Expects (f ∷ fs) → closes f x fs c ≡ Some s → Fits s
  closes_fits paren fs x c s h e = when_fits _ _ s e (λ g. h)
  closes_fits (subscript y) fs x c s h e = when_fits _ _ s e (λ g. h)
  closes_fits (items o xs) fs x c s h e = after_expr_fits o (xs ++ x ∷ []) fs c s h e
  closes_fits (field gs n) fs x c s h e = if_fits (is comma c) (key (gs ++ (n, x) ∷ []) fs) _ s e h (λ e. when_fits _ _ s e (λ g. h))
  closes_fits (test y) fs x c s h e = when_fits _ (want (either y x ∷ fs)) s e (λ g. h)
  closes_fits statement fs x c s h e = when_fits _ _ s e (λ g. h)
  closes_fits (value k n its) fs x c s h e = after_item_fits k (its ++ (n, tree.some_expr x) ∷ []) fs c s h e
  closes_fits if_test fs x c s h e = when_fits _ _ s e (λ g. h)
  closes_fits while_test fs x c s h e = when_fits _ _ s e (λ g. h)
  closes_fits (do_test r) fs x c s h e = when_fits _ _ s e (λ g. h)
  closes_fits for_first fs x c s h e = elim (chosen (is in_word c) (when (is_target x) (want (for_object (tree.loop_expr x) ∷ fs))) (when (is semicolon c) (for_second (tree.first_expr x) fs)) (Some s) e) [
    | inl g ↦ when_fits (is_target x) (want (for_object (tree.loop_expr x) ∷ fs)) s g.1 (λ k. h)
    | inr g ↦ when_fits _ (for_second (tree.first_expr x) fs) s g.1 (λ k. h)
  ]
  closes_fits (for_test r) fs x c s h e = when_fits _ _ s e (λ g. h)
  closes_fits (for_step r m) fs x c s h e = when_fits _ _ s e (λ g. h)
  closes_fits (for_object r) fs x c s h e = when_fits _ _ s e (λ g. h)
  closes_fits (giving a) fs x c s h e = when_fits _ _ s e (λ g. h)
  closes_fits throwing fs x c s h e = when_fits _ _ s e (λ g. h)
  closes_fits (with_head a) fs x c s h e = when_fits _ _ s e (λ g. h)
  closes_fits switch_head fs x c s h e = when_fits _ _ s e (λ g. (h, refl))
  closes_fits (case_test y cs) fs x c s h e = when_fits _ _ s e (λ g. h)
  closes_fits _ fs x c s h e = none_some s e

  settle_fits : (f : Stack) (i : Bool) (x : E) (c : Spot) (s : State) → Expects f → settle i f x c ≡ Some s → Fits s
  unfolding settle
  settle_fits [] i x c s h e = shifted_fits (infix_of i c.0) x [] s h (λ j g. omega arith) e
  settle_fits (f ∷ fs) i x c s h e = elim (chosen (binds (infix_of i c.0) f) _ _ (Some s) e) [
    | inl p ↦ shifted_fits (infix_of i c.0) x (f ∷ fs) s h (bound (infix_of i c.0) f p.0) p.1
    | inr p ↦ go (λ y k j. settle_fits fs i y c s k j) (filled f x) refl p.1
  ]
    where
      go : ((y : E) → Expects fs → settle i fs y c ≡ Some s → Fits s) → (o : Option E) → filled f x ≡ o → settled i f fs x c o ≡ Some s → Fits s
      go rec None fi e = closes_fits f fs x c s h e
      go rec (Some y) fi e = rec y (filled_fits f fs x y fi h) e

  arguments_fits : (f : Stack) (x : E) → Expects f → Fits (arguments x f)
  arguments_fits [] x h = h
  arguments_fits (new_of ∷ f) x h = h
  arguments_fits (_ ∷ f) x h = h

  pub have_fits : (f : Stack) (x : E) (c : Spot) (s : State) → Expects f → have_step x f c ≡ Some s → Fits s
  have_fits f x c s h e = if_fits (is point c) (member x f) _ s e h (λ e. if_fits (is open_bracket c) (want (subscript x ∷ f)) _ s e h (λ e. if_fits (is open_paren c) (arguments x f) _ s e (arguments_fits f x h) (λ e. settle_fits f (no_in_here f) x c s h e)))

  member_fits : (x : E) (f : Stack) (c : Spot) (s : State) → Expects f → member_step x f c ≡ Some s → Fits s
  member_fits x f (name us, a) s h e = the _ s e h
  member_fits x f _ s h e = none_some s e

  -- ---- statements

  clause_fits : (x : E) (cs : List Clause) (f : Stack) (c : Spot) (s : State) → Takes f → clause_step x cs f c ≡ Some s → Fits s
  clause_fits x cs f c s h e = if_fits (is case_word c) (want (case_test x cs ∷ f)) _ s e h
      (λ e. elim (chosen (is default_word c) (when (not (has_default (cases_of cs))) (await (colon ∷ []) (start (body (a_clause x cs tree.no_expr) [] ∷ f)))) (when (is close_brace c) (cases_closed x cs f)) (Some s) e) [
        | inl g ↦ when_fits _ (await (colon ∷ []) (start (body (a_clause x cs tree.no_expr) [] ∷ f))) s g.1 (λ k. (h, refl))
        | inr g ↦ when_fits _ (cases_closed x cs f) s g.1 (λ k. h)
      ])

  program_more : (f : Stack) (ss rs : List S) → Takes (body a_program ss ∷ f) → Takes (body a_program rs ∷ f)
  program_more [] ss rs h = h
  program_more (g ∷ f) ss rs h = absurd h

  pub body_more : (o : Body) (f : Stack) (ss rs : List S) → Takes (body o ss ∷ f) → Takes (body o rs ∷ f)
  body_more a_program f ss rs h = program_more f ss rs h
  body_more a_block f ss rs h = h
  body_more (a_function k ps) f ss rs h = h
  body_more (a_clause x cs m) f ss rs h = h
  body_more a_try f ss rs h = h
  body_more (a_catch qs n) f ss rs h = h
  body_more (a_finally qs k) f ss rs h = h

  made_fits : (d : Bool) (x : Placed t.func) (f : Stack) → FuncFits d f → Fits (func_made d x f)
  made_fits false x f h = h
  made_fits true x (body b ss ∷ f) h = body_more b f ss (ss ++ tree.declare x ∷ []) h.1
  made_fits true x [] h = absurd (let e = h.0 in cc)
  made_fits true x (_ ∷ f) h = absurd (let e = h.0 in cc)

  body_fits : (o : Body) (ss : List S) (f : Stack) (s : State) → Takes (body o ss ∷ f) → body_closed o ss f ≡ Some s → Fits s
  body_fits a_program ss f s h e = none_some s e
  body_fits a_block ss f s h e = the _ s e h
  body_fits (a_function k ps) ss f s h e = the _ s e (made_fits k.declared (func_of k ps ss) f h)
  body_fits (a_clause x cs m) ss f s h e = the _ s e h
  body_fits a_try ss f s h e = the _ s e h
  body_fits (a_catch qs n) ss f s h e = the _ s e h
  body_fits (a_finally qs k) ss f s h e = the _ s e h

  list_fits : (f : Stack) (s : State) → Takes f → list_closed f ≡ Some s → Fits s
  list_fits (body o ss ∷ f) s h e = body_fits o ss f s h e
  list_fits [] s h e = none_some s e
  list_fits _ s h e = none_some s e

  next_fits : (f : Stack) (c : Spot) (s : State) → Takes f → next_clause f c ≡ Some s → Fits s
  next_fits (body (a_clause x cs m) ss ∷ f) c s h e = clause_fits x (cs ++ (m, ss) ∷ []) f c s h e
  next_fits [] c s h e = none_some s e
  next_fits _ c s h e = none_some s e

  begin_by_fits : (f : Stack) (c : Spot) (o : Option Begin) (s : State) → Takes f → begin_by f c o ≡ Some s → Fits s
  begin_by_fits f c None s h e = operand_fits (statement ∷ f) c s h e
  begin_by_fits f c (Some a_block_begins) s h e = the _ s e h
  begin_by_fits f c (Some a_list_ends) s h e = list_fits f s h e
  begin_by_fits f c (Some an_empty) s h e = the _ s e h
  begin_by_fits f c (Some (a_break b)) s h e = the _ s e h
  begin_by_fits f c (Some a_next_clause) s h e = next_fits f c s h e
  begin_by_fits f c (Some a_do) s h e = the _ s e h
  begin_by_fits f c (Some a_for) s h e = the _ s e (h, refl)
  begin_by_fits f c (Some a_declaration) s h e = when_fits (declares f) (func true c.1 f) s e (λ g. (g, h))
  begin_by_fits f c (Some an_if) s h e = the _ s e (h, refl)
  begin_by_fits f c (Some a_return) s h e = the _ s e h
  begin_by_fits f c (Some a_switch) s h e = the _ s e (h, refl)
  begin_by_fits f c (Some a_throw) s h e = the _ s e h
  begin_by_fits f c (Some a_try_begins) s h e = the _ s e (h, refl)
  begin_by_fits f c (Some a_var) s h e = the _ s e h
  begin_by_fits f c (Some a_while) s h e = the _ s e (h, refl)
  begin_by_fits f c (Some a_with) s h e = the _ s e (h, refl)

  begin_fits : (f : Stack) (c : Spot) (s : State) → Takes f → begin f c ≡ Some s → Fits s
  begin_fits f (name us, a) s h e = the _ s e h
  begin_fits f (word n, a) s h e = begin_by_fits f (word n, a) (look_up begins (word n)) s h e
  begin_fits f (punct n, a) s h e = begin_by_fits f (punct n, a) (look_up begins (punct n)) s h e
  begin_fits f (num n, a) s h e = begin_by_fits f (num n, a) (look_up begins (num n)) s h e
  begin_fits f (text n, a) s h e = begin_by_fits f (text n, a) (look_up begins (text n)) s h e

  resume_fits : (f : Stack) (x : S) (c : Spot) (s : State) → Takes f → resume f x c ≡ Some s → Fits s
  unfolding resume
  resume_fits [] x c s h e = none_some s e
  resume_fits (then_of y ∷ f) x c s h e = if_fits (is else_word c) (start (else_of y x ∷ f)) _ s e h (λ e. resume_fits f _ c s h e)
  resume_fits (else_of y r ∷ f) x c s h e = resume_fits f _ c s h e
  resume_fits (while_body y ∷ f) x c s h e = resume_fits f _ c s h e
  resume_fits (do_body ∷ f) x c s h e = when_fits _ (await (open_paren ∷ []) (want (do_test x ∷ f))) s e (λ g. (h, refl))
  resume_fits (for_body r m n ∷ f) x c s h e = resume_fits f _ c s h e
  resume_fits (in_body r y ∷ f) x c s h e = resume_fits f _ c s h e
  resume_fits (with_body y a ∷ f) x c s h e = resume_fits f _ c s h e
  resume_fits (label_of n ∷ f) x c s h e = resume_fits f _ c s h e
  resume_fits (body b ss ∷ f) x c s h e = begin_fits (body b (ss ++ x ∷ []) ∷ f) c s (body_more b f ss (ss ++ x ∷ []) h) e
  resume_fits _ x c s h e = none_some s e

  item_fits : (h : Bool) (its : List Item) (f : Stack) (c : Spot) (s : State) → Takes f → item_step h its f c ≡ Some s → Fits s
  item_fits h its f (name us, a) s k e = the _ s e k
  item_fits h its f _ s k e = none_some s e

  jumped_fits : (b : Bool) (a : ℕ) (f : Stack) (c : Spot) (s : State) → Takes f → jumped_step b a f c ≡ Some s → Fits s
  jumped_fits b a f (name us, d) s h e = the _ s e h
  jumped_fits b a f (word n, d) s h e = when_fits (ends_statement (word n, d)) (ended (jump b None a) f) s e (λ g. h)
  jumped_fits b a f (punct n, d) s h e = when_fits (ends_statement (punct n, d)) (ended (jump b None a) f) s e (λ g. h)
  jumped_fits b a f (num n, d) s h e = when_fits (ends_statement (num n, d)) (ended (jump b None a) f) s e (λ g. h)
  jumped_fits b a f (text n, d) s h e = when_fits (ends_statement (text n, d)) (ended (jump b None a) f) s e (λ g. h)

  catch_name_fits : (ss : List S) (f : Stack) (c : Spot) (s : State) → Takes f → catch_name_step ss f c ≡ Some s → Fits s
  catch_name_fits ss f (name us, a) s h e = the _ s e (h, (refl, refl))
  catch_name_fits ss f _ s h e = none_some s e

  await_fits : (ds : List Token) (r : State) (c : Spot) (s : State) → Fits r → Awaits ds → await_step ds r c ≡ Some s → Fits s
  await_fits [] r c s h a e = none_some s e
  await_fits (d ∷ []) r c s h a e = when_fits (is d c) r s e (λ g. h)
  await_fits (d ∷ g ∷ ds) r c s h a e = when_fits (is d c) (await (g ∷ ds) r) s e (λ k. (h, a.1))

  pub step_fits : (s : State) (c : Spot) (r : State) → Fits s → step s c ≡ Some r → Fits r
  unfolding step
  step_fits (want f) c r h e = operand_fits f c r h e
  step_fits (have x f) c r h e = have_fits f x c r h e
  step_fits (past x f) c r h e = settle_fits f (no_in_here f) x c r h.0 e
  step_fits (listed o xs f) c r h e = if_fits (is (closer o) c) (have (closed_list o xs) f) _ r e h (λ e. operand_fits (items o xs ∷ f) c r h e)
  step_fits (member x f) c r h e = member_fits x f c r h e
  step_fits (key fs f) c r h e = key_fits fs f c r h e
  step_fits (func d a f) c r h e = func_fits d a f c r h e
  step_fits (params k f) c r h e = params_fits k f c r h e
  step_fits (param k ps f) c r h e = param_fits k ps f c r h e
  step_fits (param_end k ps f) c r h e = if_fits (is comma c) (param k ps f) _ r e h (λ e. when_fits _ (bodied k ps f) r e (λ g. bodied_fits k ps f h))
  step_fits (start f) c r h e = begin_fits f c r h e
  step_fits (begun n f) c r h e = if_fits (is colon c) (start (label_of n ∷ f)) _ r e h (λ e. have_fits (statement ∷ f) (tree.name n) c r h e)
  step_fits (ended s f) c r h e = resume_fits f s c r h e
  step_fits (closing s f) c r h e = when_fits _ (ended s f) r e (λ g. h)
  step_fits (item k its f) c r h e = item_fits k its f c r h e
  step_fits (item_end k n its f) c r h e = if_fits (is equals c) (want (value k n its ∷ f)) _ r e h
      (λ e. if_fits (k && first_item its && is in_word c) (want (for_object (tree.loop_var n) ∷ f)) _ r e h (λ e. after_item_fits k (its ++ (n, tree.no_expr) ∷ []) f c r h e))
  step_fits (for_open f) c r h e = if_fits (is var_word c) (item true [] f) _ r e h (λ e. if_fits (is semicolon c) (for_second tree.no_first f) _ r e h (λ e. operand_fits (for_first ∷ f) c r h e))
  step_fits (for_second i f) c r h e = if_fits (is semicolon c) (for_third i tree.no_expr f) _ r e h (λ e. operand_fits (for_test i ∷ f) c r h e)
  step_fits (for_third i m f) c r h e = if_fits (is close_paren c) (start (for_body i m tree.no_expr ∷ f)) _ r e h (λ e. operand_fits (for_step i m ∷ f) c r h e)
  step_fits (returned a f) c r h e = if_fits (ends_statement c) (ended (tree.return tree.no_expr a) f) _ r e h (λ e. operand_fits (giving a ∷ f) c r h e)
  step_fits (jumped b a f) c r h e = jumped_fits b a f c r h e
  step_fits (clauses x f) c r h e = clause_fits x [] f c r h e
  step_fits (tried ss f) c r h e = if_fits (is catch_word c) (await (open_paren ∷ []) (catch_name ss f)) _ r e (h, refl) (λ e. when_fits _ (finally_begins ss tree.no_handler f) r e (λ g. (h, refl)))
  step_fits (caught ss n hs f) c r h e = if_fits (is finally_word c) (finally_begins ss (tree.some_handler n (stmts_of hs)) f) _ r e (h, refl) (λ e. resume_fits f (caught_made ss n hs) c r h e)
  step_fits (catch_name ss f) c r h e = catch_name_fits ss f c r h e
  step_fits (await ds s) c r h e = await_fits ds s c r h.0 h.1 e
