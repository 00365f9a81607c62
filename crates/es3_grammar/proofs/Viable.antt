-- From each state whose frames fit one another the text can be ended.
use Rattle.es3_grammar.proofs.Heights.{more_at, more_behind, joined_deep, exprs_deep, fields_deep, stmts_deep, items_deep, cases_deep, cond_more}
use Rattle.es3_grammar.specs.Plain.{deep}
use Rattle.es3_grammar.specs.Ends.{spot, a_name, close_step, close_value, stepped, close_new, close, close_statement, close_func, close_start, tail, stepping, height_at, height_behind, height_func, height_start, height_items, height}
use Rattle.es3_grammar.proofs.SoundParts.{not_target, right_fits}
use Rattle.std.proofs.lemmas.Bool.Decides.{eqb_tells}
use Rattle.std.proofs.Common.{◌≡◌, ℕ, ◌≤◌, Bool, true, false, cond, List, [], ◌∷◌, ◌++◌, Some, None, refl, sym, subst, ◌∙◌, arith, nat_eq, map, inl, inr, max, ◌+◌}
use Rattle.es3_tree.specs.Token.{Token, word, punct}
use Rattle.es3_tree.specs.Tree as t
use Rattle.es3_tree.specs.Placed as tree
use Rattle.es3_tree.specs.Placed.{Placed, Word}
use Rattle.es3_grammar.specs.Spots.{Spot, same_token, look_up}
use Rattle.es3_grammar.specs.Levels.{E, Join, an_op, an_and, an_or, an_assign, a_comma, own, right, joined, is_target}
use Rattle.es3_grammar.specs.Grammar.{S, Bars, free, placed_word}
use Rattle.es3_grammar.specs.Frames.{Item, exprs_of, fields_of, stmts_of, items_of, cases_of, Opened, an_array, a_call, a_new, Head, head, a_program, a_block, a_function, a_clause, a_try, a_catch, a_finally, Frame, paren, subscript, items, field, new_of, prefix_step, prefix, join, test, either, statement, value, if_test, while_test, do_test, for_first, for_test, for_step, for_object, giving, throwing, with_head, switch_head, case_test, then_of, else_of, while_body, do_body, for_body, in_body, with_body, label_of, body, Stack, State, want, have, past, listed, member, key, func, params, param, param_end, start, begun, ended, closing, item, item_end, for_open, for_second, for_third, returned, jumped, clauses, tried, caught, catch_name, await, asks, asked, no_in_here, Body}
use Rattle.es3_grammar.specs.Machine.{closer, func_of, func_made, filled, settle, declares, resume, step, Answer, whole, all_of, finished, run, caught_made, first_item}
use Rattle.es3_grammar.proofs.Follow.{level_fits, Ends, own_in_left, Leaves, NoTrailer, reduces, leaves, leaves_high, no_trailer_ends, past_have, NoElse, takes_statement, ends_then, ends_else, ends_while, ends_for, ends_in, ends_with, ends_label, ends_catch, barred, bars_in_barred, follows_any}
use Rattle.es3_grammar.proofs.Texts.{Kind, programs, phrases, sort, said}
use Rattle.es3_grammar.proofs.Fits.{Expects, Takes, FuncFits, Fits, Awaits, is_mark}

closer_ends : (b : Bars) (o : Opened) (k : List Spot) → Ends b 0 (spot (closer o) ∷ k)
unfolding look_up
closer_ends b an_array k = omega arith
closer_ends b (a_call x) k = omega arith
closer_ends b (a_new x) k = omega arith

own_low : (j : Join) → own j ≤ 12
own_low (an_op op) = omega (arith, level_fits op)
own_low an_and = omega arith
own_low an_or = omega arith
own_low (an_assign op) = omega arith
own_low a_comma = omega arith

right_high : (j : Join) → 1 ≤ right j
right_high (an_op op) = omega (arith, level_fits op)
right_high an_and = omega arith
right_high an_or = omega arith
right_high (an_assign op) = omega arith
right_high a_comma = omega arith

value_ends : (b : Bars) (h : Bool) (k : List Spot) → Ends b 0 (close_value h k)
unfolding look_up
value_ends b true k = omega arith
value_ends b false k = omega arith

-- a whole text, no deeper than this
pub record Whole (kind : Kind) (h : ℕ) (a : Answer) : Type 0 where
  pub made : Placed (sort kind)
  pub reads : a ≡ said kind made
  pub fits : deep (sort kind) made ≤ h

phrase_whole : (kind : Kind) → kind ≡ phrases → (x : E) → Whole kind (deep t.expr x) (finished [] x)
unfolding finished
phrase_whole phrases e x = record { made = x; reads = refl; fits = omega arith }
phrase_whole programs e x = absurd cc

program_whole : (kind : Kind) → kind ≡ programs → (p : Placed t.program) (h : ℕ) → deep t.program p ≤ h → Whole kind h (whole p)
program_whole programs e p h le = record { made = p; reads = refl; fits = le }
program_whole phrases e p h le = absurd cc

nat_same : (n : ℕ) → nat_eq n n ≡ true
nat_same n = elim (eqb_tells n n) [ inl p ↦ p.0 | inr p ↦ absurd (p.1 refl) ]

itself : (d : Token) → is_mark d ≡ true → same_token d d ≡ true
itself (word n) h = nat_same n
itself (punct n) h = nat_same n
itself _ h = absurd cc

awaits : (ds : List Token) (s : State) (z : List Spot) → Awaits ds → run (map spot ds ++ z) (await ds s) ≡ run z s
unfolding run step
awaits [] s z a = absurd a
awaits (d ∷ []) s z a = rw (itself d a) refl
awaits (d ∷ g ∷ ds) s z a = rw (itself d a.0) (awaits (g ∷ ds) s z a.1)

module _ (kind : Kind) where
  close_ends : (b : Bars) (x : Bool) (f : Stack) → asked f ≤ 14 → Expects kind f → Ends b 0 (close x f)
  unfolding look_up
  close_ends b x [] a h = tt
  close_ends b x (new_of ∷ f) a h = absurd (omega arith)
  close_ends b x (prefix_step up ∷ f) a h = absurd (omega arith)
  close_ends b x (prefix op c ∷ f) a h = close_ends b false f (omega (arith, h.0)) h.1
  close_ends b x (join j y ∷ f) a h = close_ends b false f (omega (arith, h.0, own_low j)) h.1
  close_ends b x (either y z ∷ f) a h = close_ends b false f (omega (arith, h.0)) h.1
  close_ends b x (items o xs ∷ f) a h = closer_ends b o (close false f)
  close_ends b x (value g n its ∷ f) a h = value_ends b g (close_statement f)
  close_ends b x (paren ∷ f) a h = omega arith
  close_ends b x (subscript y ∷ f) a h = omega arith
  close_ends b x (field fs n ∷ f) a h = omega arith
  close_ends b x (test y ∷ f) a h = omega arith
  close_ends b x (statement ∷ f) a h = omega arith
  close_ends b x (if_test ∷ f) a h = omega arith
  close_ends b x (while_test ∷ f) a h = omega arith
  close_ends b x (do_test s ∷ f) a h = omega arith
  close_ends b x (for_first ∷ f) a h = omega arith
  close_ends b x (for_test r ∷ f) a h = omega arith
  close_ends b x (for_step r m ∷ f) a h = omega arith
  close_ends b x (for_object r ∷ f) a h = omega arith
  close_ends b x (giving c ∷ f) a h = omega arith
  close_ends b x (throwing ∷ f) a h = omega arith
  close_ends b x (with_head c ∷ f) a h = omega arith
  close_ends b x (switch_head ∷ f) a h = omega arith
  close_ends b x (case_test y cs ∷ f) a h = omega arith
  close_ends b x (_ ∷ f) a h = absurd h

  pub no_else_close : (f : Stack) → Takes kind f → NoElse (close_statement f)
  no_else_close [] h = absurd h
  no_else_close (then_of x ∷ f) h = no_else_close f h
  no_else_close (else_of x s ∷ f) h = no_else_close f h
  no_else_close (while_body x ∷ f) h = no_else_close f h
  no_else_close (do_body ∷ f) h = (refl, refl)
  no_else_close (for_body r m n ∷ f) h = no_else_close f h
  no_else_close (in_body r x ∷ f) h = no_else_close f h
  no_else_close (with_body x a ∷ f) h = no_else_close f h
  no_else_close (label_of n ∷ f) h = no_else_close f h
  no_else_close (body a_program ss ∷ f) h = tt
  no_else_close (body (a_function k ps) ss ∷ f) h = (refl, refl)
  no_else_close (body _ ss ∷ f) h = (refl, refl)
  no_else_close (_ ∷ f) h = absurd h

  pub by : (h : ℕ) (a b : Answer) → a ≡ b → Whole kind h b → Whole kind h a
  by h a b e w = record { made = w.made; reads = e ∙ w.reads; fits = w.fits }

  lift : (h k : ℕ) (a : Answer) → h ≤ k → Whole kind h a → Whole kind k a
  lift h k a le w = record { made = w.made; reads = w.reads; fits = (let f = w.fits in omega arith) }

  -- what closes an expression does not belong within the frame
  leaves_low : (i : Bool) (g : Frame) (f : Stack) → 1 ≤ asks g → asked f ≤ 14 → Expects kind f → Leaves i g (close false f)
  leaves_low i g f h a e = subst (λ (z : Bool). Leaves z g (close false f)) (bars_in_barred i) (leaves (barred false i) 0 g (close false f) (omega arith) (λ j z. omega (arith, own_in_left j)) (close_ends (barred false i) false f a e))

  no_trailer_close : (x : Bool) (f : Stack) → asked f ≤ 14 → Expects kind f → NoTrailer (close x f)
  no_trailer_close x f a h = no_trailer_ends free 0 (close x f) (omega arith) (close_ends free x f a h)

  -- nothing but a member may follow what stands behind `new` where only that makes a target
  no_trailer_new : (f : Stack) → stepped f ≡ false → Expects kind f → NoTrailer (close false f)
  no_trailer_new [] n h = tt
  no_trailer_new (new_of ∷ f) n h = subst (λ (b : Bool). NoTrailer (close_new b (close false f))) (sym n) (no_trailer_new f n h)
  no_trailer_new (prefix_step up ∷ f) n h = absurd cc
  no_trailer_new (prefix op a ∷ f) n h = no_trailer_close false (prefix op a ∷ f) (omega arith) h
  no_trailer_new (join j x ∷ f) n h = no_trailer_close false (join j x ∷ f) (omega (arith, right_fits j)) h
  no_trailer_new (g ∷ f) n h = no_trailer_close false (g ∷ f) (omega arith) h

  -- a frame that is filled, and then the end
  fill : (g : Frame) (x y : E) (f : Stack) → is_target y ≡ false → filled g x ≡ Some y → no_in_here (g ∷ f) ≡ no_in_here f → Leaves (no_in_here f) g (close false f) → Whole kind (height_at (is_target y) f (deep t.expr y)) (run (close (is_target y) f) (have y f))
      → Whole kind (height_at false f (deep t.expr y)) (run (close false f) (have x (g ∷ f)))
  fill g x y f ty fi ni lv h = by _ _ _ (reduces g x y f (close false f) ni fi lv) (subst (λ (z : Bool). Whole kind (height_at z f (deep t.expr y)) (run (close z f) (have y f))) ty h)

  new_close : (x : E) (f : Stack) (b : Bool) → stepped f ≡ b → Expects kind f → Whole kind (height_at false f (deep t.expr (tree.new x tree.no_exprs))) (run (close false f) (have (tree.new x tree.no_exprs) f)) → Whole kind (height_at false f (1 + deep t.expr x)) (run (close_new b (close false f)) (have x (new_of ∷ f)))
  unfolding run step
  new_close x f true e h w = lift _ _ _ (more_at f false _ _ (omega arith)) w
  new_close x f false e h w = lift _ _ _ (more_at f false _ _ (omega arith)) (fill new_of x (tree.new x tree.no_exprs) f refl refl refl (leaves_high (no_in_here f) new_of (close false f) (omega arith) (no_trailer_new f e h)) w)

  step_close : (up : Bool) (x : E) (f : Stack) (b : Bool) → is_target x ≡ b → asked f ≤ 13 → Expects kind f → ((y : E) → Whole kind (height_at (is_target y) f (deep t.expr y)) (run (close (is_target y) f) (have y f))) → Whole kind (height_at false f (1 + stepping b (deep t.expr x))) (run (close_step b (close false f)) (have x (prefix_step up ∷ f)))
  unfolding run step settle
  step_close up x f true e a h k = fill (prefix_step up) x (tree.step up true x) f refl (rw e refl) refl (leaves_high (no_in_here f) (prefix_step up) (close false f) (omega arith) (no_trailer_close false f (omega arith) h)) (k (tree.step up true x))
  step_close up x f false e a h k = fill (prefix_step up) (tree.dot x (placed_word a_name 0)) (tree.step up true (tree.dot x (placed_word a_name 0))) f refl refl refl (leaves_high (no_in_here f) (prefix_step up) (close false f) (omega arith) (no_trailer_close false f (omega arith) h)) (k (tree.step up true (tree.dot x (placed_word a_name 0))))

  made_end : (h : ℕ) (x : Placed t.func) (f : Stack) → declares f ≡ true → Whole kind h (run (close_statement f) (ended (tree.declare x) f)) → Whole kind h (run (close_statement f) (func_made true x f))
  made_end h x (body b ss ∷ f) d w = by _ _ _ (sym (takes_statement b ss (tree.declare x) f (close_statement (body b ss ∷ f)))) w
  made_end h x [] d w = absurd cc
  made_end h x (_ ∷ f) d w = absurd cc

  made_whole : (d : Bool) (x : Placed t.func) (f : Stack) → FuncFits kind d f → (Takes kind f → Whole kind (height_behind f (1 + deep t.func x)) (run (close_statement f) (ended (tree.declare x) f))) → (Expects kind f → Whole kind (height_at false f (1 + deep t.func x)) (run (close false f) (have (tree.function x) f)))
      → Whole kind (cond d (height_behind f (1 + deep t.func x)) (height_at false f (1 + deep t.func x))) (run (cond d (close_statement f) (close false f)) (func_made d x f))
  made_whole true x f h g k = made_end _ x f h.0 (g h.1)
  made_whole false x f h g k = k h

  function_end : (k : Head) (ps : List Word) (ss : List S) (f : Stack) (s : S)
      → Whole kind (cond k.declared (height_behind f (1 + deep t.func (func_of k ps (ss ++ s ∷ [])))) (height_at false f (1 + deep t.func (func_of k ps (ss ++ s ∷ []))))) (run (cond k.declared (close_statement f) (close false f)) (func_made k.declared (func_of k ps (ss ++ s ∷ [])) f))
      → Whole kind (cond k.declared (height_behind f (2 + max (deep t.stmts (stmts_of ss)) (deep t.stmt s))) (height_at false f (2 + max (deep t.stmts (stmts_of ss)) (deep t.stmt s)))) (run (cond k.declared (close_statement f) (close false f)) (func_made k.declared (func_of k ps (ss ++ s ∷ [])) f))
  function_end k ps ss f s w = lift _ _ _ (cond_more k.declared _ _ _ _ (more_behind f _ _ (omega (arith, stmts_deep ss s))) (more_at f false _ _ (omega (arith, stmts_deep ss s)))) w

  mutual
    unfolding run step settle resume all_of look_up

    pub can_close : (f : Stack) (x : E) → Expects kind f → Whole kind (height_at (is_target x) f (deep t.expr x)) (run (close (is_target x) f) (have x f))
    can_close [] x h = phrase_whole kind h x
    can_close (paren ∷ f) x h = can_close f x h
    can_close (subscript y ∷ f) x h = lift _ _ _ (more_at f true _ _ (omega arith)) (can_close f (tree.index y x) h)
    can_close (items an_array xs ∷ f) x h = lift _ _ _ (more_at f false _ _ (omega (arith, exprs_deep xs x))) (can_close f (tree.array (exprs_of (xs ++ x ∷ []))) h)
    can_close (items (a_call y) xs ∷ f) x h = lift _ _ _ (more_at f false _ _ (omega (arith, exprs_deep xs x))) (can_close f (tree.call y (exprs_of (xs ++ x ∷ []))) h)
    can_close (items (a_new y) xs ∷ f) x h = lift _ _ _ (more_at f false _ _ (omega (arith, exprs_deep xs x))) (can_close f (tree.new y (exprs_of (xs ++ x ∷ []))) h)
    can_close (field fs n ∷ f) x h = lift _ _ _ (more_at f false _ _ (omega (arith, fields_deep fs n x))) (can_close f (tree.object (fields_of (fs ++ (n, x) ∷ []))) h)
    can_close (new_of ∷ f) x h = new_close x f (stepped f) refl h (can_close f (tree.new x tree.no_exprs) h)
    can_close (prefix_step up ∷ f) x h = step_close up x f (is_target x) refl h.0 h.1 (λ y. can_close f y h.1)
    can_close (prefix op a ∷ f) x h = lift _ _ _ (more_at f false _ _ (omega arith)) (fill (prefix op a) x (tree.unary op x a) f refl refl refl (leaves_low (no_in_here f) (prefix op a) f (omega arith) (omega (arith, h.0)) h.1) (can_close f (tree.unary op x a) h.1))
    can_close (join j y ∷ f) x h = lift _ _ _ (more_at f false _ _ (omega (arith, joined_deep j y x))) (fill (join j y) x (joined j y x) f (not_target j y x) refl refl (leaves_low (no_in_here f) (join j y) f (right_high j) (omega (arith, h.0, own_low j)) h.1) (can_close f (joined j y x) h.1))
    can_close (test y ∷ f) x h = lift _ _ _ (more_at f false _ _ (omega arith)) (fill (either y x) (tree.name (placed_word a_name 0)) (tree.choice y x (tree.name (placed_word a_name 0))) f refl refl refl (leaves_low (no_in_here f) (either y x) f (omega arith) (omega (arith, h.0)) h.1) (can_close f (tree.choice y x (tree.name (placed_word a_name 0))) h.1))
    can_close (either y z ∷ f) x h = lift _ _ _ (more_at f false _ _ (omega arith)) (fill (either y z) x (tree.choice y z x) f refl refl refl (leaves_low (no_in_here f) (either y z) f (omega arith) (omega (arith, h.0)) h.1) (can_close f (tree.choice y z x) h.1))
    can_close (statement ∷ f) x h = lift _ _ _ (more_behind f _ _ (omega arith)) (can_end f (tree.expression x) h)
    can_close (value true n its ∷ f) x h = lift _ _ _ (more_behind f _ _ (omega (arith, items_deep its n (tree.some_expr x)))) (by _ _ _ (ends_for _ _ _ tree.empty f (close_statement f)) (can_end f (tree.for_loop (tree.first_var (items_of (its ++ (n, tree.some_expr x) ∷ []))) tree.no_expr tree.no_expr tree.empty) h))
    can_close (value false n its ∷ f) x h = lift _ _ _ (more_behind f _ _ (omega (arith, items_deep its n (tree.some_expr x)))) (can_end f (tree.var (items_of (its ++ (n, tree.some_expr x) ∷ []))) h)
    can_close (if_test ∷ f) x h = lift _ _ _ (more_behind f _ _ (omega arith)) (by _ _ _ (ends_then x tree.empty f (close_statement f) (no_else_close f h)) (can_end f (tree.branch x tree.empty tree.no_stmt) h))
    can_close (while_test ∷ f) x h = lift _ _ _ (more_behind f _ _ (omega arith)) (by _ _ _ (ends_while x tree.empty f (close_statement f)) (can_end f (tree.while_loop x tree.empty) h))
    can_close (do_test s ∷ f) x h = lift _ _ _ (more_behind f _ _ (omega arith)) (can_end f (tree.do_loop s x) h)
    can_close (for_first ∷ f) x h = lift _ _ _ (more_behind f _ _ (omega arith)) (by _ _ _ (ends_for _ _ _ tree.empty f (close_statement f)) (can_end f (tree.for_loop (tree.first_expr x) tree.no_expr tree.no_expr tree.empty) h))
    can_close (for_test r ∷ f) x h = lift _ _ _ (more_behind f _ _ (omega arith)) (by _ _ _ (ends_for _ _ _ tree.empty f (close_statement f)) (can_end f (tree.for_loop r (tree.some_expr x) tree.no_expr tree.empty) h))
    can_close (for_step r m ∷ f) x h = lift _ _ _ (more_behind f _ _ (omega arith)) (by _ _ _ (ends_for _ _ _ tree.empty f (close_statement f)) (can_end f (tree.for_loop r m (tree.some_expr x) tree.empty) h))
    can_close (for_object r ∷ f) x h = lift _ _ _ (more_behind f _ _ (omega arith)) (by _ _ _ (ends_in _ _ tree.empty f (close_statement f)) (can_end f (tree.for_in r x tree.empty) h))
    can_close (giving a ∷ f) x h = lift _ _ _ (more_behind f _ _ (omega arith)) (can_end f (tree.return (tree.some_expr x) a) h)
    can_close (throwing ∷ f) x h = lift _ _ _ (more_behind f _ _ (omega arith)) (can_end f (tree.throw x) h)
    can_close (with_head a ∷ f) x h = lift _ _ _ (more_behind f _ _ (omega arith)) (by _ _ _ (ends_with x a tree.empty f (close_statement f)) (can_end f (tree.with_object x tree.empty a) h))
    can_close (switch_head ∷ f) x h = lift _ _ _ (more_behind f _ _ (omega arith)) (can_end f (tree.switch x tree.no_cases) h)
    can_close (case_test y cs ∷ f) x h = lift _ _ _ (more_behind f _ _ (omega (arith, cases_deep cs (tree.some_expr x) []))) (can_end f (tree.switch y (cases_of (cs ++ (tree.some_expr x, []) ∷ []))) h)
    can_close (_ ∷ f) x h = absurd h

    pub can_end : (f : Stack) (s : S) → Takes kind f → Whole kind (height_behind f (deep t.stmt s)) (run (close_statement f) (ended s f))
    can_end [] s h = absurd h
    can_end (then_of x ∷ f) s h = lift _ _ _ (more_behind f _ _ (omega arith)) (by _ _ _ (ends_then x s f (close_statement f) (no_else_close f h)) (can_end f (tree.branch x s tree.no_stmt) h))
    can_end (else_of x r ∷ f) s h = lift _ _ _ (more_behind f _ _ (omega arith)) (by _ _ _ (ends_else x r s f (close_statement f)) (can_end f (tree.branch x r (tree.some_stmt s)) h))
    can_end (while_body x ∷ f) s h = lift _ _ _ (more_behind f _ _ (omega arith)) (by _ _ _ (ends_while x s f (close_statement f)) (can_end f (tree.while_loop x s) h))
    can_end (do_body ∷ f) s h = lift _ _ _ (more_behind f _ _ (omega arith)) (can_end f (tree.do_loop s (tree.name (placed_word a_name 0))) h)
    can_end (for_body r m n ∷ f) s h = lift _ _ _ (more_behind f _ _ (omega arith)) (by _ _ _ (ends_for r m n s f (close_statement f)) (can_end f (tree.for_loop r m n s) h))
    can_end (in_body r x ∷ f) s h = lift _ _ _ (more_behind f _ _ (omega arith)) (by _ _ _ (ends_in r x s f (close_statement f)) (can_end f (tree.for_in r x s) h))
    can_end (with_body x a ∷ f) s h = lift _ _ _ (more_behind f _ _ (omega arith)) (by _ _ _ (ends_with x a s f (close_statement f)) (can_end f (tree.with_object x s a) h))
    can_end (label_of n ∷ f) s h = lift _ _ _ (more_behind f _ _ (omega arith)) (by _ _ _ (ends_label n s f (close_statement f)) (can_end f (tree.label n s) h))
    can_end (body a_program ss ∷ []) s h = program_whole kind h (tree.script (stmts_of (ss ++ s ∷ []))) _ (omega (arith, stmts_deep ss s))
    can_end (body a_program ss ∷ g ∷ f) s h = absurd h
    can_end (body a_block ss ∷ f) s h = lift _ _ _ (more_behind f _ _ (omega (arith, stmts_deep ss s))) (can_end f (tree.block (stmts_of (ss ++ s ∷ []))) h)
    can_end (body (a_function k ps) ss ∷ f) s h = function_end k ps ss f s (made_whole k.declared (func_of k ps (ss ++ s ∷ [])) f h (λ g. can_end f (tree.declare (func_of k ps (ss ++ s ∷ []))) g) (λ g. can_close f (tree.function (func_of k ps (ss ++ s ∷ []))) g))
    can_end (body (a_clause x cs m) ss ∷ f) s h = lift _ _ _ (more_behind f _ _ (omega (arith, cases_deep cs m (ss ++ s ∷ []), stmts_deep ss s))) (can_end f (tree.switch x (cases_of (cs ++ (m, ss ++ s ∷ []) ∷ []))) h)
    can_end (body a_try ss ∷ f) s h = lift _ _ _ (more_behind f _ _ (omega (arith, stmts_deep ss s))) (can_end f (tree.try (stmts_of (ss ++ s ∷ [])) tree.no_handler (tree.some_block tree.no_stmts)) h)
    can_end (body (a_catch rs n) ss ∷ f) s h = lift _ _ _ (more_behind f _ _ (omega (arith, stmts_deep ss s))) (by _ _ _ (ends_catch rs n (ss ++ s ∷ []) f (close_statement f) s (follows_any s (close_statement f) (no_else_close f h))) (can_end f (caught_made rs n (ss ++ s ∷ [])) h))
    can_end (body (a_finally rs k) ss ∷ f) s h = lift _ _ _ (more_behind f _ _ (omega (arith, stmts_deep ss s))) (can_end f (tree.try (stmts_of rs) k (tree.some_block (stmts_of (ss ++ s ∷ [])))) h)
    can_end (_ ∷ f) s h = absurd h

  -- a function whose parameters are read
  func_ends : (h : Head) (ps : List Word) (f : Stack) → FuncFits kind h.declared f → Whole kind (height_func h.declared f) (run (close_func h.declared f) (func_made h.declared (func_of h ps []) f))
  func_ends h ps f k = lift _ _ _ (cond_more h.declared _ _ _ _ (more_behind f _ _ (omega arith)) (more_at f false _ _ (omega arith))) (made_whole h.declared (func_of h ps []) f k (λ g. can_end f (tree.declare (func_of h ps [])) g) (λ g. can_close f (tree.function (func_of h ps [])) g))

  past_ends : (x : E) (f : Stack) → Expects kind f × (asked f ≤ 14) → Whole kind (height_at (is_target x) f (deep t.expr x)) (run (close (is_target x) f) (past x f))
  past_ends x f h = by _ _ _ (past_have x f (close (is_target x) f) (no_trailer_close (is_target x) f h.1 h.0)) (can_close f x h.0)

  var_ends : (n : Word) (its : List Item) (f : Stack) → Takes kind f → (b : Bool) → first_item its ≡ b → Whole kind (height_behind f (height_items true its)) (run (close_value true (close_statement f)) (item_end true n its f))
  unfolding run step look_up
  var_ends n its f h true e = lift _ _ _ (more_behind f _ _ (omega (arith, items_deep its n tree.no_expr))) (by _ _ _ (rw e (ends_for _ _ _ tree.empty f (close_statement f))) (can_end f (tree.for_loop (tree.first_var (items_of (its ++ (n, tree.no_expr) ∷ []))) tree.no_expr tree.no_expr tree.empty) h))
  var_ends n its f h false e = lift _ _ _ (more_behind f _ _ (omega (arith, items_deep its n tree.no_expr))) (by _ _ _ (rw e (ends_for _ _ _ tree.empty f (close_statement f))) (can_end f (tree.for_loop (tree.first_var (items_of (its ++ (n, tree.no_expr) ∷ []))) tree.no_expr tree.no_expr tree.empty) h))

  one_var : (n : Word) (its : List Item) (f : Stack) → Takes kind f → Whole kind (height_behind f (height_items false its)) (run (close_statement f) (ended (tree.var (items_of (its ++ (n, tree.no_expr) ∷ []))) f))
  one_var n its f h = lift _ _ _ (more_behind f _ _ (omega (arith, items_deep its n tree.no_expr))) (can_end f (tree.var (items_of (its ++ (n, tree.no_expr) ∷ []))) h)

  function_ends : (k : Head) (ps : List Word) (ss : List S) (f : Stack) → FuncFits kind k.declared f
      → Whole kind (cond k.declared (height_behind f (2 + max (deep t.stmts (stmts_of ss)) 0)) (height_at false f (2 + max (deep t.stmts (stmts_of ss)) 0))) (run (cond k.declared (close_statement f) (close false f)) (func_made k.declared (func_of k ps ss) f))
  function_ends k ps ss f h = lift _ _ _ (cond_more k.declared _ _ _ _ (more_behind f _ _ (omega arith)) (more_at f false _ _ (omega arith))) (made_whole k.declared (func_of k ps ss) f h (λ g. can_end f (tree.declare (func_of k ps ss)) g) (λ g. can_close f (tree.function (func_of k ps ss)) g))

  -- a list of statements ends where it stands
  list_ends : (o : Body) (ss : List S) (f : Stack) → Takes kind (body o ss ∷ f) → Whole kind (height_behind (body o ss ∷ f) 0) (run (close_statement (body o ss ∷ f)) (start (body o ss ∷ f)))
  unfolding run step look_up
  list_ends a_program ss [] h = program_whole kind h (tree.script (stmts_of ss)) _ (omega arith)
  list_ends a_program ss (g ∷ f) h = absurd h
  list_ends a_block ss f h = lift _ _ _ (more_behind f _ _ (omega arith)) (can_end f (tree.block (stmts_of ss)) h)
  list_ends (a_function k ps) ss f h = function_ends k ps ss f h
  list_ends (a_clause x cs m) ss f h = lift _ _ _ (more_behind f _ _ (omega (arith, cases_deep cs m ss))) (can_end f (tree.switch x (cases_of (cs ++ (m, ss) ∷ []))) h)
  list_ends a_try ss f h = lift _ _ _ (more_behind f _ _ (omega arith)) (can_end f (tree.try (stmts_of ss) tree.no_handler (tree.some_block tree.no_stmts)) h)
  list_ends (a_catch rs n) ss f h = lift _ _ _ (more_behind f _ _ (omega arith)) (by _ _ _ (ends_catch rs n ss f (close_statement f) tree.empty (follows_any tree.empty (close_statement f) (no_else_close f h))) (can_end f (caught_made rs n ss) h))
  list_ends (a_finally rs k) ss f h = lift _ _ _ (more_behind f _ _ (omega arith)) (can_end f (tree.try (stmts_of rs) k (tree.some_block (stmts_of ss))) h)

  start_ends : (f : Stack) → Takes kind f → Whole kind (height_start f) (run (close_start f) (start f))
  unfolding run step look_up
  start_ends (body o ss ∷ f) h = list_ends o ss f h
  start_ends [] h = absurd h
  start_ends (g ∷ f) h = can_end (g ∷ f) tree.empty h

  -- each state that fits is ended by its tail
  pub viable : (s : State) → Fits kind s → Whole kind (height s) (run (tail s) s)
  unfolding run step settle resume all_of look_up
  viable (want f) h = can_close f (tree.name (placed_word a_name 0)) h
  viable (have x f) h = can_close f x h
  viable (past x f) h = past_ends x f h
  viable (listed an_array xs f) h = can_close f (tree.array (exprs_of xs)) h
  viable (listed (a_call x) xs f) h = can_close f (tree.call x (exprs_of xs)) h
  viable (listed (a_new x) xs f) h = can_close f (tree.new x (exprs_of xs)) h
  viable (member x f) h = can_close f (tree.dot x (placed_word a_name 0)) h
  viable (key [] f) h = lift _ _ _ (more_at f false _ _ (omega arith)) (can_close f (tree.object tree.no_fields) h)
  viable (key (y ∷ fs) f) h = lift _ _ _ (more_at f false _ _ (omega (arith, fields_deep (y ∷ fs) (placed_word a_name 0) (tree.name (placed_word a_name 0))))) (can_close f (tree.object (fields_of ((y ∷ fs) ++ (placed_word a_name 0, tree.name (placed_word a_name 0)) ∷ []))) h)
  viable (func d a f) h = func_ends (head d (Some (placed_word a_name 0)) a) [] f h
  viable (params k f) h = func_ends k [] f h
  viable (param k ps f) h = func_ends k (ps ++ placed_word a_name 0 ∷ []) f h
  viable (param_end k ps f) h = func_ends k ps f h
  viable (start f) h = start_ends f h
  viable (begun n f) h = can_end f (tree.expression (tree.name n)) h
  viable (ended s f) h = can_end f s h
  viable (closing s f) h = can_end f s h
  viable (item true its f) h = var_ends (placed_word a_name 0) its f h (first_item its) refl
  viable (item false its f) h = one_var (placed_word a_name 0) its f h
  viable (item_end true n its f) h = var_ends n its f h (first_item its) refl
  viable (item_end false n its f) h = one_var n its f h
  viable (for_open f) h = lift _ _ _ (more_behind f _ _ (omega arith)) (by _ _ _ (ends_for _ _ _ tree.empty f (close_statement f)) (can_end f (tree.for_loop tree.no_first tree.no_expr tree.no_expr tree.empty) h))
  viable (for_second r f) h = lift _ _ _ (more_behind f _ _ (omega arith)) (by _ _ _ (ends_for _ _ _ tree.empty f (close_statement f)) (can_end f (tree.for_loop r tree.no_expr tree.no_expr tree.empty) h))
  viable (for_third r m f) h = lift _ _ _ (more_behind f _ _ (omega arith)) (by _ _ _ (ends_for _ _ _ tree.empty f (close_statement f)) (can_end f (tree.for_loop r m tree.no_expr tree.empty) h))
  viable (returned a f) h = lift _ _ _ (more_behind f _ _ (omega arith)) (can_end f (tree.return tree.no_expr a) h)
  viable (jumped true a f) h = can_end f (tree.break None a) h
  viable (jumped false a f) h = can_end f (tree.continue None a) h
  viable (clauses x f) h = lift _ _ _ (more_behind f _ _ (omega arith)) (can_end f (tree.switch x tree.no_cases) h)
  viable (tried ss f) h = lift _ _ _ (more_behind f _ _ (omega arith)) (can_end f (tree.try (stmts_of ss) tree.no_handler (tree.some_block tree.no_stmts)) h)
  viable (caught ss n hs f) h = lift _ _ _ (more_behind f _ _ (omega arith)) (by _ _ _ (ends_catch ss n hs f (close_statement f) tree.empty (follows_any tree.empty (close_statement f) (no_else_close f h))) (can_end f (caught_made ss n hs) h))
  viable (catch_name ss f) h = lift _ _ _ (more_behind f _ _ (omega arith))
      (by _ _ _ (ends_catch ss (placed_word a_name 0) [] f (close_statement f) tree.empty (follows_any tree.empty (close_statement f) (no_else_close f h))) (can_end f (caught_made ss (placed_word a_name 0) []) h))
  viable (await ds s) h = by _ _ _ (awaits ds s (tail s) h.1) (viable s h.0)
