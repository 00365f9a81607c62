-- What is spelled is read, whatever follows that does not belong to it.
use Rattle.std.proofs.Common.{◌≡◌, ℕ, zero, suc, ◌≤◌, ◌<◌, Bool, true, false, cond, ◌&&◌, List, [], ◌∷◌, ◌++◌, Option, Some, None, refl, sym, ap, subst, ◌∙◌, arith, append_assoc}
use Rattle.std.proofs.lemmas.Bool.{le-leb, lt-leb}
use Rattle.std.proofs.lemmas.List.{append-nil}
use Rattle.es3_tree.specs.Token.{Token, name, word, punct, num, text}
use Rattle.es3_tree.specs.Tree as t
use Rattle.es3_tree.specs.Placed as tree
use Rattle.es3_tree.specs.Placed.{Placed, Word}
use Rattle.es3_tree.specs.declared.UnOp.{UnOp}
use Rattle.es3_tree.specs.declared.UnOp.TheVariants.{Delete, Void, Typeof, Plus, Minus, BitNot, Not}
use Rattle.es3_grammar.specs.Spots.{Spot, is, look_up, case_word, catch_word, default_word, else_word, finally_word, function_word, in_word, var_word, while_word, open_brace, close_brace, open_paren, close_paren, open_bracket, close_bracket, point, semicolon, comma, colon, query, equals}
use Rattle.es3_grammar.specs.Levels.{E, Join, an_op, an_and, an_or, an_assign, a_comma, own, left, right, joined, is_target, Infix, joins, a_query, a_step, infix_of, is_trailer, unary_sign, step_sign}
use Rattle.es3_grammar.specs.Grammar.{S, Bars, free, no_call, bars_in, bars_call, ends_statement, named, naming, key_of, has_default, one_default, Names, no_name, one_name, more_names, Spells, s_this, s_null, s_true, s_false, s_num, s_text, s_name, s_paren, s_array, s_array_comma, s_object, s_function, s_dot, s_index, s_call, s_new_call, s_new, s_postfix, s_prefix_step, s_prefix, s_join, s_choice, s_no_exprs, s_some_exprs, s_one_expr, s_more_exprs, s_no_fields, s_some_fields, s_one_field, s_more_fields, s_func, s_block, s_var, s_empty, s_expression, s_one_item, s_more_items, s_no_value, s_value, s_if, s_else, s_do, s_while, s_for, s_for_in, s_no_first, s_first_var, s_first_expr, s_no_expr, s_some_expr, s_loop_var, s_loop_expr, s_continue, s_break, s_return, s_with, s_switch, s_no_cases, s_case, s_default, s_label, s_throw, s_catch, s_finally, s_catch_finally, s_no_stmts, s_more_stmts, s_declaration, s_script}
use Rattle.es3_grammar.specs.Frames.{Field, Item, Clause, exprs_of, fields_of, stmts_of, items_of, cases_of, Opened, an_array, a_call, a_new, Head, head, Body, a_program, a_block, a_function, a_clause, a_try, a_catch, a_finally, Frame, paren, subscript, items, field, new_of, prefix_step, prefix, join, test, either, statement, value, if_test, while_test, do_test, for_first, for_test, for_step, for_object, giving, throwing, with_head, switch_head, case_test, then_of, else_of, while_body, do_body, for_body, in_body, with_body, label_of, body, Stack, State, want, have, past, listed, key, func, params, param, start, ended, item, item_end, for_open, for_second, for_third, returned, jumped, clauses, asks, asked, behind_new, no_in_here}
use Rattle.es3_grammar.specs.Machine.{when, closer, closed_list, behind_comma, after_expr, bodied, func_made, infix_own, binds, settle, holds, clause_step, cases_closed, after_item, first_item, jump, resume, step, whole, goes, run, beginning}
use Rattle.es3_grammar.proofs.Tables.{starts, not_first, no_trailer, some_is, none_some, spot_is, not_false}
use Rattle.es3_grammar.proofs.Follow.{level_fits, bars_in_barred, infix_left, left_in, asks_left, Ends, own_low, own_prefix, own_in_left, ends_more, barred, bars_of, low_bars, in_of, Leaves, past_have, reduces, closes_by, shifts, leaves, leaves_high, no_trailer_ends, ends_free, call_opens, NoElse, Follows, follows_any, as_open, open_follows, takes_statement, ends_then, ends_else, ends_while, ends_for, ends_in, ends_with, ends_label, ends_catch}
use Rattle.es3_grammar.proofs.First.{Starts, first, unlabelled, plain}

-- ---- lists

abbrev pub exprs_in : Placed t.exprs → List E
exprs_in tree.no_exprs = []
exprs_in (tree.more_exprs x xs) = x ∷ exprs_in xs

abbrev pub fields_in : Placed t.fields → List Field
fields_in tree.no_fields = []
fields_in (tree.more_fields n x xs) = (n, x) ∷ fields_in xs

abbrev pub stmts_in : Placed t.stmts → List S
stmts_in tree.no_stmts = []
stmts_in (tree.more_stmts x xs) = x ∷ stmts_in xs

abbrev pub items_in : Placed t.items → List Item
items_in tree.no_items = []
items_in (tree.more_items n m xs) = (n, m) ∷ items_in xs

abbrev pub cases_in : Placed t.cases → List Clause
cases_in tree.no_cases = []
cases_in (tree.more_cases m ss xs) = (m, stmts_in ss) ∷ cases_in xs

pub exprs_back : (xs : Placed t.exprs) → exprs_of (exprs_in xs) ≡ xs
exprs_back tree.no_exprs = refl
exprs_back (tree.more_exprs x xs) = ap (tree.more_exprs x) (exprs_back xs)

pub fields_back : (xs : Placed t.fields) → fields_of (fields_in xs) ≡ xs
fields_back tree.no_fields = refl
fields_back (tree.more_fields n x xs) = ap (tree.more_fields n x) (fields_back xs)

pub stmts_back : (xs : Placed t.stmts) → stmts_of (stmts_in xs) ≡ xs
stmts_back tree.no_stmts = refl
stmts_back (tree.more_stmts x xs) = ap (tree.more_stmts x) (stmts_back xs)

pub items_back : (xs : Placed t.items) → items_of (items_in xs) ≡ xs
items_back tree.no_items = refl
items_back (tree.more_items n m xs) = ap (tree.more_items n m) (items_back xs)

pub cases_back : (xs : Placed t.cases) → cases_of (cases_in xs) ≡ xs
cases_back tree.no_cases = refl
cases_back (tree.more_cases m ss xs) = ap (tree.more_cases m (stmts_of (stmts_in ss))) (cases_back xs) ∙ ap (λ z. tree.more_cases m z xs) (stmts_back ss)

-- ---- what reading does

-- a token that ends an expression in a list
abbrev pub Parts : Bool → Spot → Type 0
Parts i c = (is_trailer c.0 ≡ false) × (left_in (infix_of i c.0) ≤ 0)

-- a token that ends an item of a `var`
abbrev pub PartsItem : Bool → Spot → Type 0
PartsItem h c = Parts h c × (is equals c ≡ false) × (is in_word c ≡ false)

abbrev named_if : Bool → Placed t.func → Bool
named_if true (tree.fun None ps ss a) = false
named_if _ _ = true

abbrev place_of : Placed t.func → ℕ
place_of (tree.fun n ps ss a) = a

abbrev of_bool : Bool → ℕ
of_bool true = 1
of_bool false = 0

-- a state that takes the clauses of a `switch`, or its end
abbrev TakesClauses : State → E → List Clause → Stack → Type 0
TakesClauses s x cs f = ((a : ℕ) (k : List Spot) → run ((case_word, a) ∷ k) s ≡ goes (run k) ((case_word, a) ∷ k) (clause_step x cs f (case_word, a)))
    × ((a : ℕ) (k : List Spot) → run ((default_word, a) ∷ k) s ≡ goes (run k) ((default_word, a) ∷ k) (clause_step x cs f (default_word, a)))
    × ((a : ℕ) (k : List Spot) → run ((close_brace, a) ∷ k) s ≡ run k (cases_closed x cs f))

abbrev pub Reads : (s : t.Sort) → Bars → ℕ → Placed s → List Spot → Type 0
Reads t.expr b l x u = (f : Stack) (k : List Spot) → asked f ≤ l → bars_of f ≡ b → Ends b l k → run (u ++ k) (want f) ≡ run k (have x f)
Reads t.exprs b zero xs u = (o : Opened) (f : Stack) (d : ℕ) (k : List Spot) → run (u ++ (closer o, d) ∷ k) (listed o [] f) ≡ run k (have (closed_list o (exprs_in xs)) f)
Reads t.exprs b (suc l) xs u = (o : Opened) (acc : List E) (f : Stack) (c : Spot) (k : List Spot) → Parts false c
    → run (u ++ c ∷ k) (want (items o acc ∷ f)) ≡ goes (run k) (c ∷ k) (after_expr o (acc ++ exprs_in xs) f c)
Reads t.fields b zero xs u = (f : Stack) (d : ℕ) (k : List Spot) → run (u ++ (close_brace, d) ∷ k) (key [] f) ≡ run k (have (tree.object (fields_of (fields_in xs))) f)
Reads t.fields b (suc l) xs u = (acc : List Field) (f : Stack) (d : ℕ) (k : List Spot) → run (u ++ (close_brace, d) ∷ k) (key acc f) ≡ run k (have (tree.object (fields_of (acc ++ fields_in xs))) f)
Reads t.func b l x u = (d : Bool) (f : Stack) (k : List Spot) → named_if d x ≡ true → run (u ++ k) (func d (place_of x) f) ≡ run k (func_made d x f)
Reads t.stmt b l s u = (f : Stack) (k : List Spot) → Follows s k → run (u ++ k) (start f) ≡ run k (ended s f)
Reads t.stmts b l ss u = (o : Body) (acc : List S) (f : Stack) (k : List Spot) → l ≤ of_bool (holds o) → NoElse k
    → run (u ++ k) (start (body o acc ∷ f)) ≡ run k (start (body o (acc ++ stmts_in ss) ∷ f))
Reads t.items b l its u = (h : Bool) (acc : List Item) (f : Stack) (c : Spot) (k : List Spot) → barred false h ≡ b → PartsItem h c
    → run (u ++ c ∷ k) (item h acc f) ≡ goes (run k) (c ∷ k) (after_item h (acc ++ items_in its) f c)
Reads t.maybe_expr b zero m u = ((r : Placed t.first) (f : Stack) (d : ℕ) (k : List Spot) → run (u ++ (semicolon, d) ∷ k) (for_second r f) ≡ run k (for_third r m f))
    × ((r : Placed t.first) (n : Placed t.maybe_expr) (f : Stack) (d : ℕ) (k : List Spot) → run (u ++ (close_paren, d) ∷ k) (for_third r n f) ≡ run k (start (for_body r n m ∷ f)))
    × ((a : ℕ) (f : Stack) (d : ℕ) (k : List Spot) → run (u ++ (semicolon, d) ∷ k) (returned a f) ≡ run k (ended (tree.return m a) f))
Reads t.maybe_expr b (suc l) m u = (h : Bool) (n : Word) (acc : List Item) (f : Stack) (c : Spot) (k : List Spot) → barred false h ≡ b → PartsItem h c
    → run (u ++ c ∷ k) (item_end h n acc f) ≡ goes (run k) (c ∷ k) (after_item h (acc ++ (n, m) ∷ []) f c)
Reads t.first b l r u = (f : Stack) (d : ℕ) (k : List Spot) → run (u ++ (semicolon, d) ∷ k) (for_open f) ≡ run k (for_second r f)
Reads t.loop_target b l r u = (f : Stack) (d : ℕ) (k : List Spot) → run (u ++ (in_word, d) ∷ k) (for_open f) ≡ run k (want (for_object r ∷ f))
Reads t.cases b l xs u = (s : State) (x : E) (cs : List Clause) (f : Stack) (d : ℕ) (k : List Spot) → TakesClauses s x cs f → one_default (cases_of (cs ++ cases_in xs)) ≡ true
    → run (u ++ (close_brace, d) ∷ k) s ≡ run k (cases_closed x (cs ++ cases_in xs) f)
Reads t.program b l p u = run u beginning ≡ whole p
Reads _ b l x u = Unit {0}

at : (u v k : List Spot) (s : State) → run ((u ++ v) ++ k) s ≡ run (u ++ (v ++ k)) s
at u v k s = ap (λ (w : List Spot). run w s) (append_assoc u v k)

-- ---- expressions

prefix_begins : (op : UnOp) (a : ℕ) (f : Stack) (k : List Spot) → asked f ≤ 13 → run ((unary_sign op, a) ∷ k) (want f) ≡ run k (want (prefix op a ∷ f))
unfolding run step look_up
prefix_begins Delete a f k h = rw (le-leb (asked f) 13 h) refl
prefix_begins Void a f k h = rw (le-leb (asked f) 13 h) refl
prefix_begins Typeof a f k h = rw (le-leb (asked f) 13 h) refl
prefix_begins Plus a f k h = rw (le-leb (asked f) 13 h) refl
prefix_begins Minus a f k h = rw (le-leb (asked f) 13 h) refl
prefix_begins BitNot a f k h = rw (le-leb (asked f) 13 h) refl
prefix_begins Not a f k h = rw (le-leb (asked f) 13 h) refl

step_begins : (up : Bool) (a : ℕ) (f : Stack) (k : List Spot) → asked f ≤ 13 → run ((step_sign up, a) ∷ k) (want f) ≡ run k (want (prefix_step up ∷ f))
unfolding run step look_up
step_begins true a f k h = rw (le-leb (asked f) 13 h) refl
step_begins false a f k h = rw (le-leb (asked f) 13 h) refl

step_infix : (i up : Bool) → infix_of i (step_sign up) ≡ Some (a_step up)
unfolding look_up
step_infix i true = refl
step_infix i false = refl

query_infix : (i : Bool) → infix_of i query ≡ Some a_query
unfolding look_up
query_infix i = refl

-- what an operator asks is what its sign asks
sign_asks : (i : Bool) (c : Token) (o : Infix) → infix_of i c ≡ Some o → asks_left i c ≡ infix_left o
sign_asks i c o e = rw (no_trailer i c o e, e) refl

join_levels : (j : Join) → (own j ≤ left j) × (left j ≤ 15) × (own j ≤ 12) × (right j ≤ 13) × (own j ≤ right j)
join_levels (an_op op) = omega (arith, level_fits op)
join_levels an_and = omega arith
join_levels an_or = omega arith
join_levels (an_assign op) = omega arith
join_levels a_comma = omega arith

-- what follows the whole does not belong within the frame
join_leaves : (j : Join) (i : Infix) → infix_left i ≤ own j → infix_own i < right j
join_leaves (an_op op) i h = omega (arith, own_in_left i)
join_leaves an_and i h = omega (arith, own_in_left i)
join_leaves an_or i h = omega (arith, own_in_left i)
join_leaves (an_assign op) i h = omega (arith, own_low i (omega arith))
join_leaves a_comma i h = omega (arith, own_in_left i)

low_end : (o : Option Infix) → left_in o ≤ 2 → left_in o ≤ 0
low_end None h = omega arith
low_end (Some (joins (an_op op))) h = absurd (omega (arith, level_fits op))
low_end (Some (joins an_and)) h = absurd (omega arith)
low_end (Some (joins an_or)) h = absurd (omega arith)
low_end (Some (joins (an_assign op))) h = absurd (omega arith)
low_end (Some (joins a_comma)) h = omega arith
low_end (Some a_query) h = absurd (omega arith)
low_end (Some (a_step up)) h = absurd (omega arith)

low_asks : (t : Bool) (o : Option Infix) → cond t 16 (left_in o) ≤ 2 → cond t 16 (left_in o) ≤ 0
low_asks true o h = absurd (omega arith)
low_asks false o h = low_end o h

ends_low : (b : Bars) (l : ℕ) (k : List Spot) → l ≤ 2 → Ends b l k → Ends b 0 k
ends_low b l [] le h = tt
ends_low b l (c ∷ k) le h = low_asks (is_trailer c.0) (infix_of (bars_in b) c.0) (omega arith)

right_ends : (b : Bars) (l : ℕ) (j : Join) (k : List Spot) → l ≤ own j → Ends b l k → Ends b (right j) k
right_ends b l j k le e = ends_more b l (right j) k (omega (arith, join_levels j)) e

here : (b : Bars) (f : Stack) (g : Frame) (k : List Spot) → asked f ≤ 14 → bars_of f ≡ b → Leaves (bars_in b) g k → Leaves (no_in_here f) g k
here b f g k h q e = subst (λ i. Leaves i g k) (sym (in_of f b h q)) e

callable : (f : Stack) (b : Bars) → bars_of f ≡ b → bars_call b ≡ false → behind_new f ≡ false
callable f b q h = go (behind_new f) (no_in_here f) (ap bars_call q ∙ h)
  where
    go : (a i : Bool) → bars_call (barred a i) ≡ false → a ≡ false
    go true i e = absurd cc
    go false i e = refl

-- ---- lists of expressions

closer_first : (o : Opened) (c : Spot) → starts c.0 ≡ true → is (closer o) c ≡ false
unfolding look_up
closer_first an_array c h = not_first close_bracket refl c.0 h
closer_first (a_call x) c h = not_first close_paren refl c.0 h
closer_first (a_new x) c h = not_first close_paren refl c.0 h

opens_list : (o : Opened) (xs : List E) (f : Stack) (u k : List Spot) → Starts u → run (u ++ k) (listed o xs f) ≡ run (u ++ k) (want (items o xs ∷ f))
unfolding run step
opens_list o xs f [] k h = absurd h
opens_list o xs f (c ∷ u) k h = rw (closer_first o c h) refl

behind : (o : Opened) (xs : List E) (f : Stack) (u k : List Spot) → Starts u → run (u ++ k) (behind_comma o xs f) ≡ run (u ++ k) (want (items o xs ∷ f))
behind an_array xs f u k h = opens_list an_array xs f u k h
behind (a_call x) xs f u k h = refl
behind (a_new x) xs f u k h = refl

no_list : (o : Opened) (f : Stack) (d : ℕ) (k : List Spot) → run ((closer o, d) ∷ k) (listed o [] f) ≡ run k (have (closed_list o []) f)
unfolding run step
no_list an_array f d k = refl
no_list (a_call x) f d k = refl
no_list (a_new x) f d k = refl

list_ends : (o : Opened) (xs : List E) (f : Stack) (d : ℕ) (k : List Spot) → goes (run k) ((closer o, d) ∷ k) (after_expr o xs f (closer o, d)) ≡ run k (have (closed_list o xs) f)
list_ends an_array xs f d k = refl
list_ends (a_call x) xs f d k = refl
list_ends (a_new x) xs f d k = refl

closer_parts : (o : Opened) (d : ℕ) → Parts false (closer o, d)
unfolding look_up
closer_parts an_array d = (refl, omega arith)
closer_parts (a_call x) d = (refl, omega arith)
closer_parts (a_new x) d = (refl, omega arith)

parts_ends : (b : Bars) (l : ℕ) (c : Spot) (k : List Spot) → Parts (bars_in b) c → Ends b l (c ∷ k)
parts_ends b l c k p = rw p.0 (omega (arith, p.1))

parts_unbound : (i : Bool) (c : Spot) (f : Frame) → Parts i c → 1 ≤ asks f → binds (infix_of i c.0) f ≡ false
parts_unbound i c f p h = go (infix_of i c.0) p.1
  where
    go : (o : Option Infix) → left_in o ≤ 0 → binds o f ≡ false
    go None e = refl
    go (Some j) e = lt-leb (asks f) (infix_own j) (omega (arith, own_in_left j))

-- ---- keys and functions

key_reads : (fs : List Field) (f : Stack) (c : Spot) (n : Word) (a : ℕ) (k : List Spot) → key_of c ≡ Some n → run (c ∷ (colon, a) ∷ k) (key fs f) ≡ run k (want (field fs n ∷ f))
unfolding run step
key_reads fs f (name us, b) n a k e = ap (λ z. run k (want (field fs z ∷ f))) (some_is _ n e)
key_reads fs f (text us, b) n a k e = ap (λ z. run k (want (field fs z ∷ f))) (some_is _ n e)
key_reads fs f (num m, b) n a k e = ap (λ z. run k (want (field fs z ∷ f))) (some_is _ n e)
key_reads fs f (word m, b) n a k e = none_some n e
key_reads fs f (punct m, b) n a k e = none_some n e

head_reads : (n : Option Word) (d : Bool) (a e : ℕ) (ps : List Word) (ss : Placed t.stmts) (f : Stack) (k : List Spot) → named_if d (tree.fun n ps ss a) ≡ true
    → run (naming n ++ (open_paren, e) ∷ k) (func d a f) ≡ run k (params (head d n a) f)
unfolding run step
head_reads None false a e ps ss f k h = refl
head_reads None true a e ps ss f k h = absurd cc
head_reads (Some n) d a e ps ss f k h = refl

names_more : (n : Word) (ns : List Word) (u : List Spot) → Names (n ∷ ns) u → (h : Head) (ps : List Word) (f : Stack) (e : ℕ) (k : List Spot)
    → run (u ++ (close_paren, e) ∷ k) (param h ps f) ≡ run k (bodied h (ps ++ n ∷ ns) f)
unfolding run step
names_more _ _ _ (one_name n) = λ h ps f e k. refl
names_more _ _ _ (more_names a n m ns u p) = λ h ps f e k. names_more m ns u p h (ps ++ n ∷ []) f e k ∙ ap (λ z. run k (bodied h z f)) (append_assoc ps (n ∷ []) (m ∷ ns))

names_read : (ns : List Word) (u : List Spot) → Names ns u → (h : Head) (f : Stack) (e : ℕ) (k : List Spot) → run (u ++ (close_paren, e) ∷ k) (params h f) ≡ run k (bodied h ns f)
unfolding run step
names_read _ _ no_name = λ h f e k. refl
names_read _ _ (one_name n) = λ h f e k. refl
names_read _ _ (more_names a n m ns u p) = λ h f e k. names_more m ns u p h (n ∷ []) f e k

-- ---- statements

with_end : (c : Spot) (P : Spot → Type 0) → ends_statement c ≡ true → P (semicolon, c.1) → P c
with_end c P e h = subst P (sym (spot_is semicolon c e)) h

opens_for : (f : Stack) (u k : List Spot) → Starts u → run (u ++ k) (for_open f) ≡ run (u ++ k) (want (for_first ∷ f))
unfolding run step look_up
opens_for f [] k h = absurd h
opens_for f (c ∷ u) k h = rw (not_first var_word refl c.0 h, not_first semicolon refl c.0 h) refl

opens_second : (r : Placed t.first) (f : Stack) (u k : List Spot) → Starts u → run (u ++ k) (for_second r f) ≡ run (u ++ k) (want (for_test r ∷ f))
unfolding run step look_up
opens_second r f [] k h = absurd h
opens_second r f (c ∷ u) k h = rw (not_first semicolon refl c.0 h) refl

opens_third : (r : Placed t.first) (m : Placed t.maybe_expr) (f : Stack) (u k : List Spot) → Starts u → run (u ++ k) (for_third r m f) ≡ run (u ++ k) (want (for_step r m ∷ f))
unfolding run step look_up
opens_third r m f [] k h = absurd h
opens_third r m f (c ∷ u) k h = rw (not_first close_paren refl c.0 h) refl

opens_return : (a : ℕ) (f : Stack) (u k : List Spot) → Starts u → run (u ++ k) (returned a f) ≡ run (u ++ k) (want (giving a ∷ f))
unfolding run step look_up
opens_return a f [] k h = absurd h
opens_return a f (c ∷ u) k h = rw (not_first semicolon refl c.0 h) refl

takes_in : (x : E) (f : Stack) (d : ℕ) (k : List Spot) → is_target x ≡ true → run ((in_word, d) ∷ k) (have x (for_first ∷ f)) ≡ run k (want (for_object (tree.loop_expr x) ∷ f))
unfolding run step settle look_up
takes_in x f d k h = rw h refl

jump_reads : (b : Bool) (n : Option Word) (a : ℕ) (f : Stack) (d : ℕ) (k : List Spot) → run (naming n ++ (semicolon, d) ∷ k) (jumped b a f) ≡ run k (ended (jump b n a) f)
unfolding run step
jump_reads b None a f d k = refl
jump_reads b (Some n) a f d k = refl

clauses_taken : (x : E) (f : Stack) → TakesClauses (clauses x f) x [] f
unfolding run step
clauses_taken x f = (λ a k. refl, λ a k. refl, λ a k. refl)

more_taken : (x : E) (cs : List Clause) (m : Placed t.maybe_expr) (ss : List S) (f : Stack) → TakesClauses (start (body (a_clause x cs m) ss ∷ f)) x (cs ++ (m, ss) ∷ []) f
unfolding run step look_up
more_taken x cs m ss f = (λ a k. refl, λ a k. refl, λ a k. refl)

has_one : (cs : List Clause) (ss : List S) (rest : List Clause) → has_default (cases_of (cs ++ (tree.no_expr, ss) ∷ rest)) ≡ true
has_one [] ss rest = refl
has_one ((tree.no_expr, rs) ∷ cs) ss rest = refl
has_one ((tree.some_expr x, rs) ∷ cs) ss rest = has_one cs ss rest

pub default_once : (cs : List Clause) (ss : List S) (rest : List Clause) → one_default (cases_of (cs ++ (tree.no_expr, ss) ∷ rest)) ≡ true → has_default (cases_of cs) ≡ false
default_once [] ss rest h = refl
default_once ((tree.no_expr, rs) ∷ cs) ss rest h = absurd (let g = not_false _ h in let e = has_one cs ss rest in cc (g, e))
default_once ((tree.some_expr x, rs) ∷ cs) ss rest h = default_once cs ss rest h

takes_default : (s : State) (x : E) (cs : List Clause) (f : Stack) (a d : ℕ) (k : List Spot) → TakesClauses s x cs f → has_default (cases_of cs) ≡ false
    → run ((default_word, a) ∷ (colon, d) ∷ k) s ≡ run k (start (body (a_clause x cs tree.no_expr) [] ∷ f))
unfolding run step
takes_default s x cs f a d k tk h = tk.1 a ((colon, d) ∷ k) ∙ rw h refl

declared : (o : Body) (acc : List S) (f : Stack) (a : ℕ) (k : List Spot) → 1 ≤ of_bool (holds o) → run ((function_word, a) ∷ k) (start (body o acc ∷ f)) ≡ run k (func true a (body o acc ∷ f))
unfolding run step look_up
declared o acc f a k h = ap (goes (run k) ((function_word, a) ∷ k)) (go (holds o) h)
  where
    go : (b : Bool) → 1 ≤ of_bool b → when b (func true a (body o acc ∷ f)) ≡ Some (func true a (body o acc ∷ f))
    go true h = refl
    go false h = absurd (omega arith)

comma_parts : (w : Bool) (a : ℕ) → PartsItem w (comma, a)
unfolding look_up
comma_parts w a = ((refl, omega arith), refl, refl)

item_ends : (w : Bool) (n : Word) (acc : List Item) (f : Stack) (c : Spot) (k : List Spot) → PartsItem w c
    → run (c ∷ k) (item_end w n acc f) ≡ goes (run k) (c ∷ k) (after_item w (acc ++ (n, tree.no_expr) ∷ []) f c)
unfolding run step
item_ends w n acc f c k p = ap (goes (run k) (c ∷ k)) (rw (p.1, p.2) (go (w && first_item acc)))
  where
    go : (b : Bool) → cond (b && false) (Some (want (for_object (tree.loop_var n) ∷ f))) (after_item w (acc ++ (n, tree.no_expr) ∷ []) f c) ≡ after_item w (acc ++ (n, tree.no_expr) ∷ []) f c
    go true = refl
    go false = refl

-- a clause, whose statements and whose further clauses are read
clause_reads : (m : Placed t.maybe_expr) (ss : Placed t.stmts) (cs : Placed t.cases) (v w : List Spot) (y : E) (acc : List Clause) (f : Stack) (d : ℕ) (k : List Spot)
    → run (v ++ (w ++ (close_brace, d) ∷ k)) (start (body (a_clause y acc m) [] ∷ f)) ≡ run (w ++ (close_brace, d) ∷ k) (start (body (a_clause y acc m) (stmts_in ss) ∷ f))
    → Reads t.cases free 0 cs w → one_default (cases_of (acc ++ (m, stmts_in ss) ∷ cases_in cs)) ≡ true
    → run ((v ++ w) ++ (close_brace, d) ∷ k) (start (body (a_clause y acc m) [] ∷ f)) ≡ run k (cases_closed y (acc ++ (m, stmts_in ss) ∷ cases_in cs) f)
clause_reads m ss cs v w y acc f d k h i od = at v w ((close_brace, d) ∷ k) (start (body (a_clause y acc m) [] ∷ f)) ∙ h
    ∙ i (start (body (a_clause y acc m) (stmts_in ss) ∷ f)) y (acc ++ (m, stmts_in ss) ∷ []) f d k (more_taken y acc m (stmts_in ss) f) (ap (λ z. one_default (cases_of z)) (append_assoc acc ((m, stmts_in ss) ∷ []) (cases_in cs)) ∙ od)
    ∙ ap (λ z. run k (cases_closed y z f)) (append_assoc acc ((m, stmts_in ss) ∷ []) (cases_in cs))

pub complete : (s : t.Sort) (b : Bars) (l : ℕ) (x : Placed s) (u : List Spot) → Spells s b l x u → Reads s b l x u
unfolding run step settle resume look_up
complete _ _ _ _ _ (s_this b l a le) = λ f k p q e. refl
complete _ _ _ _ _ (s_null b l a le) = λ f k p q e. refl
complete _ _ _ _ _ (s_true b l a le) = λ f k p q e. refl
complete _ _ _ _ _ (s_false b l a le) = λ f k p q e. refl
complete _ _ _ _ _ (s_num b l a n le) = λ f k p q e. refl
complete _ _ _ _ _ (s_text b l a us le) = λ f k p q e. refl
complete _ _ _ _ _ (s_name b l n le) = λ f k p q e. refl
complete _ _ _ _ _ (s_paren b l a d x u le h) = λ f k p q e. at u ((close_paren, d) ∷ []) k (want (paren ∷ f)) ∙ complete _ _ _ _ _ h (paren ∷ f) ((close_paren, d) ∷ k) (omega arith) refl (omega arith)
complete _ _ _ _ _ (s_array b l a d xs u le h) = λ f k p q e. at u ((close_bracket, d) ∷ []) k (listed an_array [] f) ∙ complete _ _ _ _ _ h an_array f d k ∙ ap (λ z. run k (have (tree.array z) f)) (exprs_back xs)
complete _ _ _ _ _ (s_array_comma b l a d i xs u le h) = λ f k p q e. at u ((comma, i) ∷ (close_bracket, d) ∷ []) k (listed an_array [] f)
    ∙ opens_list an_array [] f u ((comma, i) ∷ (close_bracket, d) ∷ k) (first _ _ _ _ _ h)
    ∙ complete _ _ _ _ _ h an_array [] f (comma, i) ((close_bracket, d) ∷ k) (refl, omega arith)
    ∙ ap (λ z. run k (have (tree.array z) f)) (exprs_back xs)
complete _ _ _ _ _ (s_object b l a d fs u le h) = λ f k p q e. at u ((close_brace, d) ∷ []) k (key [] f) ∙ complete _ _ _ _ _ h f d k ∙ ap (λ z. run k (have (tree.object z) f)) (fields_back fs)
complete _ _ _ _ _ (s_function b l a n ps ss u le h) = λ f k p q e. complete _ _ _ _ _ h false f k refl
complete _ _ _ _ _ (s_dot b l a x n u le h) = λ f k p q e. at u ((point, a) ∷ named n ∷ []) k (want f) ∙ complete _ _ _ _ _ h f ((point, a) ∷ named n ∷ k) (omega arith) q (omega arith)
complete _ _ _ _ _ (s_index b l a d x y u v le h i) = λ f k p q e. at u ((open_bracket, a) ∷ (v ++ (close_bracket, d) ∷ [])) k (want f)
    ∙ complete _ _ _ _ _ h f ((open_bracket, a) ∷ ((v ++ (close_bracket, d) ∷ []) ++ k)) (omega arith) q (omega arith)
    ∙ at v ((close_bracket, d) ∷ []) k (want (subscript x ∷ f))
    ∙ complete _ _ _ _ _ i (subscript x ∷ f) ((close_bracket, d) ∷ k) (omega arith) refl (omega arith)
complete _ _ _ _ _ (s_call b l a d x xs u v le c h i) = λ f k p q e. at u ((open_paren, a) ∷ (v ++ (close_paren, d) ∷ [])) k (want f)
    ∙ complete _ _ _ _ _ h f ((open_paren, a) ∷ ((v ++ (close_paren, d) ∷ []) ++ k)) (omega arith) q (omega arith)
    ∙ ap (λ s. run ((v ++ (close_paren, d) ∷ []) ++ k) s) (call_opens f x (callable f b q c))
    ∙ at v ((close_paren, d) ∷ []) k (listed (a_call x) [] f)
    ∙ complete _ _ _ _ _ i (a_call x) f d k ∙ ap (λ z. run k (have (tree.call x z) f)) (exprs_back xs)
complete _ _ _ _ _ (s_new_call b l a d j x xs u v le h i) = λ f k p q e. at u ((open_paren, d) ∷ (v ++ (close_paren, j) ∷ [])) k (want (new_of ∷ f))
    ∙ complete _ _ _ _ _ h (new_of ∷ f) ((open_paren, d) ∷ ((v ++ (close_paren, j) ∷ []) ++ k)) (omega arith) refl (omega arith)
    ∙ at v ((close_paren, j) ∷ []) k (listed (a_new x) [] f)
    ∙ complete _ _ _ _ _ i (a_new x) f j k ∙ ap (λ z. run k (have (tree.new x z) f)) (exprs_back xs)
complete _ _ _ _ _ (s_new b l a x u le h) = λ f k p q e. let n = no_trailer_ends b l k le e in
    complete _ _ _ _ _ h (new_of ∷ f) k (omega arith) refl (ends_free no_call k n)
    ∙ reduces new_of x (tree.new x tree.no_exprs) f k refl refl (leaves_high (no_in_here f) new_of k (omega arith) n)
complete _ _ _ _ _ (s_postfix b l a up x u le g h) = λ f k p q e. at u ((step_sign up, a) ∷ []) k (want f)
    ∙ complete _ _ _ _ _ h f ((step_sign up, a) ∷ k) (omega arith) q (omega (arith, sign_asks (bars_in b) (step_sign up) (a_step up) (step_infix (bars_in b) up)))
    ∙ shifts (step_sign up, a) (a_step up) x f k (past (tree.step up false x) f) (step_infix (no_in_here f) up) (omega arith) (rw g refl)
    ∙ past_have (tree.step up false x) f k (no_trailer_ends b l k (omega arith) e)
complete _ _ _ _ _ (s_prefix_step b l a up x u le g h) = λ f k p q e. step_begins up a f (u ++ k) (omega arith)
    ∙ complete _ _ _ _ _ h (prefix_step up ∷ f) k (omega arith) (low_bars f (omega arith) ∙ q) (ends_more b l 15 k (omega arith) e)
    ∙ reduces (prefix_step up) x (tree.step up true x) f k refl (rw g refl) (leaves_high (no_in_here f) (prefix_step up) k (omega arith) (no_trailer_ends b l k (omega arith) e))
complete _ _ _ _ _ (s_prefix b l a op x u le h) = λ f k p q e. prefix_begins op a f (u ++ k) (omega arith)
    ∙ complete _ _ _ _ _ h (prefix op a ∷ f) k (omega arith) (low_bars f (omega arith) ∙ q) (ends_more b l 13 k le e)
    ∙ reduces (prefix op a) x (tree.unary op x a) f k refl refl (here b f (prefix op a) k (omega arith) q (leaves b l (prefix op a) k (omega arith) (λ i z. omega (arith, own_prefix i (omega arith))) e))
complete _ _ _ _ _ (s_join b l a j c x y u v le i g h r) = λ f k p q e. let lv = join_levels j in at u ((c, a) ∷ v) k (want f)
    ∙ complete _ _ _ _ _ h f ((c, a) ∷ (v ++ k)) (omega (arith, lv)) q (omega (arith, sign_asks (bars_in b) c (joins j) i))
    ∙ shifts (c, a) (joins j) x f (v ++ k) (want (join j x ∷ f)) (ap (λ z. infix_of z c) (in_of f b (omega (arith, lv)) q) ∙ i) (omega arith) (rw g refl)
    ∙ complete _ _ _ _ _ r (join j x ∷ f) k (omega arith) (low_bars f (omega (arith, lv)) ∙ q) (right_ends b l j k le e)
    ∙ reduces (join j x) y (joined j x y) f k refl refl (here b f (join j x) k (omega (arith, lv)) q (leaves b l (join j x) k (omega (arith, lv)) (λ i z. join_leaves j i (omega arith)) e))
complete _ _ _ _ _ (s_choice b l a d x y z u v w le h i j) = λ f k p q e. at u ((query, a) ∷ (v ++ (colon, d) ∷ w)) k (want f)
    ∙ complete _ _ _ _ _ h f ((query, a) ∷ ((v ++ (colon, d) ∷ w) ++ k)) (omega arith) q (omega (arith, sign_asks (bars_in b) query a_query (query_infix (bars_in b))))
    ∙ shifts (query, a) a_query x f ((v ++ (colon, d) ∷ w) ++ k) (want (test x ∷ f)) (query_infix (no_in_here f)) (omega arith) refl
    ∙ at v ((colon, d) ∷ w) k (want (test x ∷ f))
    ∙ complete _ _ _ _ _ i (test x ∷ f) ((colon, d) ∷ (w ++ k)) (omega arith) refl (omega arith)
    ∙ complete _ _ _ _ _ j (either x y ∷ f) k (omega arith) (low_bars f (omega arith) ∙ q) (ends_more b 0 1 k (omega arith) (ends_low b l k le e))
    ∙ reduces (either x y) z (tree.choice x y z) f k refl refl (here b f (either x y) k (omega arith) q (leaves b 0 (either x y) k (omega arith) (λ i z. omega (arith, own_in_left i)) (ends_low b l k le e)))
complete _ _ _ _ _ s_no_exprs = λ o f d k. no_list o f d k
complete _ _ _ _ _ (s_some_exprs xs u h) = λ o f d k. opens_list o [] f u ((closer o, d) ∷ k) (first _ _ _ _ _ h) ∙ complete _ _ _ _ _ h o [] f (closer o, d) k (closer_parts o d) ∙ list_ends o (exprs_in xs) f d k
complete _ _ _ _ _ (s_one_expr x u h) = λ o acc f c k p. complete _ _ _ _ _ h (items o acc ∷ f) (c ∷ k) (omega arith) refl (parts_ends free 1 c k p)
    ∙ closes_by (items o acc) x f c k refl p.0 (parts_unbound false c (items o acc) p (omega arith))
complete _ _ _ _ _ (s_more_exprs a x xs u v h i) = λ o acc f c k p. at u ((comma, a) ∷ v) (c ∷ k) (want (items o acc ∷ f))
    ∙ complete _ _ _ _ _ h (items o acc ∷ f) ((comma, a) ∷ (v ++ c ∷ k)) (omega arith) refl (omega arith)
    ∙ behind o (acc ++ x ∷ []) f v (c ∷ k) (first _ _ _ _ _ i)
    ∙ complete _ _ _ _ _ i o (acc ++ x ∷ []) f c k p
    ∙ ap (λ z. goes (run k) (c ∷ k) (after_expr o z f c)) (append_assoc acc (x ∷ []) (exprs_in xs))
complete _ _ _ _ _ s_no_fields = λ f d k. refl
complete _ _ _ _ _ (s_some_fields fs u h) = λ f d k. complete _ _ _ _ _ h [] f d k
complete _ _ _ _ _ (s_one_field a c n x u g h) = λ acc f d k. key_reads acc f c n a (u ++ (close_brace, d) ∷ k) g ∙ complete _ _ _ _ _ h (field acc n ∷ f) ((close_brace, d) ∷ k) (omega arith) refl (omega arith)
complete _ _ _ _ _ (s_more_fields a e c n x fs u v g h i) = λ acc f d k. key_reads acc f c n a ((u ++ (comma, e) ∷ v) ++ (close_brace, d) ∷ k) g
    ∙ at u ((comma, e) ∷ v) ((close_brace, d) ∷ k) (want (field acc n ∷ f))
    ∙ complete _ _ _ _ _ h (field acc n ∷ f) ((comma, e) ∷ (v ++ (close_brace, d) ∷ k)) (omega arith) refl (omega arith)
    ∙ complete _ _ _ _ _ i (acc ++ (n, x) ∷ []) f d k
    ∙ ap (λ z. run k (have (tree.object (fields_of z)) f)) (append_assoc acc ((n, x) ∷ []) (fields_in fs))
complete _ _ _ _ _ (s_func a d e g i n ps ss u v ns h) = λ w f k q. at (naming n) ((open_paren, d) ∷ (u ++ (close_paren, e) ∷ (open_brace, g) ∷ (v ++ (close_brace, i) ∷ []))) k (func w a f)
    ∙ head_reads n w a d ps ss f ((u ++ (close_paren, e) ∷ (open_brace, g) ∷ (v ++ (close_brace, i) ∷ [])) ++ k) q
    ∙ at u ((close_paren, e) ∷ (open_brace, g) ∷ (v ++ (close_brace, i) ∷ [])) k (params (head w n a) f)
    ∙ names_read ps u ns (head w n a) f e ((open_brace, g) ∷ ((v ++ (close_brace, i) ∷ []) ++ k))
    ∙ at v ((close_brace, i) ∷ []) k (start (body (a_function (head w n a) ps) [] ∷ f))
    ∙ complete _ _ _ _ _ h (a_function (head w n a) ps) [] f ((close_brace, i) ∷ k) (omega arith) (refl, refl)
    ∙ ap (λ z. run k (func_made w (tree.fun n ps z a) f)) (stmts_back ss)
complete _ _ _ _ _ (s_block a d ss u h) = λ f k fo. at u ((close_brace, d) ∷ []) k (start (body a_block [] ∷ f))
    ∙ complete _ _ _ _ _ h a_block [] f ((close_brace, d) ∷ k) (omega arith) (refl, refl) ∙ ap (λ z. run k (ended (tree.block z) f)) (stmts_back ss)
complete _ _ _ _ _ (s_var a c its u h e) = λ f k fo. with_end c (λ c. run ((u ++ c ∷ []) ++ k) (item false [] f) ≡ run k (ended (tree.var its) f)) e
    (at u ((semicolon, c.1) ∷ []) k (item false [] f) ∙ complete _ _ _ _ _ h false [] f (semicolon, c.1) k refl ((refl, omega arith), refl, refl) ∙ ap (λ z. run k (ended (tree.var z) f)) (items_back its))
complete _ _ _ _ _ (s_empty a) = λ f k fo. refl
complete _ _ _ _ _ (s_expression c x u h g e) = λ f k fo. with_end c (λ c. run ((u ++ c ∷ []) ++ k) (start f) ≡ run k (ended (tree.expression x) f)) e
    (at u ((semicolon, c.1) ∷ []) k (start f) ∙ plain f u ((semicolon, c.1) ∷ k) (first _ _ _ _ _ h) g (unlabelled _ _ _ _ _ h ((semicolon, c.1) ∷ k) refl)
    ∙ complete _ _ _ _ _ h (statement ∷ f) ((semicolon, c.1) ∷ k) (omega arith) refl (omega arith))
complete _ _ _ _ _ (s_one_item b n m u h) = λ w acc f c k q p. complete _ _ _ _ _ h w n acc f c k q p
complete _ _ _ _ _ (s_more_items b a n m its u v h i) = λ w acc f c k q p. at u ((comma, a) ∷ v) (c ∷ k) (item_end w n acc f)
    ∙ complete _ _ _ _ _ h w n acc f (comma, a) (v ++ c ∷ k) q (comma_parts w a)
    ∙ complete _ _ _ _ _ i w (acc ++ (n, m) ∷ []) f c k q p
    ∙ ap (λ z. goes (run k) (c ∷ k) (after_item w z f c)) (append_assoc acc ((n, m) ∷ []) (items_in its))
complete _ _ _ _ _ (s_no_value b) = λ w n acc f c k q p. item_ends w n acc f c k p
complete _ _ _ _ _ (s_value b a x u h) = λ w n acc f c k q p.
    complete _ _ _ _ _ h (value w n acc ∷ f) (c ∷ k) (omega arith) q (parts_ends b 1 c k (subst (λ i. Parts i c) (sym (bars_in_barred w) ∙ ap bars_in q) p.0))
    ∙ closes_by (value w n acc) x f c k refl p.0.0 (parts_unbound w c (value w n acc) p.0 (omega arith))
complete _ _ _ _ _ (s_if a d e x s u v h i) = λ f k fo. let n = open_follows (tree.branch x s tree.no_stmt) k refl fo in at u ((close_paren, e) ∷ v) k (want (if_test ∷ f))
    ∙ complete _ _ _ _ _ h (if_test ∷ f) ((close_paren, e) ∷ (v ++ k)) (omega arith) refl (omega arith)
    ∙ complete _ _ _ _ _ i (then_of x ∷ f) k (follows_any s k n)
    ∙ ends_then x s f k n
complete _ _ _ _ _ (s_else a d e g x s r u v w h i o j) = λ f k fo. at u ((close_paren, e) ∷ (v ++ (else_word, g) ∷ w)) k (want (if_test ∷ f))
    ∙ complete _ _ _ _ _ h (if_test ∷ f) ((close_paren, e) ∷ ((v ++ (else_word, g) ∷ w) ++ k)) (omega arith) refl (omega arith)
    ∙ at v ((else_word, g) ∷ w) k (start (then_of x ∷ f))
    ∙ complete _ _ _ _ _ i (then_of x ∷ f) ((else_word, g) ∷ (w ++ k)) (λ z. absurd (cc (z, o)), refl)
    ∙ complete _ _ _ _ _ j (else_of x s ∷ f) k (as_open (tree.branch x s (tree.some_stmt r)) r k refl fo)
    ∙ ends_else x s r f k
complete _ _ _ _ _ (s_do a d e g c s x u v h i z) = λ f k fo. with_end c (λ c. run ((u ++ (while_word, d) ∷ (open_paren, e) ∷ (v ++ (close_paren, g) ∷ c ∷ [])) ++ k) (start (do_body ∷ f)) ≡ run k (ended (tree.do_loop s x) f)) z
    (at u ((while_word, d) ∷ (open_paren, e) ∷ (v ++ (close_paren, g) ∷ (semicolon, c.1) ∷ [])) k (start (do_body ∷ f))
    ∙ complete _ _ _ _ _ h (do_body ∷ f) ((while_word, d) ∷ (open_paren, e) ∷ ((v ++ (close_paren, g) ∷ (semicolon, c.1) ∷ []) ++ k)) (λ z. refl, refl)
    ∙ at v ((close_paren, g) ∷ (semicolon, c.1) ∷ []) k (want (do_test s ∷ f))
    ∙ complete _ _ _ _ _ i (do_test s ∷ f) ((close_paren, g) ∷ (semicolon, c.1) ∷ k) (omega arith) refl (omega arith))
complete _ _ _ _ _ (s_while a d e x s u v h i) = λ f k fo. at u ((close_paren, e) ∷ v) k (want (while_test ∷ f))
    ∙ complete _ _ _ _ _ h (while_test ∷ f) ((close_paren, e) ∷ (v ++ k)) (omega arith) refl (omega arith)
    ∙ complete _ _ _ _ _ i (while_body x ∷ f) k (as_open (tree.while_loop x s) s k refl fo)
    ∙ ends_while x s f k
complete _ _ _ _ _ (s_for a d e g i r m n s u v w q h1 h2 h3 h4) = λ f k fo. at u ((semicolon, e) ∷ (v ++ (semicolon, g) ∷ (w ++ (close_paren, i) ∷ q))) k (for_open f)
    ∙ complete _ _ _ _ _ h1 f e ((v ++ (semicolon, g) ∷ (w ++ (close_paren, i) ∷ q)) ++ k)
    ∙ at v ((semicolon, g) ∷ (w ++ (close_paren, i) ∷ q)) k (for_second r f)
    ∙ (complete _ _ _ _ _ h2).0 r f g ((w ++ (close_paren, i) ∷ q) ++ k)
    ∙ at w ((close_paren, i) ∷ q) k (for_third r m f)
    ∙ (complete _ _ _ _ _ h3).1 r m f i (q ++ k)
    ∙ complete _ _ _ _ _ h4 (for_body r m n ∷ f) k (as_open (tree.for_loop r m n s) s k refl fo)
    ∙ ends_for r m n s f k
complete _ _ _ _ _ (s_for_in a d e g r x s u v w h i j) = λ f k fo. at u ((in_word, e) ∷ (v ++ (close_paren, g) ∷ w)) k (for_open f)
    ∙ complete _ _ _ _ _ h f e ((v ++ (close_paren, g) ∷ w) ++ k)
    ∙ at v ((close_paren, g) ∷ w) k (want (for_object r ∷ f))
    ∙ complete _ _ _ _ _ i (for_object r ∷ f) ((close_paren, g) ∷ (w ++ k)) (omega arith) refl (omega arith)
    ∙ complete _ _ _ _ _ j (in_body r x ∷ f) k (as_open (tree.for_in r x s) s k refl fo)
    ∙ ends_in r x s f k
complete _ _ _ _ _ s_no_first = λ f d k. refl
complete _ _ _ _ _ (s_first_var a its u h) = λ f d k. complete _ _ _ _ _ h true [] f (semicolon, d) k refl ((refl, omega arith), refl, refl) ∙ ap (λ z. run k (for_second (tree.first_var z) f)) (items_back its)
complete _ _ _ _ _ (s_first_expr x u h) = λ f d k. opens_for f u ((semicolon, d) ∷ k) (first _ _ _ _ _ h) ∙ complete _ _ _ _ _ h (for_first ∷ f) ((semicolon, d) ∷ k) (omega arith) refl (omega arith)
complete _ _ _ _ _ s_no_expr = (λ r f d k. refl, λ r n f d k. refl, λ a f d k. refl)
complete _ _ _ _ _ (s_some_expr x u h) = (
  λ r f d k. opens_second r f u ((semicolon, d) ∷ k) (first _ _ _ _ _ h) ∙ complete _ _ _ _ _ h (for_test r ∷ f) ((semicolon, d) ∷ k) (omega arith) refl (omega arith),
  λ r n f d k. opens_third r n f u ((close_paren, d) ∷ k) (first _ _ _ _ _ h) ∙ complete _ _ _ _ _ h (for_step r n ∷ f) ((close_paren, d) ∷ k) (omega arith) refl (omega arith),
  λ a f d k. opens_return a f u ((semicolon, d) ∷ k) (first _ _ _ _ _ h) ∙ complete _ _ _ _ _ h (giving a ∷ f) ((semicolon, d) ∷ k) (omega arith) refl (omega arith),
)
complete _ _ _ _ _ (s_loop_var a n) = λ f d k. refl
complete _ _ _ _ _ (s_loop_expr x u g h) = λ f d k. opens_for f u ((in_word, d) ∷ k) (first _ _ _ _ _ h) ∙ complete _ _ _ _ _ h (for_first ∷ f) ((in_word, d) ∷ k) (omega arith) refl (omega arith) ∙ takes_in x f d k g
complete _ _ _ _ _ (s_continue a c n e) = λ f k fo. with_end c (λ c. run ((naming n ++ c ∷ []) ++ k) (jumped false a f) ≡ run k (ended (tree.continue n a) f)) e
    (at (naming n) ((semicolon, c.1) ∷ []) k (jumped false a f) ∙ jump_reads false n a f c.1 k)
complete _ _ _ _ _ (s_break a c n e) = λ f k fo. with_end c (λ c. run ((naming n ++ c ∷ []) ++ k) (jumped true a f) ≡ run k (ended (tree.break n a) f)) e
    (at (naming n) ((semicolon, c.1) ∷ []) k (jumped true a f) ∙ jump_reads true n a f c.1 k)
complete _ _ _ _ _ (s_return a c m u h e) = λ f k fo. with_end c (λ c. run ((u ++ c ∷ []) ++ k) (returned a f) ≡ run k (ended (tree.return m a) f)) e
    (at u ((semicolon, c.1) ∷ []) k (returned a f) ∙ (complete _ _ _ _ _ h).2 a f c.1 k)
complete _ _ _ _ _ (s_with a d e x s u v h i) = λ f k fo. at u ((close_paren, e) ∷ v) k (want (with_head a ∷ f))
    ∙ complete _ _ _ _ _ h (with_head a ∷ f) ((close_paren, e) ∷ (v ++ k)) (omega arith) refl (omega arith)
    ∙ complete _ _ _ _ _ i (with_body x a ∷ f) k (as_open (tree.with_object x s a) s k refl fo)
    ∙ ends_with x a s f k
complete _ _ _ _ _ (s_switch a d e g i x cs u v h j o) = λ f k fo. at u ((close_paren, e) ∷ (open_brace, g) ∷ (v ++ (close_brace, i) ∷ [])) k (want (switch_head ∷ f))
    ∙ complete _ _ _ _ _ h (switch_head ∷ f) ((close_paren, e) ∷ (open_brace, g) ∷ ((v ++ (close_brace, i) ∷ []) ++ k)) (omega arith) refl (omega arith)
    ∙ at v ((close_brace, i) ∷ []) k (clauses x f)
    ∙ complete _ _ _ _ _ j (clauses x f) x [] f i k (clauses_taken x f) (ap one_default (cases_back cs) ∙ o)
    ∙ ap (λ z. run k (ended (tree.switch x z) f)) (cases_back cs)
complete _ _ _ _ _ s_no_cases = λ s x cs f d k tk od. tk.2 d k ∙ ap (λ z. run k (cases_closed x z f)) (sym (append-nil cs))
complete _ _ _ _ _ (s_case a e x ss cs u v w h i j) = λ s y acc f d k tk od.
    tk.0 a ((u ++ (colon, e) ∷ (v ++ w)) ++ (close_brace, d) ∷ k)
    ∙ at u ((colon, e) ∷ (v ++ w)) ((close_brace, d) ∷ k) (want (case_test y acc ∷ f))
    ∙ complete _ _ _ _ _ h (case_test y acc ∷ f) ((colon, e) ∷ ((v ++ w) ++ (close_brace, d) ∷ k)) (omega arith) refl (omega arith)
    ∙ clause_reads (tree.some_expr x) ss cs v w y acc f d k (complete _ _ _ _ _ i (a_clause y acc (tree.some_expr x)) [] f (w ++ (close_brace, d) ∷ k) (omega arith) (first _ _ _ _ _ j ((close_brace, d) ∷ k) (refl, refl))) (complete _ _ _ _ _ j) od
complete _ _ _ _ _ (s_default a e ss cs v w i j) = λ s y acc f d k tk od.
    takes_default s y acc f a e ((v ++ w) ++ (close_brace, d) ∷ k) tk (default_once acc (stmts_in ss) (cases_in cs) od)
    ∙ clause_reads tree.no_expr ss cs v w y acc f d k (complete _ _ _ _ _ i (a_clause y acc tree.no_expr) [] f (w ++ (close_brace, d) ∷ k) (omega arith) (first _ _ _ _ _ j ((close_brace, d) ∷ k) (refl, refl))) (complete _ _ _ _ _ j) od
complete _ _ _ _ _ (s_label a n s u h) = λ f k fo. complete _ _ _ _ _ h (label_of n ∷ f) k (as_open (tree.label n s) s k refl fo) ∙ ends_label n s f k
complete _ _ _ _ _ (s_throw a c x u h e) = λ f k fo. with_end c (λ c. run ((u ++ c ∷ []) ++ k) (want (throwing ∷ f)) ≡ run k (ended (tree.throw x) f)) e
    (at u ((semicolon, c.1) ∷ []) k (want (throwing ∷ f)) ∙ complete _ _ _ _ _ h (throwing ∷ f) ((semicolon, c.1) ∷ k) (omega arith) refl (omega arith))
complete _ _ _ _ _ (s_catch a d e g i j m p ss n hs u v h q) = λ f k fo.
    at u ((close_brace, e) ∷ (catch_word, g) ∷ (open_paren, i) ∷ named n ∷ (close_paren, j) ∷ (open_brace, m) ∷ (v ++ (close_brace, p) ∷ [])) k (start (body a_try [] ∷ f))
    ∙ complete _ _ _ _ _ h a_try [] f ((close_brace, e) ∷ (catch_word, g) ∷ (open_paren, i) ∷ named n ∷ (close_paren, j) ∷ (open_brace, m) ∷ ((v ++ (close_brace, p) ∷ []) ++ k)) (omega arith) (refl, refl)
    ∙ at v ((close_brace, p) ∷ []) k (start (body (a_catch (stmts_in ss) n) [] ∷ f))
    ∙ complete _ _ _ _ _ q (a_catch (stmts_in ss) n) [] f ((close_brace, p) ∷ k) (omega arith) (refl, refl)
    ∙ ends_catch (stmts_in ss) n (stmts_in hs) f k (tree.try ss (tree.some_handler n hs) tree.no_block) fo
    ∙ ap (λ z. run k (ended (tree.try z (tree.some_handler n (stmts_of (stmts_in hs))) tree.no_block) f)) (stmts_back ss)
    ∙ ap (λ z. run k (ended (tree.try ss (tree.some_handler n z) tree.no_block) f)) (stmts_back hs)
complete _ _ _ _ _ (s_finally a d e g i j ss ls u v h q) = λ f k fo.
    at u ((close_brace, e) ∷ (finally_word, g) ∷ (open_brace, i) ∷ (v ++ (close_brace, j) ∷ [])) k (start (body a_try [] ∷ f))
    ∙ complete _ _ _ _ _ h a_try [] f ((close_brace, e) ∷ (finally_word, g) ∷ (open_brace, i) ∷ ((v ++ (close_brace, j) ∷ []) ++ k)) (omega arith) (refl, refl)
    ∙ at v ((close_brace, j) ∷ []) k (start (body (a_finally (stmts_in ss) tree.no_handler) [] ∷ f))
    ∙ complete _ _ _ _ _ q (a_finally (stmts_in ss) tree.no_handler) [] f ((close_brace, j) ∷ k) (omega arith) (refl, refl)
    ∙ ap (λ z. run k (ended (tree.try z tree.no_handler (tree.some_block (stmts_of (stmts_in ls)))) f)) (stmts_back ss)
    ∙ ap (λ z. run k (ended (tree.try ss tree.no_handler (tree.some_block z)) f)) (stmts_back ls)
complete _ _ _ _ _ (s_catch_finally a d e g i j m p o r y ss n hs ls u v w h q z) = λ f k fo.
    at u ((close_brace, e) ∷ (catch_word, g) ∷ (open_paren, i) ∷ named n ∷ (close_paren, j) ∷ (open_brace, m) ∷ (v ++ (close_brace, p) ∷ (finally_word, o) ∷ (open_brace, r) ∷ (w ++ (close_brace, y) ∷ []))) k (start (body a_try [] ∷ f))
    ∙ complete _ _ _ _ _ h a_try [] f ((close_brace, e) ∷ (catch_word, g) ∷ (open_paren, i) ∷ named n ∷ (close_paren, j) ∷ (open_brace, m) ∷ ((v ++ (close_brace, p) ∷ (finally_word, o) ∷ (open_brace, r) ∷ (w ++ (close_brace, y) ∷ [])) ++ k)) (omega arith) (refl, refl)
    ∙ at v ((close_brace, p) ∷ (finally_word, o) ∷ (open_brace, r) ∷ (w ++ (close_brace, y) ∷ [])) k (start (body (a_catch (stmts_in ss) n) [] ∷ f))
    ∙ complete _ _ _ _ _ q (a_catch (stmts_in ss) n) [] f ((close_brace, p) ∷ (finally_word, o) ∷ (open_brace, r) ∷ ((w ++ (close_brace, y) ∷ []) ++ k)) (omega arith) (refl, refl)
    ∙ at w ((close_brace, y) ∷ []) k (start (body (a_finally (stmts_in ss) (tree.some_handler n (stmts_of (stmts_in hs)))) [] ∷ f))
    ∙ complete _ _ _ _ _ z (a_finally (stmts_in ss) (tree.some_handler n (stmts_of (stmts_in hs)))) [] f ((close_brace, y) ∷ k) (omega arith) (refl, refl)
    ∙ ap (λ z. run k (ended (tree.try z (tree.some_handler n (stmts_of (stmts_in hs))) (tree.some_block (stmts_of (stmts_in ls)))) f)) (stmts_back ss)
    ∙ ap (λ z. run k (ended (tree.try ss (tree.some_handler n z) (tree.some_block (stmts_of (stmts_in ls)))) f)) (stmts_back hs)
    ∙ ap (λ z. run k (ended (tree.try ss (tree.some_handler n hs) (tree.some_block z)) f)) (stmts_back ls)
complete _ _ _ _ _ (s_no_stmts l) = λ o acc f k le n. ap (λ z. run k (start (body o z ∷ f))) (sym (append-nil acc))
complete _ _ _ _ _ (s_more_stmts l s ss u v h i) = λ o acc f k le n. at u v k (start (body o acc ∷ f))
    ∙ complete _ _ _ _ _ h (body o acc ∷ f) (v ++ k) (follows_any s (v ++ k) (first _ _ _ _ _ i k n))
    ∙ takes_statement o acc s f (v ++ k)
    ∙ complete _ _ _ _ _ i o (acc ++ s ∷ []) f k le n
    ∙ ap (λ z. run k (start (body o z ∷ f))) (append_assoc acc (s ∷ []) (stmts_in ss))
complete _ _ _ _ _ (s_declaration a m ps inner ss u v h i) = λ o acc f k le n. declared o acc f a ((u ++ v) ++ k) le ∙ at u v k (func true a (body o acc ∷ f))
    ∙ complete _ _ _ _ _ h true (body o acc ∷ f) (v ++ k) refl
    ∙ complete _ _ _ _ _ i o (acc ++ tree.declare (tree.fun (Some m) ps inner a) ∷ []) f k le n
    ∙ ap (λ z. run k (start (body o z ∷ f))) (append_assoc acc (tree.declare (tree.fun (Some m) ps inner a) ∷ []) (stmts_in ss))
complete _ _ _ _ _ (s_script ss u h) = ap (λ (v : List Spot). run v beginning) (sym (append-nil u)) ∙ complete _ _ _ _ _ h a_program [] [] [] (omega arith) tt ∙ ap (λ z. whole (tree.script z)) (stmts_back ss)
