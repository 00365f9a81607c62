-- Reading from left to right, a token at a time. A token is refused exactly where no program goes on with it.
use Rattle.std.specs.Prelude.{ℕ, List, [], ◌∷◌, ◌++◌, Bool, true, false, ◌&&◌, not, Option, Some, None, nat_le, if◌then◌else◌}
use Rattle.es3_tree.specs.Token.{Token, name, word, punct, num, text}
use Rattle.es3_tree.specs.Tree as t
use Rattle.es3_tree.specs.Placed as tree
use Rattle.es3_tree.specs.Placed.{Placed, Word}
use Rattle.es3_grammar.specs.Spots.{Spot, is, look_up, break_word, case_word, catch_word, continue_word, default_word, do_word, else_word, finally_word, for_word, function_word, if_word, in_word, return_word, switch_word, throw_word, try_word, var_word, while_word, with_word, open_brace, close_brace, open_paren, close_paren, open_bracket, close_bracket, point, semicolon, comma, colon, equals}
use Rattle.es3_grammar.specs.Levels.{E, own, joined, is_target, takes_left, Infix, joins, a_query, a_step, infix_of, Opening, a_this, a_null, a_bool, a_paren, an_object, a_prefix, a_prefix_step, openings}
use Rattle.es3_grammar.specs.Levels as l
use Rattle.es3_grammar.specs.Grammar.{S, ends_statement, placed_word, key_of, has_default}
use Rattle.es3_grammar.specs.Frames.{Field, Item, Clause, exprs_of, fields_of, stmts_of, items_of, cases_of, Opened, an_array, a_call, a_new, Head, head, Body, a_program, a_block, a_function, a_clause, a_try, a_catch, a_finally, Frame, paren, subscript, items, field, new_of, prefix_step, prefix, join, test, either, statement, value, if_test, while_test, do_test, for_first, for_test, for_step, for_object, giving, throwing, with_head, switch_head, case_test, then_of, else_of, while_body, do_body, for_body, in_body, with_body, label_of, body, Stack, State, want, have, past, listed, member, key, func, params, param, param_end, start, begun, ended, closing, item, item_end, for_open, for_second, for_third, returned, jumped, clauses, tried, caught, catch_name, await, asks, asked, no_in_here}

-- a state, where a test holds
abbrev pub when : Bool → State → Option State
when b s = if b then Some s else None

-- ---- an operand begins

abbrev pub opened : Stack → ℕ → Option Opening → Option State
opened k a None = None
opened k a (Some a_this) = Some (have (tree.this a) k)
opened k a (Some a_null) = Some (have tree.null k)
opened k a (Some (a_bool b)) = Some (have (tree.bool b) k)
opened k a (Some a_paren) = Some (want (paren ∷ k))
opened k a (Some l.an_array) = Some (listed an_array [] k)
opened k a (Some an_object) = Some (key [] k)
opened k a (Some l.a_function) = Some (func false a k)
opened k a (Some l.a_new) = Some (want (new_of ∷ k))
opened k a (Some (a_prefix op)) = when (nat_le (asked k) 13) (want (prefix op a ∷ k))
opened k a (Some (a_prefix_step up)) = when (nat_le (asked k) 13) (want (prefix_step up ∷ k))

abbrev pub operand : Stack → Spot → Option State
operand k (name us, a) = Some (have (tree.name (placed_word us a)) k)
operand k (num n, a) = Some (have (tree.num n) k)
operand k (text us, a) = Some (have (tree.text us) k)
operand k (word n, a) = opened k a (look_up openings (word n))
operand k (punct n, a) = opened k a (look_up openings (punct n))

-- ---- lists within brackets

abbrev pub closer : Opened → Token
closer an_array = close_bracket
closer (a_call x) = close_paren
closer (a_new x) = close_paren

abbrev pub closed_list : Opened → List E → E
closed_list an_array xs = tree.array (exprs_of xs)
closed_list (a_call x) xs = tree.call x (exprs_of xs)
closed_list (a_new x) xs = tree.new x (exprs_of xs)

-- behind a comma: an array may end there
abbrev pub behind_comma : Opened → List E → Stack → State
behind_comma an_array xs k = listed an_array xs k
behind_comma (a_call x) xs k = want (items (a_call x) xs ∷ k)
behind_comma (a_new x) xs k = want (items (a_new x) xs ∷ k)

abbrev pub after_expr : Opened → List E → Stack → Spot → Option State
after_expr o xs k c = if is comma c then Some (behind_comma o xs k) else when (is (closer o) c) (have (closed_list o xs) k)

abbrev pub open_step : Opened → List E → Stack → Spot → Option State
open_step o xs k c = if is (closer o) c then Some (have (closed_list o xs) k) else operand (items o xs ∷ k) c

abbrev pub none_yet : List Field → Bool
none_yet [] = true
none_yet (f ∷ fs) = false

abbrev pub keyed : List Field → Stack → Option Word → Option State
keyed fs k None = None
keyed fs k (Some n) = Some (await (colon ∷ []) (want (field fs n ∷ k)))

abbrev pub key_step : List Field → Stack → Spot → Option State
key_step fs k c = if is close_brace c then when (none_yet fs) (have (tree.object tree.no_fields) k) else keyed fs k (key_of c)

abbrev pub after_field : List Field → Stack → Spot → Option State
after_field fs k c = if is comma c then Some (key fs k) else when (is close_brace c) (have (tree.object (fields_of fs)) k)

-- ---- functions (13)

-- a declaration has a name
abbrev pub func_step : Bool → ℕ → Stack → Spot → Option State
func_step d a k (name us, b) = Some (await (open_paren ∷ []) (params (head d (Some (placed_word us b)) a) k))
func_step d a k c = when (not d && is open_paren c) (params (head d None a) k)

abbrev pub bodied : Head → List Word → Stack → State
bodied h ps k = await (open_brace ∷ []) (start (body (a_function h ps) [] ∷ k))

abbrev pub params_step : Head → Stack → Spot → Option State
params_step h k (name us, b) = Some (param_end h (placed_word us b ∷ []) k)
params_step h k c = when (is close_paren c) (bodied h [] k)

abbrev pub param_step : Head → List Word → Stack → Spot → Option State
param_step h ps k (name us, b) = Some (param_end h (ps ++ placed_word us b ∷ []) k)
param_step h ps k c = None

abbrev pub param_end_step : Head → List Word → Stack → Spot → Option State
param_end_step h ps k c = if is comma c then Some (param h ps k) else when (is close_paren c) (bodied h ps k)

abbrev pub func_of : Head → List Word → List S → Placed t.func
func_of h ps ss = tree.fun h.called ps (stmts_of ss) h.begins

-- a declaration is one more statement of its list
abbrev pub func_made : Bool → Placed t.func → Stack → State
func_made false f k = have (tree.function f) k
func_made true f (body b ss ∷ k) = start (body b (ss ++ tree.declare f ∷ []) ∷ k)
func_made true f k = start k

-- ---- behind an expression

abbrev pub infix_own : Infix → ℕ
infix_own (joins j) = own j
infix_own a_query = 2
infix_own (a_step up) = 14

-- the operator belongs within the frame
abbrev pub binds : Option Infix → Frame → Bool
binds None f = false
binds (Some i) f = nat_le (asks f) (infix_own i)

abbrev pub shifted : Option Infix → E → Stack → Option State
shifted None x k = None
shifted (Some (joins j)) x k = when (takes_left j x) (want (join j x ∷ k))
shifted (Some a_query) x k = Some (want (test x ∷ k))
shifted (Some (a_step up)) x k = when (is_target x) (past (tree.step up false x) k)

-- what a frame makes of the part within it, where it waits for nothing else
abbrev pub filled : Frame → E → Option E
filled new_of x = Some (tree.new x tree.no_exprs)
filled (prefix_step up) x = if is_target x then Some (tree.step up true x) else None
filled (prefix op a) x = Some (tree.unary op x a)
filled (join j y) x = Some (joined j y x)
filled (either y z) x = Some (tree.choice y z x)
filled _ x = None

-- behind a `var` item
abbrev pub after_item : Bool → List Item → Stack → Spot → Option State
after_item h its k c =
    if is comma c then Some (item h its k)
    else if h then when (is semicolon c) (for_second (tree.first_var (items_of its)) k)
    else when (ends_statement c) (ended (tree.var (items_of its)) k)

-- a place that a token of its own closes
abbrev pub closes : Frame → E → Stack → Spot → Option State
closes paren x k c = when (is close_paren c) (have x k)
closes (subscript y) x k c = when (is close_bracket c) (have (tree.index y x) k)
closes (items o xs) x k c = after_expr o (xs ++ x ∷ []) k c
closes (field fs n) x k c = after_field (fs ++ (n, x) ∷ []) k c
closes (test y) x k c = when (is colon c) (want (either y x ∷ k))
closes statement x k c = when (ends_statement c) (ended (tree.expression x) k)
closes (value h n its) x k c = after_item h (its ++ (n, tree.some_expr x) ∷ []) k c
closes if_test x k c = when (is close_paren c) (start (then_of x ∷ k))
closes while_test x k c = when (is close_paren c) (start (while_body x ∷ k))
closes (do_test s) x k c = when (is close_paren c) (closing (tree.do_loop s x) k)
closes for_first x k c =
    if is in_word c then when (is_target x) (want (for_object (tree.loop_expr x) ∷ k))
    else when (is semicolon c) (for_second (tree.first_expr x) k)
closes (for_test r) x k c = when (is semicolon c) (for_third r (tree.some_expr x) k)
closes (for_step r m) x k c = when (is close_paren c) (start (for_body r m (tree.some_expr x) ∷ k))
closes (for_object r) x k c = when (is close_paren c) (start (in_body r x ∷ k))
closes (giving a) x k c = when (ends_statement c) (ended (tree.return (tree.some_expr x) a) k)
closes throwing x k c = when (ends_statement c) (ended (tree.throw x) k)
closes (with_head a) x k c = when (is close_paren c) (start (with_body x a ∷ k))
closes switch_head x k c = when (is close_paren c) (await (open_brace ∷ []) (clauses x k))
closes (case_test y cs) x k c = when (is colon c) (start (body (a_clause y cs (tree.some_expr x)) [] ∷ k))
closes _ x k c = None

-- a part is whole, at a token: the operator belongs within the innermost frame, or that frame is filled, or the token closes it
unfoldable pub settle : Bool → Stack → E → Spot → Option State
settle b [] x c = shifted (infix_of b c.0) x []
settle b (f ∷ k) x c =
    if binds (infix_of b c.0) f then shifted (infix_of b c.0) x (f ∷ k)
    else elim (filled f x) [ Some y ↦ settle b k y c | None ↦ closes f x k c ]

abbrev pub past_step : E → Stack → Spot → Option State
past_step x k c = settle (no_in_here k) k x c

-- the arguments of the innermost `new`, or of a call
abbrev pub arguments : E → Stack → State
arguments x (new_of ∷ k) = listed (a_new x) [] k
arguments x k = listed (a_call x) [] k

abbrev pub have_step : E → Stack → Spot → Option State
have_step x k c =
    if is point c then Some (member x k)
    else if is open_bracket c then Some (want (subscript x ∷ k))
    else if is open_paren c then Some (arguments x k)
    else past_step x k c

abbrev pub member_step : E → Stack → Spot → Option State
member_step x k (name us, a) = Some (have (tree.dot x (placed_word us a)) k)
member_step x k c = None

-- ---- a statement begins, or a list of statements ends

-- function declarations may stand in it
abbrev pub holds : Body → Bool
holds a_program = true
holds (a_function h ps) = true
holds b = false

abbrev pub declares : Stack → Bool
declares (body b ss ∷ k) = holds b
declares k = false

abbrev pub cases_closed : E → List Clause → Stack → State
cases_closed x cs k = ended (tree.switch x (cases_of cs)) k

-- 12.11: a clause, or the end of the `switch`; there is one `default` at most
abbrev pub clause_step : E → List Clause → Stack → Spot → Option State
clause_step x cs k c =
    if is case_word c then Some (want (case_test x cs ∷ k))
    else if is default_word c then when (not (has_default (cases_of cs))) (await (colon ∷ []) (start (body (a_clause x cs tree.no_expr) [] ∷ k)))
    else when (is close_brace c) (cases_closed x cs k)

abbrev pub body_closed : Body → List S → Stack → Option State
body_closed a_program ss k = None
body_closed a_block ss k = Some (ended (tree.block (stmts_of ss)) k)
body_closed (a_function h ps) ss k = Some (func_made h.declared (func_of h ps ss) k)
body_closed (a_clause x cs m) ss k = Some (cases_closed x (cs ++ (m, ss) ∷ []) k)
body_closed a_try ss k = Some (tried ss k)
body_closed (a_catch rs n) ss k = Some (caught rs n ss k)
body_closed (a_finally rs h) ss k = Some (ended (tree.try (stmts_of rs) h (tree.some_block (stmts_of ss))) k)

abbrev pub list_closed : Stack → Option State
list_closed (body b ss ∷ k) = body_closed b ss k
list_closed k = None

-- `case` and `default` in the list of a clause
abbrev pub next_clause : Stack → Spot → Option State
next_clause (body (a_clause x cs m) ss ∷ k) c = clause_step x (cs ++ (m, ss) ∷ []) k c
next_clause k c = None

-- what a word or a punctuator is where a statement is wanted
pub data Begin : Type 0 where
  a_block_begins : Begin
  a_list_ends : Begin
  an_empty : Begin
  a_break : Bool → Begin
  a_next_clause : Begin
  a_do : Begin
  a_for : Begin
  a_declaration : Begin
  an_if : Begin
  a_return : Begin
  a_switch : Begin
  a_throw : Begin
  a_try_begins : Begin
  a_var : Begin
  a_while : Begin
  a_with : Begin

abbrev pub begins : List (Token × Begin)
begins =
    (open_brace, a_block_begins) ∷ (close_brace, a_list_ends) ∷ (semicolon, an_empty) ∷ (break_word, a_break true) ∷ (continue_word, a_break false)
    ∷ (case_word, a_next_clause) ∷ (default_word, a_next_clause) ∷ (do_word, a_do) ∷ (for_word, a_for) ∷ (function_word, a_declaration)
    ∷ (if_word, an_if) ∷ (return_word, a_return) ∷ (switch_word, a_switch) ∷ (throw_word, a_throw) ∷ (try_word, a_try_begins)
    ∷ (var_word, a_var) ∷ (while_word, a_while) ∷ (with_word, a_with) ∷ []

-- an expression in parentheses behind a word
abbrev pub headed : Frame → Stack → Option State
headed f k = Some (await (open_paren ∷ []) (want (f ∷ k)))

abbrev pub begin_by : Stack → Spot → Option Begin → Option State
begin_by k c None = operand (statement ∷ k) c
begin_by k c (Some a_block_begins) = Some (start (body a_block [] ∷ k))
begin_by k c (Some a_list_ends) = list_closed k
begin_by k c (Some an_empty) = Some (ended tree.empty k)
begin_by k c (Some (a_break b)) = Some (jumped b c.1 k)
begin_by k c (Some a_next_clause) = next_clause k c
begin_by k c (Some a_do) = Some (start (do_body ∷ k))
begin_by k c (Some a_for) = Some (await (open_paren ∷ []) (for_open k))
begin_by k c (Some a_declaration) = when (declares k) (func true c.1 k)
begin_by k c (Some an_if) = headed if_test k
begin_by k c (Some a_return) = Some (returned c.1 k)
begin_by k c (Some a_switch) = headed switch_head k
begin_by k c (Some a_throw) = Some (want (throwing ∷ k))
begin_by k c (Some a_try_begins) = Some (await (open_brace ∷ []) (start (body a_try [] ∷ k)))
begin_by k c (Some a_var) = Some (item false [] k)
begin_by k c (Some a_while) = headed while_test k
begin_by k c (Some a_with) = headed (with_head c.1) k

abbrev pub begin : Stack → Spot → Option State
begin k (name us, a) = Some (begun (placed_word us a) k)
begin k c = begin_by k c (look_up begins c.0)

-- 12.12: a name and a colon are a label
abbrev pub begun_step : Word → Stack → Spot → Option State
begun_step n k c = if is colon c then Some (start (label_of n ∷ k)) else have_step (tree.name n) (statement ∷ k) c

-- a statement is whole, at a token: an `else` belongs to the innermost `if`
unfoldable pub resume : Stack → S → Spot → Option State
resume (then_of x ∷ k) s c = if is else_word c then Some (start (else_of x s ∷ k)) else resume k (tree.branch x s tree.no_stmt) c
resume (else_of x r ∷ k) s c = resume k (tree.branch x r (tree.some_stmt s)) c
resume (while_body x ∷ k) s c = resume k (tree.while_loop x s) c
resume (do_body ∷ k) s c = when (is while_word c) (await (open_paren ∷ []) (want (do_test s ∷ k)))
resume (for_body r m n ∷ k) s c = resume k (tree.for_loop r m n s) c
resume (in_body r x ∷ k) s c = resume k (tree.for_in r x s) c
resume (with_body x a ∷ k) s c = resume k (tree.with_object x s a) c
resume (label_of n ∷ k) s c = resume k (tree.label n s) c
resume (body b ss ∷ k) s c = begin (body b (ss ++ s ∷ []) ∷ k) c
resume _ s c = None

-- ---- the parts of statements

abbrev pub item_step : Bool → List Item → Stack → Spot → Option State
item_step h its k (name us, a) = Some (item_end h (placed_word us a) its k)
item_step h its k c = None

abbrev pub first_item : List Item → Bool
first_item [] = true
first_item (i ∷ its) = false

abbrev pub item_end_step : Bool → Word → List Item → Stack → Spot → Option State
item_end_step h n its k c =
    if is equals c then Some (want (value h n its ∷ k))
    else if h && first_item its && is in_word c then Some (want (for_object (tree.loop_var n) ∷ k))
    else after_item h (its ++ (n, tree.no_expr) ∷ []) k c

abbrev pub for_open_step : Stack → Spot → Option State
for_open_step k c = if is var_word c then Some (item true [] k) else if is semicolon c then Some (for_second tree.no_first k) else operand (for_first ∷ k) c

abbrev pub for_second_step : Placed t.first → Stack → Spot → Option State
for_second_step r k c = if is semicolon c then Some (for_third r tree.no_expr k) else operand (for_test r ∷ k) c

abbrev pub for_third_step : Placed t.first → Placed t.maybe_expr → Stack → Spot → Option State
for_third_step r m k c = if is close_paren c then Some (start (for_body r m tree.no_expr ∷ k)) else operand (for_step r m ∷ k) c

abbrev pub returned_step : ℕ → Stack → Spot → Option State
returned_step a k c = if ends_statement c then Some (ended (tree.return tree.no_expr a) k) else operand (giving a ∷ k) c

abbrev pub jump : Bool → Option Word → ℕ → S
jump true n a = tree.break n a
jump false n a = tree.continue n a

abbrev pub jumped_step : Bool → ℕ → Stack → Spot → Option State
jumped_step b a k (name us, d) = Some (closing (jump b (Some (placed_word us d)) a) k)
jumped_step b a k c = when (ends_statement c) (ended (jump b None a) k)

abbrev pub finally_begins : List S → Placed t.handler → Stack → State
finally_begins ss h k = await (open_brace ∷ []) (start (body (a_finally ss h) [] ∷ k))

abbrev pub tried_step : List S → Stack → Spot → Option State
tried_step ss k c =
    if is catch_word c then Some (await (open_paren ∷ []) (catch_name ss k))
    else when (is finally_word c) (finally_begins ss tree.no_handler k)

abbrev pub catch_name_step : List S → Stack → Spot → Option State
catch_name_step ss k (name us, a) = Some (await (close_paren ∷ open_brace ∷ []) (start (body (a_catch ss (placed_word us a)) [] ∷ k)))
catch_name_step ss k c = None

abbrev pub caught_made : List S → Word → List S → S
caught_made ss n hs = tree.try (stmts_of ss) (tree.some_handler n (stmts_of hs)) tree.no_block

abbrev pub caught_step : List S → Word → List S → Stack → Spot → Option State
caught_step ss n hs k c = if is finally_word c then Some (finally_begins ss (tree.some_handler n (stmts_of hs)) k) else resume k (caught_made ss n hs) c

abbrev pub awaited : List Token → State → State
awaited [] s = s
awaited (d ∷ ds) s = await (d ∷ ds) s

abbrev pub await_step : List Token → State → Spot → Option State
await_step [] s c = None
await_step (d ∷ ds) s c = when (is d c) (awaited ds s)

-- ---- all of it

unfoldable pub step : State → Spot → Option State
step (want k) c = operand k c
step (have x k) c = have_step x k c
step (past x k) c = past_step x k c
step (listed o xs k) c = open_step o xs k c
step (member x k) c = member_step x k c
step (key fs k) c = key_step fs k c
step (func d a k) c = func_step d a k c
step (params h k) c = params_step h k c
step (param h ps k) c = param_step h ps k c
step (param_end h ps k) c = param_end_step h ps k c
step (start k) c = begin k c
step (begun n k) c = begun_step n k c
step (ended s k) c = resume k s c
step (closing s k) c = when (ends_statement c) (ended s k)
step (item h its k) c = item_step h its k c
step (item_end h n its k) c = item_end_step h n its k c
step (for_open k) c = for_open_step k c
step (for_second r k) c = for_second_step r k c
step (for_third r m k) c = for_third_step r m k c
step (returned a k) c = returned_step a k c
step (jumped b a k) c = jumped_step b a k c
step (clauses x k) c = clause_step x [] k c
step (tried ss k) c = tried_step ss k c
step (caught ss n hs k) c = caught_step ss n hs k c
step (catch_name ss k) c = catch_name_step ss k c
step (await ds s) c = await_step ds s c

-- what is read: a whole program, a whole expression where nothing is open round it, a part, or tokens up to one that is refused
pub data Answer : Type 0 where
  whole : Placed t.program → Answer
  phrase : E → Answer
  part : Answer
  stopped : List Spot → Answer

-- a statement is whole at the end of the tokens
unfoldable pub all_of : Stack → S → Answer
all_of (then_of x ∷ k) s = all_of k (tree.branch x s tree.no_stmt)
all_of (else_of x r ∷ k) s = all_of k (tree.branch x r (tree.some_stmt s))
all_of (while_body x ∷ k) s = all_of k (tree.while_loop x s)
all_of (for_body r m n ∷ k) s = all_of k (tree.for_loop r m n s)
all_of (in_body r x ∷ k) s = all_of k (tree.for_in r x s)
all_of (with_body x a ∷ k) s = all_of k (tree.with_object x s a)
all_of (label_of n ∷ k) s = all_of k (tree.label n s)
all_of (body a_program ss ∷ []) s = whole (tree.script (stmts_of (ss ++ s ∷ [])))
all_of _ s = part

-- a part is whole at the end of the tokens
unfoldable pub finished : Stack → E → Answer
finished [] x = phrase x
finished (f ∷ k) x = elim (filled f x) [ Some y ↦ finished k y | None ↦ part ]

abbrev pub program_at : Stack → Answer
program_at (body a_program ss ∷ []) = whole (tree.script (stmts_of ss))
program_at k = part

abbrev pub ending : State → Answer
ending (start k) = program_at k
ending (ended s k) = all_of k s
ending (have x k) = finished k x
ending (past x k) = finished k x
ending (caught ss n hs k) = all_of k (caught_made ss n hs)
ending s = part

abbrev pub goes : (State → Answer) → List Spot → Option State → Answer
goes f k None = stopped k
goes f k (Some s) = f s

unfoldable pub run : List Spot → State → Answer
run [] s = ending s
run (c ∷ k) s = goes (run k) (c ∷ k) (step s c)

abbrev pub beginning : State
beginning = start (body a_program [] ∷ [])

-- the program that the tokens are
abbrev pub read : List Spot → Answer
read ts = run ts beginning

-- the expression that the tokens are
abbrev pub read_phrase : List Spot → Answer
read_phrase ts = run ts (want [])
