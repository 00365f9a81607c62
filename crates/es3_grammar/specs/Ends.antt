-- The shortest end of a text from each state of the machine, and how deep the tree is that it makes. All tokens of an end are at the byte 0.
use Rattle.std.specs.Prelude.{ℕ, ◌+◌, max, Bool, true, false, List, [], ◌∷◌, ◌++◌, map, if◌then◌else◌}
use Rattle.es3_tree.specs.Token.{Token, name}
use Rattle.es3_tree.specs.Tree as t
use Rattle.es3_grammar.specs.Spots.{Spot, finally_word, while_word, open_brace, close_brace, open_paren, close_paren, close_bracket, point, semicolon, colon}
use Rattle.es3_grammar.specs.Levels.{is_target}
use Rattle.es3_grammar.specs.Plain.{deep}
use Rattle.es3_grammar.specs.Frames.{Field, Item, exprs_of, fields_of, stmts_of, items_of, cases_of, an_array, a_call, a_new, a_program, a_block, a_function, a_clause, a_try, a_catch, a_finally, paren, subscript, items, field, new_of, prefix_step, prefix, join, test, either, statement, value, if_test, while_test, do_test, for_first, for_test, for_step, for_object, giving, throwing, with_head, switch_head, case_test, then_of, else_of, while_body, do_body, for_body, in_body, with_body, label_of, body, Stack, State, want, have, past, listed, member, key, func, params, param, param_end, start, begun, ended, closing, item, item_end, for_open, for_second, for_third, returned, jumped, clauses, tried, caught, catch_name, await}
use Rattle.es3_grammar.specs.Machine.{closer, closed_list}

abbrev pub spot : Token → Spot
spot d = (d, 0)

abbrev pub a_name : List ℕ
a_name = 97 ∷ []

abbrev pub letter : Spot
letter = (name a_name, 0)

-- what a prefix `++` or `--` waits for, behind a target or not: a member
abbrev pub close_step : Bool → List Spot → List Spot
close_step true k = k
close_step false k = spot point ∷ letter ∷ k

abbrev pub close_value : Bool → List Spot → List Spot
close_value true k = spot semicolon ∷ spot semicolon ∷ spot close_paren ∷ spot semicolon ∷ k
close_value false k = spot semicolon ∷ k

-- only a member of what `new` makes can be a target
abbrev pub stepped : Stack → Bool
stepped (prefix_step up ∷ f) = true
stepped (new_of ∷ f) = stepped f
stepped _ = false

abbrev pub close_new : Bool → List Spot → List Spot
close_new true k = spot open_paren ∷ spot close_paren ∷ k
close_new false k = k

-- behind an expression, which is a target or not, and behind a statement
abbrev mutual
  pub close : Bool → Stack → List Spot
  close b [] = []
  close b (paren ∷ f) = spot close_paren ∷ close b f
  close b (subscript x ∷ f) = spot close_bracket ∷ close true f
  close b (items o xs ∷ f) = spot (closer o) ∷ close false f
  close b (field fs n ∷ f) = spot close_brace ∷ close false f
  close b (new_of ∷ f) = close_new (stepped f) (close false f)
  close b (prefix_step up ∷ f) = close_step b (close false f)
  close b (prefix op a ∷ f) = close false f
  close b (join j x ∷ f) = close false f
  close b (test x ∷ f) = spot colon ∷ letter ∷ close false f
  close b (either x y ∷ f) = close false f
  close b (statement ∷ f) = spot semicolon ∷ close_statement f
  close b (value h n its ∷ f) = close_value h (close_statement f)
  close b (if_test ∷ f) = spot close_paren ∷ spot semicolon ∷ close_statement f
  close b (while_test ∷ f) = spot close_paren ∷ spot semicolon ∷ close_statement f
  close b (do_test s ∷ f) = spot close_paren ∷ spot semicolon ∷ close_statement f
  close b (for_first ∷ f) = spot semicolon ∷ spot semicolon ∷ spot close_paren ∷ spot semicolon ∷ close_statement f
  close b (for_test r ∷ f) = spot semicolon ∷ spot close_paren ∷ spot semicolon ∷ close_statement f
  close b (for_step r m ∷ f) = spot close_paren ∷ spot semicolon ∷ close_statement f
  close b (for_object r ∷ f) = spot close_paren ∷ spot semicolon ∷ close_statement f
  close b (giving a ∷ f) = spot semicolon ∷ close_statement f
  close b (throwing ∷ f) = spot semicolon ∷ close_statement f
  close b (with_head a ∷ f) = spot close_paren ∷ spot semicolon ∷ close_statement f
  close b (switch_head ∷ f) = spot close_paren ∷ spot open_brace ∷ spot close_brace ∷ close_statement f
  close b (case_test x cs ∷ f) = spot colon ∷ spot close_brace ∷ close_statement f
  close b (_ ∷ f) = []

  pub close_statement : Stack → List Spot
  close_statement (then_of x ∷ f) = close_statement f
  close_statement (else_of x s ∷ f) = close_statement f
  close_statement (while_body x ∷ f) = close_statement f
  close_statement (do_body ∷ f) = spot while_word ∷ spot open_paren ∷ letter ∷ spot close_paren ∷ spot semicolon ∷ close_statement f
  close_statement (for_body r m n ∷ f) = close_statement f
  close_statement (in_body r x ∷ f) = close_statement f
  close_statement (with_body x a ∷ f) = close_statement f
  close_statement (label_of n ∷ f) = close_statement f
  close_statement (body a_program ss ∷ f) = []
  close_statement (body a_block ss ∷ f) = spot close_brace ∷ close_statement f
  close_statement (body (a_function h ps) ss ∷ f) = spot close_brace ∷ (if h.declared then close_statement f else close false f)
  close_statement (body (a_clause x cs m) ss ∷ f) = spot close_brace ∷ close_statement f
  close_statement (body a_try ss ∷ f) = spot close_brace ∷ spot finally_word ∷ spot open_brace ∷ spot close_brace ∷ close_statement f
  close_statement (body (a_catch rs n) ss ∷ f) = spot close_brace ∷ close_statement f
  close_statement (body (a_finally rs h) ss ∷ f) = spot close_brace ∷ close_statement f
  close_statement _ = []

abbrev pub close_func : Bool → Stack → List Spot
close_func d f = if d then close_statement f else close false f

-- where a statement may begin: a list of statements needs none
abbrev pub close_start : Stack → List Spot
close_start (body o ss ∷ f) = close_statement (body o ss ∷ f)
close_start f = spot semicolon ∷ close_statement f

abbrev pub close_key : List Field → List Spot → List Spot
close_key [] k = spot close_brace ∷ k
close_key (x ∷ xs) k = letter ∷ spot colon ∷ letter ∷ spot close_brace ∷ k

abbrev pub tail : State → List Spot
tail (want f) = letter ∷ close true f
tail (have x f) = close (is_target x) f
tail (past x f) = close (is_target x) f
tail (listed o xs f) = spot (closer o) ∷ close false f
tail (member x f) = letter ∷ close true f
tail (key fs f) = close_key fs (close false f)
tail (func d a f) = letter ∷ spot open_paren ∷ spot close_paren ∷ spot open_brace ∷ spot close_brace ∷ close_func d f
tail (params h f) = spot close_paren ∷ spot open_brace ∷ spot close_brace ∷ close_func h.declared f
tail (param h ps f) = letter ∷ spot close_paren ∷ spot open_brace ∷ spot close_brace ∷ close_func h.declared f
tail (param_end h ps f) = spot close_paren ∷ spot open_brace ∷ spot close_brace ∷ close_func h.declared f
tail (start f) = close_start f
tail (begun n f) = spot semicolon ∷ close_statement f
tail (ended s f) = close_statement f
tail (closing s f) = spot semicolon ∷ close_statement f
tail (item h its f) = letter ∷ close_value h (close_statement f)
tail (item_end h n its f) = close_value h (close_statement f)
tail (for_open f) = spot semicolon ∷ spot semicolon ∷ spot close_paren ∷ spot semicolon ∷ close_statement f
tail (for_second r f) = spot semicolon ∷ spot close_paren ∷ spot semicolon ∷ close_statement f
tail (for_third r m f) = spot close_paren ∷ spot semicolon ∷ close_statement f
tail (returned a f) = spot semicolon ∷ close_statement f
tail (jumped b a f) = spot semicolon ∷ close_statement f
tail (clauses x f) = spot close_brace ∷ close_statement f
tail (tried ss f) = spot finally_word ∷ spot open_brace ∷ spot close_brace ∷ close_statement f
tail (caught ss n hs f) = close_statement f
tail (catch_name ss f) = letter ∷ spot close_paren ∷ spot open_brace ∷ spot close_brace ∷ close_statement f
tail (await ds s) = map spot ds ++ tail s

-- ---- how deep the tree is that the shortest end makes of a part, which is a target or not, and of a statement

abbrev pub stepping : Bool → ℕ → ℕ
stepping true h = h
stepping false h = 1 + h

abbrev mutual
  pub height_at : Bool → Stack → ℕ → ℕ
  height_at b [] h = h
  height_at b (paren ∷ f) h = height_at b f h
  height_at b (subscript x ∷ f) h = height_at true f (1 + max (deep t.expr x) h)
  height_at b (items an_array xs ∷ f) h = height_at false f (1 + max (deep t.exprs (exprs_of xs)) h)
  height_at b (items (a_call x) xs ∷ f) h = height_at false f (1 + max (deep t.expr x) (max (deep t.exprs (exprs_of xs)) h))
  height_at b (items (a_new x) xs ∷ f) h = height_at false f (1 + max (deep t.expr x) (max (deep t.exprs (exprs_of xs)) h))
  height_at b (field fs n ∷ f) h = height_at false f (1 + max (deep t.fields (fields_of fs)) h)
  height_at b (new_of ∷ f) h = height_at false f (1 + h)
  height_at b (prefix_step up ∷ f) h = height_at false f (1 + stepping b h)
  height_at b (prefix op a ∷ f) h = height_at false f (1 + h)
  height_at b (join j x ∷ f) h = height_at false f (1 + max (deep t.expr x) h)
  height_at b (test x ∷ f) h = height_at false f (1 + max (deep t.expr x) (max h 1))
  height_at b (either x y ∷ f) h = height_at false f (1 + max (deep t.expr x) (max (deep t.expr y) h))
  height_at b (statement ∷ f) h = height_behind f (1 + h)
  height_at b (value true n its ∷ f) h = height_behind f (1 + max (max (deep t.items (items_of its)) h) 1)
  height_at b (value false n its ∷ f) h = height_behind f (1 + max (deep t.items (items_of its)) h)
  height_at b (if_test ∷ f) h = height_behind f (1 + max h 1)
  height_at b (while_test ∷ f) h = height_behind f (1 + max h 1)
  height_at b (do_test s ∷ f) h = height_behind f (1 + max (deep t.stmt s) h)
  height_at b (for_first ∷ f) h = height_behind f (1 + max h 1)
  height_at b (for_test r ∷ f) h = height_behind f (1 + max (deep t.first r) (max h 1))
  height_at b (for_step r m ∷ f) h = height_behind f (1 + max (deep t.first r) (max (deep t.maybe_expr m) (max h 1)))
  height_at b (for_object r ∷ f) h = height_behind f (1 + max (deep t.loop_target r) (max h 1))
  height_at b (giving a ∷ f) h = height_behind f (1 + h)
  height_at b (throwing ∷ f) h = height_behind f (1 + h)
  height_at b (with_head a ∷ f) h = height_behind f (1 + max h 1)
  height_at b (switch_head ∷ f) h = height_behind f (1 + h)
  height_at b (case_test x cs ∷ f) h = height_behind f (1 + max (deep t.expr x) (max (deep t.cases (cases_of cs)) h))
  height_at b (_ ∷ f) h = h

  pub height_behind : Stack → ℕ → ℕ
  height_behind (then_of x ∷ f) h = height_behind f (1 + max (deep t.expr x) h)
  height_behind (else_of x s ∷ f) h = height_behind f (1 + max (deep t.expr x) (max (deep t.stmt s) h))
  height_behind (while_body x ∷ f) h = height_behind f (1 + max (deep t.expr x) h)
  height_behind (do_body ∷ f) h = height_behind f (1 + max h 1)
  height_behind (for_body r m n ∷ f) h = height_behind f (1 + max (deep t.first r) (max (deep t.maybe_expr m) (max (deep t.maybe_expr n) h)))
  height_behind (in_body r x ∷ f) h = height_behind f (1 + max (deep t.loop_target r) (max (deep t.expr x) h))
  height_behind (with_body x a ∷ f) h = height_behind f (1 + max (deep t.expr x) h)
  height_behind (label_of n ∷ f) h = height_behind f (1 + h)
  height_behind (body a_program ss ∷ f) h = max (deep t.stmts (stmts_of ss)) h
  height_behind (body a_block ss ∷ f) h = height_behind f (1 + max (deep t.stmts (stmts_of ss)) h)
  height_behind (body (a_function k ps) ss ∷ f) h = if k.declared then height_behind f (2 + max (deep t.stmts (stmts_of ss)) h) else height_at false f (2 + max (deep t.stmts (stmts_of ss)) h)
  height_behind (body (a_clause x cs m) ss ∷ f) h = height_behind f (1 + max (deep t.expr x) (max (deep t.cases (cases_of cs)) (max (deep t.maybe_expr m) (max (deep t.stmts (stmts_of ss)) h))))
  height_behind (body a_try ss ∷ f) h = height_behind f (1 + max (deep t.stmts (stmts_of ss)) h)
  height_behind (body (a_catch rs n) ss ∷ f) h = height_behind f (1 + max (deep t.stmts (stmts_of rs)) (max (deep t.stmts (stmts_of ss)) h))
  height_behind (body (a_finally rs k) ss ∷ f) h = height_behind f (1 + max (deep t.stmts (stmts_of rs)) (max (deep t.handler k) (max (deep t.stmts (stmts_of ss)) h)))
  height_behind _ h = h

abbrev pub height_func : Bool → Stack → ℕ
height_func d f = if d then height_behind f 2 else height_at false f 2

abbrev pub height_start : Stack → ℕ
height_start (body o ss ∷ f) = height_behind (body o ss ∷ f) 0
height_start f = height_behind f 1

abbrev pub height_key : List Field → ℕ
height_key [] = 1
height_key (x ∷ xs) = 1 + max (deep t.fields (fields_of (x ∷ xs))) 1

abbrev pub height_items : Bool → List Item → ℕ
height_items true its = 1 + max (deep t.items (items_of its)) 1
height_items false its = 1 + deep t.items (items_of its)

abbrev pub height : State → ℕ
height (want f) = height_at true f 1
height (have x f) = height_at (is_target x) f (deep t.expr x)
height (past x f) = height_at (is_target x) f (deep t.expr x)
height (listed o xs f) = height_at false f (deep t.expr (closed_list o xs))
height (member x f) = height_at true f (1 + deep t.expr x)
height (key fs f) = height_at false f (height_key fs)
height (func d a f) = height_func d f
height (params h f) = height_func h.declared f
height (param h ps f) = height_func h.declared f
height (param_end h ps f) = height_func h.declared f
height (start f) = height_start f
height (begun n f) = height_behind f 2
height (ended s f) = height_behind f (deep t.stmt s)
height (closing s f) = height_behind f (deep t.stmt s)
height (item h its f) = height_behind f (height_items h its)
height (item_end h n its f) = height_behind f (height_items h its)
height (for_open f) = height_behind f 2
height (for_second r f) = height_behind f (1 + max (deep t.first r) 1)
height (for_third r m f) = height_behind f (1 + max (deep t.first r) (max (deep t.maybe_expr m) 1))
height (returned a f) = height_behind f 1
height (jumped b a f) = height_behind f 1
height (clauses x f) = height_behind f (1 + deep t.expr x)
height (tried ss f) = height_behind f (1 + deep t.stmts (stmts_of ss))
height (caught ss n hs f) = height_behind f (1 + max (deep t.stmts (stmts_of ss)) (deep t.stmts (stmts_of hs)))
height (catch_name ss f) = height_behind f (1 + deep t.stmts (stmts_of ss))
height (await ds s) = height s
