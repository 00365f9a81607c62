-- What the tokens so far are, for each state of the machine.
use Rattle.std.proofs.Common.{◌≡◌, ℕ, ◌≤◌, Bool, true, false, List, [], ◌∷◌, ◌++◌, Option, Some, None, map}
use Rattle.es3_tree.specs.Token.{Token}
use Rattle.es3_tree.specs.Tree as t
use Rattle.es3_tree.specs.Placed as tree
use Rattle.es3_tree.specs.Placed.{Placed, Word}
use Rattle.es3_grammar.specs.Spots.{Spot, break_word, case_word, catch_word, continue_word, do_word, else_word, finally_word, for_word, function_word, if_word, in_word, new_word, return_word, switch_word, throw_word, try_word, var_word, while_word, with_word, open_brace, close_brace, open_paren, close_paren, open_bracket, point, semicolon, comma, colon, query, equals}
use Rattle.es3_grammar.specs.Levels.{E, own, left, joins, infix_of, takes_left, is_target, unary_sign, step_sign}
use Rattle.es3_grammar.specs.Grammar.{S, Bars, free, no_in, no_call, bars_in, bars_call, is_open, ends_statement, named, naming, key_of, one_default, has_default, BeginsPlain, Names, Spells}
use Rattle.es3_grammar.specs.Frames.{Item, Clause, stmts_of, cases_of, Opened, an_array, a_call, a_new, Head, Body, a_program, a_block, a_function, a_clause, a_try, a_catch, a_finally, Frame, paren, subscript, items, field, new_of, prefix_step, prefix, join, test, either, statement, value, if_test, while_test, do_test, for_first, for_test, for_step, for_object, giving, throwing, with_head, switch_head, case_test, then_of, else_of, while_body, do_body, for_body, in_body, with_body, label_of, body, Stack, State, want, have, past, listed, member, key, func, params, param, param_end, start, begun, ended, closing, item, item_end, for_open, for_second, for_third, returned, jumped, clauses, tried, caught, catch_name, await, asked}
use Rattle.es3_grammar.specs.Machine.{holds, declares}
use Rattle.es3_grammar.proofs.Follow.{barred, bars_of}
use Rattle.es3_grammar.proofs.Longer.{Listed, ListedFields, ListedItems, Case}

abbrev pub of_bool : Bool → ℕ
of_bool true = 1
of_bool false = 0

abbrev pub Said : E → List Spot → Type 0
Said x u = Spells t.expr free 0 x u

-- what stands directly behind the start of an expression statement
abbrev pub Headed : Stack → List Spot → Type 0
Headed (statement ∷ f) w = BeginsPlain w
Headed _ w = Unit {0}

-- a statement may begin here
abbrev pub Place : Stack → Type 0
Place (statement ∷ f) = ⊥
Place _ = Unit {0}

-- what stands before a list of expressions
abbrev pub Before : Bars → Opened → List Spot → Type 0
Before b an_array u = (a : ℕ) × (u ≡ (open_bracket, a) ∷ [])
Before b (a_call x) u = (v : List Spot) × (a : ℕ) × (bars_call b ≡ false) × Spells t.expr b 16 x v × (u ≡ v ++ (open_paren, a) ∷ [])
Before b (a_new x) u = (v : List Spot) × (a : ℕ) × (d : ℕ) × Spells t.expr no_call 16 x v × (u ≡ (new_word, a) ∷ (v ++ (open_paren, d) ∷ []))

-- the head of a function up to its open parenthesis; where it may stand
abbrev pub NamedIf : Bool → Option Word → Type 0
NamedIf true None = ⊥
NamedIf _ _ = Unit {0}

abbrev pub HeadTokens : Head → List Spot → Type 0
HeadTokens h u = (d : ℕ) × NamedIf h.declared h.called × (u ≡ (function_word, h.begins) ∷ (naming h.called ++ (open_paren, d) ∷ []))

abbrev pub FuncPlace : Bool → Stack → ℕ → Type 0
FuncPlace true f a = declares f ≡ true
FuncPlace false f a = (k : List Spot) → Headed f ((function_word, a) ∷ k)

-- a `switch` up to some of its clauses; that a further clause may come
abbrev pub Switched : E → List Clause → List Spot → Type 0
Switched x cs u = (w : List Spot) × (q : List Spot) × (a : ℕ) × (d : ℕ) × (e : ℕ) × (g : ℕ) × Said x w × Spells t.cases free 0 (cases_of cs) q × (one_default (cases_of cs) ≡ true)
    × (u ≡ (switch_word, a) ∷ (open_paren, d) ∷ (w ++ (close_paren, e) ∷ (open_brace, g) ∷ q))

abbrev pub DefaultFits : Placed t.maybe_expr → List Clause → Type 0
DefaultFits tree.no_expr cs = has_default (cases_of cs) ≡ false
DefaultFits (tree.some_expr x) cs = Unit {0}

abbrev pub Block : List S → List Spot → Type 0
Block ss w = Spells t.stmts free 0 (stmts_of ss) w

-- `try` and its block; the same and `catch`, its name and its open brace; the same and its block
abbrev pub Tried : List S → List Spot → Type 0
Tried ss u = (w : List Spot) × (a : ℕ) × (d : ℕ) × (e : ℕ) × Block ss w × (u ≡ (try_word, a) ∷ (open_brace, d) ∷ (w ++ (close_brace, e) ∷ []))

abbrev pub Catching : List S → Word → List Spot → Type 0
Catching ss n u = (v : List Spot) × (a : ℕ) × (d : ℕ) × (e : ℕ) × (g : ℕ) × Tried ss v × (u ≡ v ++ (catch_word, a) ∷ (open_paren, d) ∷ named n ∷ (close_paren, e) ∷ (open_brace, g) ∷ [])

abbrev pub Caught : List S → Word → Placed t.stmts → List Spot → Type 0
Caught ss n hs u = (v : List Spot) × (w : List Spot) × (a : ℕ) × Catching ss n v × Spells t.stmts free 0 hs w × (u ≡ v ++ (w ++ (close_brace, a) ∷ []))

abbrev pub Handled : List S → Placed t.handler → List Spot → Type 0
Handled ss tree.no_handler u = Tried ss u
Handled ss (tree.some_handler n hs) u = Caught ss n hs u

abbrev pub BodyTokens : Stack → Body → List Spot → Type 0
BodyTokens f a_program u = u ≡ []
BodyTokens f a_block u = (a : ℕ) × (u ≡ (open_brace, a) ∷ [])
BodyTokens f (a_function h ps) u = (v : List Spot) × (w : List Spot) × (e : ℕ) × (g : ℕ) × HeadTokens h v × FuncPlace h.declared f h.begins × Names ps w × (u ≡ v ++ (w ++ (close_paren, e) ∷ (open_brace, g) ∷ []))
BodyTokens f (a_clause x cs m) u = (v : List Spot) × (w : List Spot) × Switched x cs v × Case m w × DefaultFits m cs × (u ≡ v ++ w)
BodyTokens f a_try u = (a : ℕ) × (d : ℕ) × (u ≡ (try_word, a) ∷ (open_brace, d) ∷ [])
BodyTokens f (a_catch rs n) u = Catching rs n u
BodyTokens f (a_finally rs h) u = (v : List Spot) × (a : ℕ) × (d : ℕ) × Handled rs h v × (u ≡ v ++ (finally_word, a) ∷ (open_brace, d) ∷ [])

-- `var` in a statement, or in a `for` head
abbrev pub VarTokens : Bool → List Spot → Type 0
VarTokens false u = (a : ℕ) × (u ≡ (var_word, a) ∷ [])
VarTokens true u = (a : ℕ) × (d : ℕ) × (e : ℕ) × (u ≡ (for_word, a) ∷ (open_paren, d) ∷ (var_word, e) ∷ [])

abbrev pub VarItems : Bool → List Item → List Spot → Type 0
VarItems h its u = (v : List Spot) × (w : List Spot) × VarTokens h v × ListedItems (barred false h) its w × (u ≡ v ++ w)

abbrev pub VarItem : Bool → Word → List Item → List Spot → Type 0
VarItem h n its u = (v : List Spot) × VarItems h its v × (u ≡ v ++ named n ∷ [])

abbrev pub ForFirst : Placed t.first → List Spot → Type 0
ForFirst r u = (v : List Spot) × (a : ℕ) × (d : ℕ) × (e : ℕ) × Spells t.first no_in 0 r v × (u ≡ (for_word, a) ∷ (open_paren, d) ∷ (v ++ (semicolon, e) ∷ []))

abbrev pub ForSecond : Placed t.first → Placed t.maybe_expr → List Spot → Type 0
ForSecond r m u = (v : List Spot) × (w : List Spot) × (e : ℕ) × ForFirst r v × Spells t.maybe_expr free 0 m w × (u ≡ v ++ (w ++ (semicolon, e) ∷ []))

abbrev pub ForObject : Placed t.loop_target → List Spot → Type 0
ForObject r u = (v : List Spot) × (a : ℕ) × (d : ℕ) × (e : ℕ) × Spells t.loop_target no_in 0 r v × (u ≡ (for_word, a) ∷ (open_paren, d) ∷ (v ++ (in_word, e) ∷ []))

-- an expression in parentheses behind a word
abbrev pub HeadOf : Token → ℕ → E → List Spot → Type 0
HeadOf c a x u = (v : List Spot) × (d : ℕ) × (e : ℕ) × Said x v × (u ≡ (c, a) ∷ (open_paren, d) ∷ (v ++ (close_paren, e) ∷ []))

abbrev pub Word2 : Token → ℕ → List Spot → Type 0
Word2 c a u = (d : ℕ) × (u ≡ (c, a) ∷ (open_paren, d) ∷ [])

-- the tokens of a frame, up to the place within it
abbrev pub Leads : Stack → Frame → List Spot → Type 0
Leads f paren u = (a : ℕ) × (u ≡ (open_paren, a) ∷ [])
Leads f (subscript x) u = (v : List Spot) × (a : ℕ) × Spells t.expr (bars_of f) 16 x v × (u ≡ v ++ (open_bracket, a) ∷ [])
Leads f (items o xs) u = (v : List Spot) × (w : List Spot) × Before (bars_of f) o v × Listed xs w × (u ≡ v ++ w)
Leads f (field fs n) u = (w : List Spot) × (c : Spot) × (a : ℕ) × (d : ℕ) × ListedFields fs w × (key_of c ≡ Some n) × (u ≡ (open_brace, a) ∷ (w ++ c ∷ (colon, d) ∷ []))
Leads f new_of u = (a : ℕ) × (u ≡ (new_word, a) ∷ [])
Leads f (prefix_step up) u = (a : ℕ) × (u ≡ (step_sign up, a) ∷ [])
Leads f (prefix op a) u = u ≡ (unary_sign op, a) ∷ []
Leads f (join j x) u = (v : List Spot) × (c : Token) × (a : ℕ) × (infix_of (bars_in (bars_of f)) c ≡ Some (joins j)) × (takes_left j x ≡ true) × Spells t.expr (bars_of f) (left j) x v × (u ≡ v ++ (c, a) ∷ [])
Leads f (test x) u = (v : List Spot) × (a : ℕ) × Spells t.expr (bars_of f) 3 x v × (u ≡ v ++ (query, a) ∷ [])
Leads f (either x y) u = (v : List Spot) × (w : List Spot) × (a : ℕ) × (d : ℕ) × Spells t.expr (bars_of f) 3 x v × Spells t.expr free 1 y w × (u ≡ v ++ (query, a) ∷ (w ++ (colon, d) ∷ []))
Leads f statement u = u ≡ []
Leads f (value h n its) u = (v : List Spot) × (d : ℕ) × VarItem h n its v × (u ≡ v ++ (equals, d) ∷ [])
Leads f if_test u = (a : ℕ) × Word2 if_word a u
Leads f while_test u = (a : ℕ) × Word2 while_word a u
Leads f (do_test s) u = (v : List Spot) × (a : ℕ) × (d : ℕ) × (e : ℕ) × Spells t.stmt free 0 s v × (u ≡ (do_word, a) ∷ (v ++ (while_word, d) ∷ (open_paren, e) ∷ []))
Leads f for_first u = (a : ℕ) × Word2 for_word a u
Leads f (for_test r) u = ForFirst r u
Leads f (for_step r m) u = ForSecond r m u
Leads f (for_object r) u = ForObject r u
Leads f (giving a) u = u ≡ (return_word, a) ∷ []
Leads f throwing u = (a : ℕ) × (u ≡ (throw_word, a) ∷ [])
Leads f (with_head a) u = Word2 with_word a u
Leads f switch_head u = (a : ℕ) × Word2 switch_word a u
Leads f (case_test x cs) u = (v : List Spot) × (a : ℕ) × Switched x cs v × (u ≡ v ++ (case_word, a) ∷ [])
Leads f (then_of x) u = (a : ℕ) × HeadOf if_word a x u
Leads f (else_of x s) u = (v : List Spot) × (w : List Spot) × (a : ℕ) × (d : ℕ) × HeadOf if_word a x v × Spells t.stmt free 0 s w × (is_open s ≡ false) × (u ≡ v ++ (w ++ (else_word, d) ∷ []))
Leads f (while_body x) u = (a : ℕ) × HeadOf while_word a x u
Leads f do_body u = (a : ℕ) × (u ≡ (do_word, a) ∷ [])
Leads f (for_body r m n) u = (v : List Spot) × (w : List Spot) × (e : ℕ) × ForSecond r m v × Spells t.maybe_expr free 0 n w × (u ≡ v ++ (w ++ (close_paren, e) ∷ []))
Leads f (in_body r x) u = (v : List Spot) × (w : List Spot) × (e : ℕ) × ForObject r v × Said x w × (u ≡ v ++ (w ++ (close_paren, e) ∷ []))
Leads f (with_body x a) u = HeadOf with_word a x u
Leads f (label_of n) u = (a : ℕ) × (u ≡ named n ∷ (colon, a) ∷ [])
Leads f (body o ss) u = (v : List Spot) × (w : List Spot) × BodyTokens f o v × Spells t.stmts free (of_bool (holds o)) (stmts_of ss) w × (u ≡ v ++ w)

-- the level of what a frame makes
abbrev pub makes : Frame → ℕ
makes new_of = 15
makes (prefix_step up) = 13
makes (prefix op a) = 13
makes (join j x) = own j
makes (test x) = 2
makes (either x y) = 2
makes _ = 16

abbrev pub Stands : Stack → List Spot → Type 0
Stands [] u = u ≡ []
Stands (f ∷ fs) u = (v : List Spot) × (w : List Spot) × Stands fs v × Leads fs f w × (asked fs ≤ makes f) × Headed fs w × (u ≡ v ++ w)

-- behind what leads to the place within these frames stand tokens of which this holds
abbrev pub Over : Stack → (List Spot → Type 0) → List Spot → Type 0
Over f L u = (v : List Spot) × (w : List Spot) × Stands f v × Headed f w × L w × (u ≡ v ++ w)

abbrev pub OnlyInArray : Opened → List E → Type 0
OnlyInArray an_array xs = Unit {0}
OnlyInArray (a_call x) xs = xs ≡ []
OnlyInArray (a_new x) xs = xs ≡ []

abbrev pub Jumped : Bool → ℕ → List Spot → Type 0
Jumped true a u = u ≡ (break_word, a) ∷ []
Jumped false a u = u ≡ (continue_word, a) ∷ []

-- all parameters so far, at least one
abbrev pub Parameters : Head → List Word → List Spot → Type 0
Parameters h ps u = (v : List Spot) × (w : List Spot) × HeadTokens h v × Names ps w × (ps ≡ [] → ⊥) × (u ≡ v ++ w)

abbrev pub StandsFor : State → List Spot → Type 0
StandsFor (want f) u = Stands f u × Place f
StandsFor (have x f) u = Over f (Spells t.expr (bars_of f) 16 x) u
StandsFor (past x f) u = Over f (λ w. Spells t.expr (bars_of f) 14 x w × (is_target x ≡ false)) u × (asked f ≤ 14)
StandsFor (listed o xs f) u = Over f (λ z. (v : List Spot) × (w : List Spot) × Before (bars_of f) o v × Listed xs w × (z ≡ v ++ w)) u × OnlyInArray o xs
StandsFor (member x f) u = Over f (λ z. (v : List Spot) × (a : ℕ) × Spells t.expr (bars_of f) 16 x v × (z ≡ v ++ (point, a) ∷ [])) u
StandsFor (key fs f) u = Over f (λ z. (w : List Spot) × (a : ℕ) × ListedFields fs w × (z ≡ (open_brace, a) ∷ w)) u
StandsFor (func d a f) u = Over f (λ z. z ≡ (function_word, a) ∷ []) u × FuncPlace d f a
StandsFor (params h f) u = Over f (HeadTokens h) u × FuncPlace h.declared f h.begins
StandsFor (param h ps f) u = Over f (λ z. (v : List Spot) × (a : ℕ) × Parameters h ps v × (z ≡ v ++ (comma, a) ∷ [])) u × FuncPlace h.declared f h.begins
StandsFor (param_end h ps f) u = Over f (Parameters h ps) u × FuncPlace h.declared f h.begins
StandsFor (start f) u = Stands f u × Place f
StandsFor (begun n f) u = Over f (λ z. z ≡ named n ∷ []) u × Place f
StandsFor (ended s f) u = Over f (λ w. Spells t.stmt free 0 s w × (is_open s ≡ false)) u
StandsFor (closing s f) u = Over f (λ w. ((c : Spot) → ends_statement c ≡ true → Spells t.stmt free 0 s (w ++ c ∷ [])) × (is_open s ≡ false)) u
StandsFor (item h its f) u = Over f (VarItems h its) u
StandsFor (item_end h n its f) u = Over f (VarItem h n its) u
StandsFor (for_open f) u = Over f (λ z. (a : ℕ) × Word2 for_word a z) u
StandsFor (for_second r f) u = Over f (ForFirst r) u
StandsFor (for_third r m f) u = Over f (ForSecond r m) u
StandsFor (returned a f) u = Over f (λ z. z ≡ (return_word, a) ∷ []) u
StandsFor (jumped b a f) u = Over f (Jumped b a) u
StandsFor (clauses x f) u = Over f (Switched x []) u
StandsFor (tried ss f) u = Over f (Tried ss) u
StandsFor (caught ss n hs f) u = Over f (Caught ss n (stmts_of hs)) u
StandsFor (catch_name ss f) u = Over f (λ z. (v : List Spot) × (a : ℕ) × (d : ℕ) × Tried ss v × (z ≡ v ++ (catch_word, a) ∷ (open_paren, d) ∷ [])) u
StandsFor (await ks s) u = (q : List Spot) → map (λ c. c.0) q ≡ ks → StandsFor s (u ++ q)
