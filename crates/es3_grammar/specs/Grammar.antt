-- Which tokens a tree is spelled by (ES3 11 to 14). Every semicolon is written.
use Rattle.std.specs.Prelude.{ℕ, ◌≡◌, ◌≤◌, ℤ, Bool, true, false, ◌||◌, not, List, [], ◌∷◌, ◌++◌, Option, Some, None}
use Rattle.caja_units.specs.Number.{number_text}
use Rattle.es3_tree.specs.Token.{Token, name, word, punct, num, text}
use Rattle.es3_tree.specs.Tree as t
use Rattle.es3_tree.specs.Tree.{Sort}
use Rattle.es3_tree.specs.Placed as tree
use Rattle.es3_tree.specs.Placed.{Placed, Word}
use Rattle.es3_tree.specs.declared.UnOp.{UnOp}
use Rattle.es3_grammar.specs.Spots.{Spot, spots, is, break_word, case_word, catch_word, continue_word, default_word, do_word, else_word, finally_word, for_word, function_word, if_word, in_word, new_word, return_word, switch_word, this_word, throw_word, try_word, var_word, while_word, with_word, null_word, true_word, false_word, open_brace, close_brace, open_paren, close_paren, open_bracket, close_bracket, point, semicolon, comma, query, colon, equals}
use Rattle.es3_grammar.specs.Levels.{E, Join, own, left, right, joined, is_target, takes_left, joins, infix_of, unary_sign, step_sign}
use Rattle.es3_tokens.specs.Tokens as tokens

abbrev pub S : Type 0
S = Placed t.stmt

-- 7.9: the semicolon that ends a statement
abbrev pub ends_statement : Spot → Bool
ends_statement c = is semicolon c

-- what may not stand in an expression outside brackets: nothing is barred, no `in` (12.6), no call (11.2.2, behind `new`)
pub data Bars : Type 0 where
  free no_in no_call : Bars

abbrev pub bars_in : Bars → Bool
bars_in no_in = true
bars_in b = false

abbrev pub bars_call : Bars → Bool
bars_call no_call = true
bars_call b = false

-- the name of a token, and a name's token
abbrev pub placed_word : List ℕ → ℕ → Word
placed_word us a = record { text = us; at = a }

abbrev pub named : Word → Spot
named n = (name n.text, n.at)

abbrev pub naming : Option Word → List Spot
naming None = []
naming (Some n) = named n ∷ []

-- 11.1.5: a key is a name, a text or a number
abbrev pub key_of : Spot → Option Word
key_of (name us, a) = Some (placed_word us a)
key_of (text us, a) = Some (placed_word us a)
key_of (num n, a) = Some (placed_word (number_text n) a)
key_of (word n, a) = None
key_of (punct n, a) = None

-- 12.4: how no expression statement begins
abbrev pub is_plain : Spot → Bool
is_plain c = not (is open_brace c || is function_word c)

abbrev pub BeginsPlain : List Spot → Type 0
BeginsPlain [] = ⊥
BeginsPlain (c ∷ u) = is_plain c ≡ true

-- 12.5: the statement ends in an `if` without `else`
abbrev pub is_open : S → Bool
is_open (tree.branch x s tree.no_stmt) = true
is_open (tree.branch x s (tree.some_stmt e)) = is_open e
is_open (tree.while_loop x s) = is_open s
is_open (tree.for_loop f m n s) = is_open s
is_open (tree.for_in l x s) = is_open s
is_open (tree.with_object x s a) = is_open s
is_open (tree.label n s) = is_open s
is_open s = false

-- 12.11: at most one clause is `default`
abbrev pub has_default : Placed t.cases → Bool
has_default tree.no_cases = false
has_default (tree.more_cases tree.no_expr ss cs) = true
has_default (tree.more_cases (tree.some_expr x) ss cs) = has_default cs

abbrev pub one_default : Placed t.cases → Bool
one_default tree.no_cases = true
one_default (tree.more_cases tree.no_expr ss cs) = not (has_default cs)
one_default (tree.more_cases (tree.some_expr x) ss cs) = one_default cs

-- 13: parameters with commas between them; a and further numbers everywhere are the places of tokens that leave none in the tree
pub data Names : List Word → List Spot → Type 0 where
  no_name : Names [] []
  one_name : (n : Word) → Names (n ∷ []) (named n ∷ [])
  more_names : (a : ℕ) (n m : Word) (ns : List Word) (u : List Spot) → Names (m ∷ ns) u → Names (n ∷ m ∷ ns) (named n ∷ (comma, a) ∷ u)

-- The number is the level that the place asks of an expression. Of a list of expressions or of fields it is 1 where there is at least one, of the
-- part of a `var` item behind its name 1, of a list of statements 1 where function declarations may stand in it, and 0 otherwise.
pub data Spells : (s : Sort) → Bars → ℕ → Placed s → List Spot → Type 0 where
  -- 11.1
  s_this : (b : Bars) (l a : ℕ) → l ≤ 16 → Spells t.expr b l (tree.this a) ((this_word, a) ∷ [])
  s_null : (b : Bars) (l a : ℕ) → l ≤ 16 → Spells t.expr b l tree.null ((null_word, a) ∷ [])
  s_true : (b : Bars) (l a : ℕ) → l ≤ 16 → Spells t.expr b l (tree.bool true) ((true_word, a) ∷ [])
  s_false : (b : Bars) (l a : ℕ) → l ≤ 16 → Spells t.expr b l (tree.bool false) ((false_word, a) ∷ [])
  s_num : (b : Bars) (l a : ℕ) (n : ℤ) → l ≤ 16 → Spells t.expr b l (tree.num n) ((num n, a) ∷ [])
  s_text : (b : Bars) (l a : ℕ) (us : List ℕ) → l ≤ 16 → Spells t.expr b l (tree.text us) ((text us, a) ∷ [])
  s_name : (b : Bars) (l : ℕ) (n : Word) → l ≤ 16 → Spells t.expr b l (tree.name n) (named n ∷ [])
  s_paren : (b : Bars) (l a d : ℕ) (x : E) (u : List Spot) → l ≤ 16 → Spells t.expr free 0 x u → Spells t.expr b l x ((open_paren, a) ∷ (u ++ (close_paren, d) ∷ []))
  -- 11.1.4: a comma may stand behind the last item
  s_array : (b : Bars) (l a d : ℕ) (xs : Placed t.exprs) (u : List Spot) → l ≤ 16 → Spells t.exprs free 0 xs u → Spells t.expr b l (tree.array xs) ((open_bracket, a) ∷ (u ++ (close_bracket, d) ∷ []))
  s_array_comma : (b : Bars) (l a d e : ℕ) (xs : Placed t.exprs) (u : List Spot) → l ≤ 16 → Spells t.exprs free 1 xs u
      → Spells t.expr b l (tree.array xs) ((open_bracket, a) ∷ (u ++ (comma, e) ∷ (close_bracket, d) ∷ []))
  s_object : (b : Bars) (l a d : ℕ) (fs : Placed t.fields) (u : List Spot) → l ≤ 16 → Spells t.fields free 0 fs u → Spells t.expr b l (tree.object fs) ((open_brace, a) ∷ (u ++ (close_brace, d) ∷ []))
  s_function : (b : Bars) (l a : ℕ) (n : Option Word) (ps : List Word) (ss : Placed t.stmts) (u : List Spot) → l ≤ 16 → Spells t.func free 0 (tree.fun n ps ss a) u
      → Spells t.expr b l (tree.function (tree.fun n ps ss a)) ((function_word, a) ∷ u)
  -- 11.2: what stands before `.`, `[` or `(` is no `new` without arguments
  s_dot : (b : Bars) (l a : ℕ) (x : E) (n : Word) (u : List Spot) → l ≤ 16 → Spells t.expr b 16 x u → Spells t.expr b l (tree.dot x n) (u ++ (point, a) ∷ named n ∷ [])
  s_index : (b : Bars) (l a d : ℕ) (x y : E) (u v : List Spot) → l ≤ 16 → Spells t.expr b 16 x u → Spells t.expr free 0 y v → Spells t.expr b l (tree.index x y) (u ++ (open_bracket, a) ∷ (v ++ (close_bracket, d) ∷ []))
  s_call : (b : Bars) (l a d : ℕ) (x : E) (xs : Placed t.exprs) (u v : List Spot) → l ≤ 16 → bars_call b ≡ false → Spells t.expr b 16 x u → Spells t.exprs free 0 xs v
      → Spells t.expr b l (tree.call x xs) (u ++ (open_paren, a) ∷ (v ++ (close_paren, d) ∷ []))
  s_new_call : (b : Bars) (l a d e : ℕ) (x : E) (xs : Placed t.exprs) (u v : List Spot) → l ≤ 16 → Spells t.expr no_call 16 x u → Spells t.exprs free 0 xs v
      → Spells t.expr b l (tree.new x xs) ((new_word, a) ∷ (u ++ (open_paren, d) ∷ (v ++ (close_paren, e) ∷ [])))
  s_new : (b : Bars) (l a : ℕ) (x : E) (u : List Spot) → l ≤ 15 → Spells t.expr no_call 15 x u → Spells t.expr b l (tree.new x tree.no_exprs) ((new_word, a) ∷ u)
  -- 11.3, 11.4
  s_postfix : (b : Bars) (l a : ℕ) (up : Bool) (x : E) (u : List Spot) → l ≤ 14 → is_target x ≡ true → Spells t.expr b 15 x u → Spells t.expr b l (tree.step up false x) (u ++ (step_sign up, a) ∷ [])
  s_prefix_step : (b : Bars) (l a : ℕ) (up : Bool) (x : E) (u : List Spot) → l ≤ 13 → is_target x ≡ true → Spells t.expr b 15 x u → Spells t.expr b l (tree.step up true x) ((step_sign up, a) ∷ u)
  s_prefix : (b : Bars) (l a : ℕ) (op : UnOp) (x : E) (u : List Spot) → l ≤ 13 → Spells t.expr b 13 x u → Spells t.expr b l (tree.unary op x a) ((unary_sign op, a) ∷ u)
  -- 11.5 to 11.11, 11.13, 11.14; 11.12
  s_join : (b : Bars) (l a : ℕ) (j : Join) (c : Token) (x y : E) (u v : List Spot) → l ≤ own j → infix_of (bars_in b) c ≡ Some (joins j) → takes_left j x ≡ true
      → Spells t.expr b (left j) x u → Spells t.expr b (right j) y v → Spells t.expr b l (joined j x y) (u ++ (c, a) ∷ v)
  s_choice : (b : Bars) (l a d : ℕ) (x y z : E) (u v w : List Spot) → l ≤ 2 → Spells t.expr b 3 x u → Spells t.expr free 1 y v → Spells t.expr b 1 z w
      → Spells t.expr b l (tree.choice x y z) (u ++ (query, a) ∷ (v ++ (colon, d) ∷ w))
  -- items of an array, arguments, the properties of an object literal
  s_no_exprs : Spells t.exprs free 0 tree.no_exprs []
  s_some_exprs : (xs : Placed t.exprs) (u : List Spot) → Spells t.exprs free 1 xs u → Spells t.exprs free 0 xs u
  s_one_expr : (x : E) (u : List Spot) → Spells t.expr free 1 x u → Spells t.exprs free 1 (tree.more_exprs x tree.no_exprs) u
  s_more_exprs : (a : ℕ) (x : E) (xs : Placed t.exprs) (u v : List Spot) → Spells t.expr free 1 x u → Spells t.exprs free 1 xs v → Spells t.exprs free 1 (tree.more_exprs x xs) (u ++ (comma, a) ∷ v)
  s_no_fields : Spells t.fields free 0 tree.no_fields []
  s_some_fields : (fs : Placed t.fields) (u : List Spot) → Spells t.fields free 1 fs u → Spells t.fields free 0 fs u
  s_one_field : (a : ℕ) (c : Spot) (n : Word) (x : E) (u : List Spot) → key_of c ≡ Some n → Spells t.expr free 1 x u → Spells t.fields free 1 (tree.more_fields n x tree.no_fields) (c ∷ (colon, a) ∷ u)
  s_more_fields : (a d : ℕ) (c : Spot) (n : Word) (x : E) (fs : Placed t.fields) (u v : List Spot) → key_of c ≡ Some n → Spells t.expr free 1 x u → Spells t.fields free 1 fs v
      → Spells t.fields free 1 (tree.more_fields n x fs) (c ∷ (colon, a) ∷ (u ++ (comma, d) ∷ v))
  -- 13: what stands behind the word `function`
  s_func : (a d e f g : ℕ) (n : Option Word) (ps : List Word) (ss : Placed t.stmts) (u v : List Spot) → Names ps u → Spells t.stmts free 1 ss v
      → Spells t.func free 0 (tree.fun n ps ss a) (naming n ++ (open_paren, d) ∷ (u ++ (close_paren, e) ∷ (open_brace, f) ∷ (v ++ (close_brace, g) ∷ [])))
  -- 12.1 to 12.4
  s_block : (a d : ℕ) (ss : Placed t.stmts) (u : List Spot) → Spells t.stmts free 0 ss u → Spells t.stmt free 0 (tree.block ss) ((open_brace, a) ∷ (u ++ (close_brace, d) ∷ []))
  s_var : (a : ℕ) (c : Spot) (is : Placed t.items) (u : List Spot) → Spells t.items free 0 is u → ends_statement c ≡ true → Spells t.stmt free 0 (tree.var is) ((var_word, a) ∷ (u ++ c ∷ []))
  s_empty : (a : ℕ) → Spells t.stmt free 0 tree.empty ((semicolon, a) ∷ [])
  s_expression : (c : Spot) (x : E) (u : List Spot) → Spells t.expr free 0 x u → BeginsPlain u → ends_statement c ≡ true → Spells t.stmt free 0 (tree.expression x) (u ++ c ∷ [])
  s_one_item : (b : Bars) (n : Word) (m : Placed t.maybe_expr) (u : List Spot) → Spells t.maybe_expr b 1 m u → Spells t.items b 0 (tree.more_items n m tree.no_items) (named n ∷ u)
  s_more_items : (b : Bars) (a : ℕ) (n : Word) (m : Placed t.maybe_expr) (is : Placed t.items) (u v : List Spot) → Spells t.maybe_expr b 1 m u → Spells t.items b 0 is v
      → Spells t.items b 0 (tree.more_items n m is) (named n ∷ (u ++ (comma, a) ∷ v))
  s_no_value : (b : Bars) → Spells t.maybe_expr b 1 tree.no_expr []
  s_value : (b : Bars) (a : ℕ) (x : E) (u : List Spot) → Spells t.expr b 1 x u → Spells t.maybe_expr b 1 (tree.some_expr x) ((equals, a) ∷ u)
  -- 12.5: what stands before `else` ends in no `if` without `else`
  s_if : (a d e : ℕ) (x : E) (s : S) (u v : List Spot) → Spells t.expr free 0 x u → Spells t.stmt free 0 s v
      → Spells t.stmt free 0 (tree.branch x s tree.no_stmt) ((if_word, a) ∷ (open_paren, d) ∷ (u ++ (close_paren, e) ∷ v))
  s_else : (a d e f : ℕ) (x : E) (s r : S) (u v w : List Spot) → Spells t.expr free 0 x u → Spells t.stmt free 0 s v → is_open s ≡ false → Spells t.stmt free 0 r w
      → Spells t.stmt free 0 (tree.branch x s (tree.some_stmt r)) ((if_word, a) ∷ (open_paren, d) ∷ (u ++ (close_paren, e) ∷ (v ++ (else_word, f) ∷ w)))
  -- 12.6
  s_do : (a d e f : ℕ) (c : Spot) (s : S) (x : E) (u v : List Spot) → Spells t.stmt free 0 s u → Spells t.expr free 0 x v → ends_statement c ≡ true
      → Spells t.stmt free 0 (tree.do_loop s x) ((do_word, a) ∷ (u ++ (while_word, d) ∷ (open_paren, e) ∷ (v ++ (close_paren, f) ∷ c ∷ [])))
  s_while : (a d e : ℕ) (x : E) (s : S) (u v : List Spot) → Spells t.expr free 0 x u → Spells t.stmt free 0 s v
      → Spells t.stmt free 0 (tree.while_loop x s) ((while_word, a) ∷ (open_paren, d) ∷ (u ++ (close_paren, e) ∷ v))
  s_for : (a d e f g : ℕ) (r : Placed t.first) (m n : Placed t.maybe_expr) (s : S) (u v w q : List Spot) → Spells t.first no_in 0 r u → Spells t.maybe_expr free 0 m v → Spells t.maybe_expr free 0 n w → Spells t.stmt free 0 s q
      → Spells t.stmt free 0 (tree.for_loop r m n s) ((for_word, a) ∷ (open_paren, d) ∷ (u ++ (semicolon, e) ∷ (v ++ (semicolon, f) ∷ (w ++ (close_paren, g) ∷ q))))
  s_for_in : (a d e f : ℕ) (r : Placed t.loop_target) (x : E) (s : S) (u v w : List Spot) → Spells t.loop_target no_in 0 r u → Spells t.expr free 0 x v → Spells t.stmt free 0 s w
      → Spells t.stmt free 0 (tree.for_in r x s) ((for_word, a) ∷ (open_paren, d) ∷ (u ++ (in_word, e) ∷ (v ++ (close_paren, f) ∷ w)))
  s_no_first : Spells t.first no_in 0 tree.no_first []
  s_first_var : (a : ℕ) (is : Placed t.items) (u : List Spot) → Spells t.items no_in 0 is u → Spells t.first no_in 0 (tree.first_var is) ((var_word, a) ∷ u)
  s_first_expr : (x : E) (u : List Spot) → Spells t.expr no_in 0 x u → Spells t.first no_in 0 (tree.first_expr x) u
  s_no_expr : Spells t.maybe_expr free 0 tree.no_expr []
  s_some_expr : (x : E) (u : List Spot) → Spells t.expr free 0 x u → Spells t.maybe_expr free 0 (tree.some_expr x) u
  s_loop_var : (a : ℕ) (n : Word) → Spells t.loop_target no_in 0 (tree.loop_var n) ((var_word, a) ∷ named n ∷ [])
  s_loop_expr : (x : E) (u : List Spot) → is_target x ≡ true → Spells t.expr no_in 15 x u → Spells t.loop_target no_in 0 (tree.loop_expr x) u
  -- 12.7 to 12.10
  s_continue : (a : ℕ) (c : Spot) (n : Option Word) → ends_statement c ≡ true → Spells t.stmt free 0 (tree.continue n a) ((continue_word, a) ∷ (naming n ++ c ∷ []))
  s_break : (a : ℕ) (c : Spot) (n : Option Word) → ends_statement c ≡ true → Spells t.stmt free 0 (tree.break n a) ((break_word, a) ∷ (naming n ++ c ∷ []))
  s_return : (a : ℕ) (c : Spot) (m : Placed t.maybe_expr) (u : List Spot) → Spells t.maybe_expr free 0 m u → ends_statement c ≡ true → Spells t.stmt free 0 (tree.return m a) ((return_word, a) ∷ (u ++ c ∷ []))
  s_with : (a d e : ℕ) (x : E) (s : S) (u v : List Spot) → Spells t.expr free 0 x u → Spells t.stmt free 0 s v
      → Spells t.stmt free 0 (tree.with_object x s a) ((with_word, a) ∷ (open_paren, d) ∷ (u ++ (close_paren, e) ∷ v))
  -- 12.11 to 12.14
  s_switch : (a d e f g : ℕ) (x : E) (cs : Placed t.cases) (u v : List Spot) → Spells t.expr free 0 x u → Spells t.cases free 0 cs v → one_default cs ≡ true
      → Spells t.stmt free 0 (tree.switch x cs) ((switch_word, a) ∷ (open_paren, d) ∷ (u ++ (close_paren, e) ∷ (open_brace, f) ∷ (v ++ (close_brace, g) ∷ [])))
  s_no_cases : Spells t.cases free 0 tree.no_cases []
  s_case : (a d : ℕ) (x : E) (ss : Placed t.stmts) (cs : Placed t.cases) (u v w : List Spot) → Spells t.expr free 0 x u → Spells t.stmts free 0 ss v → Spells t.cases free 0 cs w
      → Spells t.cases free 0 (tree.more_cases (tree.some_expr x) ss cs) ((case_word, a) ∷ (u ++ (colon, d) ∷ (v ++ w)))
  s_default : (a d : ℕ) (ss : Placed t.stmts) (cs : Placed t.cases) (v w : List Spot) → Spells t.stmts free 0 ss v → Spells t.cases free 0 cs w
      → Spells t.cases free 0 (tree.more_cases tree.no_expr ss cs) ((default_word, a) ∷ (colon, d) ∷ (v ++ w))
  s_label : (a : ℕ) (n : Word) (s : S) (u : List Spot) → Spells t.stmt free 0 s u → Spells t.stmt free 0 (tree.label n s) (named n ∷ (colon, a) ∷ u)
  s_throw : (a : ℕ) (c : Spot) (x : E) (u : List Spot) → Spells t.expr free 0 x u → ends_statement c ≡ true → Spells t.stmt free 0 (tree.throw x) ((throw_word, a) ∷ (u ++ c ∷ []))
  s_catch : (a d e f g h i j : ℕ) (ss : Placed t.stmts) (n : Word) (hs : Placed t.stmts) (u v : List Spot) → Spells t.stmts free 0 ss u → Spells t.stmts free 0 hs v
      → Spells t.stmt free 0 (tree.try ss (tree.some_handler n hs) tree.no_block)
      ((try_word, a) ∷ (open_brace, d) ∷ (u ++ (close_brace, e) ∷ (catch_word, f) ∷ (open_paren, g) ∷ named n ∷ (close_paren, h) ∷ (open_brace, i) ∷ (v ++ (close_brace, j) ∷ [])))
  s_finally : (a d e f g h : ℕ) (ss ls : Placed t.stmts) (u v : List Spot) → Spells t.stmts free 0 ss u → Spells t.stmts free 0 ls v
      → Spells t.stmt free 0 (tree.try ss tree.no_handler (tree.some_block ls))
      ((try_word, a) ∷ (open_brace, d) ∷ (u ++ (close_brace, e) ∷ (finally_word, f) ∷ (open_brace, g) ∷ (v ++ (close_brace, h) ∷ [])))
  s_catch_finally : (a d e f g h i j k l m : ℕ) (ss : Placed t.stmts) (n : Word) (hs ls : Placed t.stmts) (u v w : List Spot) → Spells t.stmts free 0 ss u → Spells t.stmts free 0 hs v → Spells t.stmts free 0 ls w
      → Spells t.stmt free 0 (tree.try ss (tree.some_handler n hs) (tree.some_block ls))
      ((try_word, a) ∷ (open_brace, d) ∷ (u ++ (close_brace, e) ∷ (catch_word, f) ∷ (open_paren, g) ∷ named n ∷ (close_paren, h) ∷ (open_brace, i)
      ∷ (v ++ (close_brace, j) ∷ (finally_word, k) ∷ (open_brace, l) ∷ (w ++ (close_brace, m) ∷ []))))
  -- 13, 14: a function declaration stands directly in a program or in the body of a function
  s_no_stmts : (l : ℕ) → Spells t.stmts free l tree.no_stmts []
  s_more_stmts : (l : ℕ) (s : S) (ss : Placed t.stmts) (u v : List Spot) → Spells t.stmt free 0 s u → Spells t.stmts free l ss v → Spells t.stmts free l (tree.more_stmts s ss) (u ++ v)
  s_declaration : (a : ℕ) (n : Word) (ps : List Word) (body ss : Placed t.stmts) (u v : List Spot) → Spells t.func free 0 (tree.fun (Some n) ps body a) u → Spells t.stmts free 1 ss v
      → Spells t.stmts free 1 (tree.more_stmts (tree.declare (tree.fun (Some n) ps body a)) ss) ((function_word, a) ∷ (u ++ v))
  s_script : (ss : Placed t.stmts) (u : List Spot) → Spells t.stmts free 1 ss u → Spells t.program free 0 (tree.script ss) u

-- the tokens spell the program
abbrev pub spells : Placed t.program → List tokens.Placed → Type 0
spells p ts = Spells t.program free 0 p (spots ts)
