-- The tokens of a tree (ES3 11 to 14), with parentheses exactly where a place asks a higher level than a part has, or where one of four further rules says so.
use Rattle.std.specs.Prelude.{ℕ, Bool, true, false, ◌||◌, ◌&&◌, List, [], ◌∷◌, ◌++◌, Option, Some, None, nat_lt}
use Rattle.es3_tree.specs.Tree as t
use Rattle.es3_tree.specs.Token.{Token, name, word, punct, num, text}
use Rattle.es3_tree.specs.declared.BinOp.{BinOp}
use Rattle.es3_tree.specs.declared.BinOp.TheVariants.{Mul, Div, Rem, Add, Sub, Shl, Shr, Ushr, Less, Greater, LessEq, GreaterEq, InstanceOf, InObject, Equal, NotEqual, Same, NotSame, BitAnd, BitXor, BitOr}
use Rattle.es3_grammar.specs.Spots.{same_token, break_word, case_word, catch_word, continue_word, default_word, do_word, else_word, finally_word, for_word, function_word, if_word, in_word, new_word, return_word, switch_word, this_word, throw_word, try_word, var_word, while_word, with_word, null_word, true_word, false_word, open_brace, close_brace, open_paren, close_paren, open_bracket, close_bracket, point, semicolon, comma, query, colon, equals}
use Rattle.es3_grammar.specs.Levels.{Join, an_op, an_and, an_or, an_assign, a_comma, own, left, right, unary_sign, step_sign}
use Rattle.es3_printed.specs.Text.{onto}

-- 0 comma, 1 assignments, 2 conditionals, 3 to 12 binary operators, 13 prefix operators, 14 postfix ones, 15 the rest
abbrev pub own_level : t.Tree t.expr → ℕ
own_level (t.comma x y) = own a_comma
own_level (t.assign op x y) = own (an_assign op)
own_level (t.choice x y z) = 2
own_level (t.or x y) = own an_or
own_level (t.and x y) = own an_and
own_level (t.binary op x y) = own (an_op op)
own_level (t.unary op x) = 13
own_level (t.step up true x) = 13
own_level (t.step up false x) = 14
own_level e = 15

-- 11.5 to 11.10: `instanceof` and `in` are words
abbrev pub op_sign : BinOp → Token
op_sign Mul = punct 19
op_sign Div = punct 46
op_sign Rem = punct 20
op_sign Add = punct 17
op_sign Sub = punct 18
op_sign Shl = punct 23
op_sign Shr = punct 24
op_sign Ushr = punct 25
op_sign Less = punct 9
op_sign Greater = punct 10
op_sign LessEq = punct 11
op_sign GreaterEq = punct 12
op_sign InstanceOf = word 13
op_sign InObject = in_word
op_sign Equal = punct 13
op_sign NotEqual = punct 14
op_sign Same = punct 15
op_sign NotSame = punct 16
op_sign BitAnd = punct 26
op_sign BitXor = punct 28
op_sign BitOr = punct 27

-- 11.13: an operator that no assignment has is written as none
abbrev pub assign_sign : Option BinOp → Token
assign_sign (Some Add) = punct 36
assign_sign (Some Sub) = punct 37
assign_sign (Some Mul) = punct 38
assign_sign (Some Rem) = punct 39
assign_sign (Some Shl) = punct 40
assign_sign (Some Shr) = punct 41
assign_sign (Some Ushr) = punct 42
assign_sign (Some BitAnd) = punct 43
assign_sign (Some BitOr) = punct 44
assign_sign (Some BitXor) = punct 45
assign_sign (Some Div) = punct 47
assign_sign op = equals

-- 11.5 to 11.11, 11.13, 11.14: the operator between two parts
abbrev pub join_sign : Join → Token
join_sign (an_op op) = op_sign op
join_sign an_and = punct 31
join_sign an_or = punct 32
join_sign (an_assign op) = assign_sign op
join_sign a_comma = comma

abbrev pub wrapped : Bool → List Token → List Token
wrapped true ts = open_paren ∷ (ts ++ close_paren ∷ [])
wrapped false ts = ts

-- the four further rules

-- a number, which takes parentheses as the object of a member (11.2.1)
abbrev pub is_number : t.Tree t.expr → Bool
is_number (t.num n) = true
is_number e = false

-- a call in the chain of objects and callees, which takes parentheses behind `new` (11.2.2)
abbrev pub calls : t.Tree t.expr → Bool
calls (t.call e es) = true
calls (t.dot e k) = calls e
calls (t.index e k) = calls e
calls e = false

-- 12.4: an expression statement may not begin like a block or a function declaration
abbrev pub opens : List Token → Bool
opens [] = false
opens (t ∷ ts) = same_token open_brace t || same_token function_word t

-- an `in`, which takes parentheses in the first part of a `for` head (12.6)
abbrev pub is_in_op : BinOp → Bool
is_in_op InObject = true
is_in_op op = false

abbrev pub is_in : t.Tree t.expr → Bool
is_in (t.binary op x y) = is_in_op op
is_in e = false

-- whether a part takes parentheses at a place that asks this level; b: in the first part of a `for` head
abbrev pub wraps : Bool → ℕ → t.Tree t.expr → Bool
wraps b l e = nat_lt (own_level e) l || (b && is_in e)

abbrev pub wraps_object : Bool → t.Tree t.expr → Bool
wraps_object b e = is_number e || wraps b 15 e

abbrev pub wraps_maker : Bool → t.Tree t.expr → Bool
wraps_maker b e = calls e || wraps b 15 e

-- two parts x and y with the tokens u and v, and an operator between them
abbrev pub between : Bool → Join → t.Tree t.expr → List Token → t.Tree t.expr → List Token → List Token
between b j x u y v = wrapped (wraps b (left j) x) u ++ join_sign j ∷ wrapped (wraps b (right j) y) v

abbrev pub step_tokens : Bool → Bool → Bool → t.Tree t.expr → List Token → List Token
step_tokens b up true x u = step_sign up ∷ wrapped (wraps b 13 x) u
step_tokens b up false x u = wrapped (wraps b 15 x) u ++ step_sign up ∷ []

abbrev pub truth : Bool → Token
truth true = true_word
truth false = false_word

abbrev pub behind_comma : t.Tree t.exprs → List Token → List Token
behind_comma t.no_exprs ts = []
behind_comma (t.more_exprs x xs) ts = comma ∷ ts

abbrev pub behind_field : t.Tree t.fields → List Token → List Token
behind_field t.no_fields ts = []
behind_field (t.more_fields k x fs) ts = comma ∷ ts

abbrev pub behind_item : t.Tree t.items → List Token → List Token
behind_item t.no_items ts = []
behind_item (t.more_items x e is) ts = comma ∷ ts

-- 12.2: what a variable begins as, of which ts are the tokens
abbrev pub initialiser : Bool → t.Tree t.maybe_expr → List Token → List Token
initialiser b t.no_expr ts = []
initialiser b (t.some_expr e) ts = equals ∷ wrapped (wraps b 1 e) ts

-- 12.11: the head of a clause, of whose test ts are the tokens
abbrev pub clause_head : t.Tree t.maybe_expr → List Token → List Token
clause_head t.no_expr ts = default_word ∷ colon ∷ []
clause_head (t.some_expr e) ts = case_word ∷ (ts ++ colon ∷ [])

-- 13: names with commas between them
abbrev pub listed : List (List ℕ) → List Token
listed [] = []
listed (x ∷ []) = name x ∷ []
listed (x ∷ y ∷ ys) = name x ∷ comma ∷ listed (y ∷ ys)

abbrev pub named : Option (List ℕ) → List Token
named None = []
named (Some x) = name x ∷ []

-- the tokens of a tree, in no parentheses of its own; b: it stands in the first part of a `for` head, outside function bodies
unfoldable pub bare : (s : t.Sort) → Bool → t.Tree s → List Token
-- 11.1, 11.2
bare _ b t.this = this_word ∷ []
bare _ b t.null = null_word ∷ []
bare _ b (t.bool v) = truth v ∷ []
bare _ b (t.num n) = num n ∷ []
bare _ b (t.text us) = text us ∷ []
bare _ b (t.name x) = name x ∷ []
bare _ b (t.array es) = open_bracket ∷ (bare _ b es ++ close_bracket ∷ [])
bare _ b (t.object fs) = open_brace ∷ (bare _ b fs ++ close_brace ∷ [])
bare _ b (t.function f) = bare _ b f
bare _ b (t.dot e k) = wrapped (wraps_object b e) (bare _ b e) ++ point ∷ name k ∷ []
bare _ b (t.index e k) = wrapped (wraps_object b e) (bare _ b e) ++ open_bracket ∷ (wrapped (wraps b 0 k) (bare _ b k) ++ close_bracket ∷ [])
bare _ b (t.call e es) = wrapped (wraps b 15 e) (bare _ b e) ++ open_paren ∷ (bare _ b es ++ close_paren ∷ [])
bare _ b (t.new e es) = new_word ∷ (wrapped (wraps_maker b e) (bare _ b e) ++ open_paren ∷ (bare _ b es ++ close_paren ∷ []))
-- 11.3 to 11.14
bare _ b (t.unary op x) = unary_sign op ∷ wrapped (wraps b 13 x) (bare _ b x)
bare _ b (t.step up before x) = step_tokens b up before x (bare _ b x)
bare _ b (t.binary op x y) = between b (an_op op) x (bare _ b x) y (bare _ b y)
bare _ b (t.and x y) = between b an_and x (bare _ b x) y (bare _ b y)
bare _ b (t.or x y) = between b an_or x (bare _ b x) y (bare _ b y)
bare _ b (t.choice x y z) = wrapped (wraps b 3 x) (bare _ b x) ++ query ∷ (wrapped (wraps b 1 y) (bare _ b y) ++ colon ∷ wrapped (wraps b 1 z) (bare _ b z))
bare _ b (t.assign op x y) = between b (an_assign op) x (bare _ b x) y (bare _ b y)
bare _ b (t.comma x y) = between b a_comma x (bare _ b x) y (bare _ b y)
bare _ b t.no_exprs = []
bare _ b (t.more_exprs e es) = wrapped (wraps b 1 e) (bare _ b e) ++ behind_comma es (bare _ b es)
-- 11.1.5: keys are written as texts
bare _ b t.no_fields = []
bare _ b (t.more_fields k e fs) = text k ∷ colon ∷ (wrapped (wraps b 1 e) (bare _ b e) ++ behind_field fs (bare _ b fs))
bare _ b t.no_expr = []
bare _ b (t.some_expr e) = bare _ b e
-- 12
bare _ b (t.block ss) = open_brace ∷ (bare _ false ss ++ close_brace ∷ [])
bare _ b (t.var is) = var_word ∷ (bare _ false is ++ semicolon ∷ [])
bare _ b t.empty = semicolon ∷ []
bare _ b (t.expression e) = wrapped (opens (bare _ false e)) (bare _ false e) ++ semicolon ∷ []
bare _ b (t.branch e s r) = if_word ∷ open_paren ∷ (bare _ false e ++ close_paren ∷ (bare _ false s ++ bare _ false r))
bare _ b (t.while_loop e s) = while_word ∷ open_paren ∷ (bare _ false e ++ close_paren ∷ bare _ false s)
bare _ b (t.do_loop s e) = do_word ∷ (bare _ false s ++ while_word ∷ open_paren ∷ (bare _ false e ++ close_paren ∷ semicolon ∷ []))
bare _ b (t.for_loop f m n s) = for_word ∷ open_paren ∷ (bare _ true f ++ semicolon ∷ (bare _ false m ++ semicolon ∷ (bare _ false n ++ close_paren ∷ bare _ false s)))
bare _ b (t.for_in l e s) = for_word ∷ open_paren ∷ (bare _ false l ++ in_word ∷ (bare _ false e ++ close_paren ∷ bare _ false s))
bare _ b (t.continue x) = continue_word ∷ (named x ++ semicolon ∷ [])
bare _ b (t.break x) = break_word ∷ (named x ++ semicolon ∷ [])
bare _ b (t.return m) = return_word ∷ (bare _ false m ++ semicolon ∷ [])
bare _ b (t.with_object e s) = with_word ∷ open_paren ∷ (bare _ false e ++ close_paren ∷ bare _ false s)
bare _ b (t.switch e cs) = switch_word ∷ open_paren ∷ (bare _ false e ++ close_paren ∷ open_brace ∷ (bare _ false cs ++ close_brace ∷ []))
bare _ b (t.label x s) = name x ∷ colon ∷ bare _ false s
bare _ b (t.throw e) = throw_word ∷ (bare _ false e ++ semicolon ∷ [])
bare _ b (t.try ss h l) = try_word ∷ open_brace ∷ (bare _ false ss ++ close_brace ∷ (bare _ false h ++ bare _ false l))
bare _ b (t.declare f) = bare _ false f
bare _ b t.no_stmts = []
bare _ b (t.more_stmts s ss) = bare _ false s ++ bare _ false ss
bare _ b t.no_items = []
bare _ b (t.more_items x m is) = name x ∷ (initialiser b m (bare _ b m) ++ behind_item is (bare _ b is))
bare _ b t.no_stmt = []
bare _ b (t.some_stmt s) = else_word ∷ bare _ false s
bare _ b t.no_block = []
bare _ b (t.some_block ss) = finally_word ∷ open_brace ∷ (bare _ false ss ++ close_brace ∷ [])
bare _ b t.no_first = []
bare _ b (t.first_var is) = var_word ∷ bare _ b is
bare _ b (t.first_expr e) = wrapped (wraps b 0 e) (bare _ b e)
bare _ b (t.loop_var x) = var_word ∷ name x ∷ []
bare _ b (t.loop_expr e) = bare _ false e
bare _ b t.no_cases = []
bare _ b (t.more_cases m ss cs) = clause_head m (bare _ false m) ++ (bare _ false ss ++ bare _ false cs)
bare _ b t.no_handler = []
bare _ b (t.some_handler x ss) = catch_word ∷ open_paren ∷ name x ∷ close_paren ∷ open_brace ∷ (bare _ false ss ++ close_brace ∷ [])
-- 13, 14
bare _ b (t.fun x ps body) = function_word ∷ (named x ++ open_paren ∷ (listed ps ++ close_paren ∷ open_brace ∷ (bare _ false body ++ close_brace ∷ [])))
bare _ b (t.script body) = bare _ false body

-- a part at a place that asks this level
abbrev pub part : Bool → ℕ → t.Tree t.expr → List Token
part b l e = wrapped (wraps b l e) (bare t.expr b e)

-- the printed text of a program
abbrev pub printed : t.Tree t.program → List ℕ
printed p = onto [] (bare t.program false p)
