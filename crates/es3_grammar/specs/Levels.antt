-- The operators of ES3 11.3 to 11.14 with their tokens and levels: 0 for the comma, 1 assignments, 2 conditionals, 3 `||`, 4 `&&`, 5 `|`, 6 `^`, 7 `&`,
-- 8 equality, 9 relations with `instanceof` and `in`, 10 shifts, 11 sums, 12 products, 13 prefix operators, 14 postfix ones. Above these stand what may be
-- assigned to or be without arguments behind `new`, 15, and members, calls and what stands within them, 16.
use Rattle.std.specs.Prelude.{ℕ, ◌+◌, List, [], ◌∷◌, Bool, true, false, ◌&&◌, ◌||◌, Option, Some, None, if◌then◌else◌}
use Rattle.es3_tree.specs.Token.{Token, word, punct}
use Rattle.es3_tree.specs.Tree as t
use Rattle.es3_tree.specs.Placed as tree
use Rattle.es3_tree.specs.Placed.{Placed}
use Rattle.es3_tree.specs.declared.UnOp.{UnOp}
use Rattle.es3_tree.specs.declared.UnOp.TheVariants.{Delete, Void, Typeof, Plus, Minus, BitNot, Not}
use Rattle.es3_tree.specs.declared.BinOp.{BinOp}
use Rattle.es3_tree.specs.declared.BinOp.TheVariants.{Mul, Div, Rem, Add, Sub, Shl, Shr, Ushr, Less, Greater, LessEq, GreaterEq, InstanceOf, InObject, Equal, NotEqual, Same, NotSame, BitAnd, BitXor, BitOr}
use Rattle.es3_grammar.specs.Spots.{look_up, same_token, in_word, point, open_bracket, open_paren, open_brace, function_word, new_word, this_word, null_word, true_word, false_word}

abbrev pub E : Type 0
E = Placed t.expr

-- 11.4
abbrev pub unary_sign : UnOp → Token
unary_sign Delete = word 5
unary_sign Void = word 22
unary_sign Typeof = word 20
unary_sign Plus = punct 17
unary_sign Minus = punct 18
unary_sign BitNot = punct 30
unary_sign Not = punct 29

-- 11.3, 11.4.4, 11.4.5: `++` for true, `--` for false
abbrev pub step_sign : Bool → Token
step_sign true = punct 21
step_sign false = punct 22

-- 11.5 to 11.10
abbrev pub level : BinOp → ℕ
level Mul = 12
level Div = 12
level Rem = 12
level Add = 11
level Sub = 11
level Shl = 10
level Shr = 10
level Ushr = 10
level Less = 9
level Greater = 9
level LessEq = 9
level GreaterEq = 9
level InstanceOf = 9
level InObject = 9
level Equal = 8
level NotEqual = 8
level Same = 8
level NotSame = 8
level BitAnd = 7
level BitXor = 6
level BitOr = 5

-- an operator between two parts
pub data Join : Type 0 where
  an_op : BinOp → Join
  an_and : Join
  an_or : Join
  an_assign : Option BinOp → Join
  a_comma : Join

-- the level of what it makes, and the levels that it asks of its left and of its right part: what binds alike is grouped from the left,
-- assignments from the right
abbrev pub own : Join → ℕ
own (an_op op) = level op
own an_and = 4
own an_or = 3
own (an_assign op) = 1
own a_comma = 0

abbrev pub left : Join → ℕ
left (an_op op) = level op
left an_and = 4
left an_or = 3
left (an_assign op) = 15
left a_comma = 0

abbrev pub right : Join → ℕ
right (an_op op) = level op + 1
right an_and = 5
right an_or = 4
right (an_assign op) = 1
right a_comma = 1

abbrev pub joined : Join → E → E → E
joined (an_op op) x y = tree.binary op x y
joined an_and x y = tree.and x y
joined an_or x y = tree.or x y
joined (an_assign op) x y = tree.assign op x y
joined a_comma x y = tree.comma x y

-- 8.7, 11.13: a name or a member may be assigned to
abbrev pub is_target : E → Bool
is_target (tree.name n) = true
is_target (tree.dot x n) = true
is_target (tree.index x y) = true
is_target x = false

abbrev pub takes_left : Join → E → Bool
takes_left (an_assign op) x = is_target x
takes_left j x = true

-- what may stand behind a part: an operator between two parts, the `?` of a conditional, a postfix operator
pub data Infix : Type 0 where
  joins : Join → Infix
  a_query : Infix
  a_step : Bool → Infix

abbrev pub infixes : List (Token × Infix)
infixes =
    (punct 8, joins a_comma) ∷ (punct 9, joins (an_op Less)) ∷ (punct 10, joins (an_op Greater)) ∷ (punct 11, joins (an_op LessEq))
    ∷ (punct 12, joins (an_op GreaterEq)) ∷ (punct 13, joins (an_op Equal)) ∷ (punct 14, joins (an_op NotEqual)) ∷ (punct 15, joins (an_op Same))
    ∷ (punct 16, joins (an_op NotSame)) ∷ (punct 17, joins (an_op Add)) ∷ (punct 18, joins (an_op Sub)) ∷ (punct 19, joins (an_op Mul))
    ∷ (punct 20, joins (an_op Rem)) ∷ (punct 21, a_step true) ∷ (punct 22, a_step false) ∷ (punct 23, joins (an_op Shl))
    ∷ (punct 24, joins (an_op Shr)) ∷ (punct 25, joins (an_op Ushr)) ∷ (punct 26, joins (an_op BitAnd)) ∷ (punct 27, joins (an_op BitOr))
    ∷ (punct 28, joins (an_op BitXor)) ∷ (punct 31, joins an_and) ∷ (punct 32, joins an_or) ∷ (punct 33, a_query) ∷ (punct 35, joins (an_assign None))
    ∷ (punct 36, joins (an_assign (Some Add))) ∷ (punct 37, joins (an_assign (Some Sub))) ∷ (punct 38, joins (an_assign (Some Mul)))
    ∷ (punct 39, joins (an_assign (Some Rem))) ∷ (punct 40, joins (an_assign (Some Shl))) ∷ (punct 41, joins (an_assign (Some Shr)))
    ∷ (punct 42, joins (an_assign (Some Ushr))) ∷ (punct 43, joins (an_assign (Some BitAnd))) ∷ (punct 44, joins (an_assign (Some BitOr)))
    ∷ (punct 45, joins (an_assign (Some BitXor))) ∷ (punct 46, joins (an_op Div)) ∷ (punct 47, joins (an_assign (Some Div)))
    ∷ (word 12, joins (an_op InObject)) ∷ (word 13, joins (an_op InstanceOf)) ∷ []

-- the operator that a token is behind a part; 12.6: no `in` where the truth value says so
abbrev pub infix_of : Bool → Token → Option Infix
infix_of b t = if same_token in_word t && b then None else look_up infixes t

-- a member of what stands before it, an item of it, or a call of it
abbrev pub is_trailer : Token → Bool
is_trailer t = same_token point t || same_token open_bracket t || same_token open_paren t

-- what a word or a punctuator is where an operand is wanted
pub data Opening : Type 0 where
  a_this : Opening
  a_null : Opening
  a_bool : Bool → Opening
  a_paren : Opening
  an_array : Opening
  an_object : Opening
  a_function : Opening
  a_new : Opening
  a_prefix : UnOp → Opening
  a_prefix_step : Bool → Opening

abbrev pub openings : List (Token × Opening)
openings =
    (open_brace, an_object) ∷ (open_paren, a_paren) ∷ (open_bracket, an_array) ∷ (punct 17, a_prefix Plus) ∷ (punct 18, a_prefix Minus)
    ∷ (punct 21, a_prefix_step true) ∷ (punct 22, a_prefix_step false) ∷ (punct 29, a_prefix Not) ∷ (punct 30, a_prefix BitNot)
    ∷ (word 5, a_prefix Delete) ∷ (function_word, a_function) ∷ (new_word, a_new) ∷ (this_word, a_this) ∷ (word 20, a_prefix Typeof)
    ∷ (word 22, a_prefix Void) ∷ (null_word, a_null) ∷ (true_word, a_bool true) ∷ (false_word, a_bool false) ∷ []
