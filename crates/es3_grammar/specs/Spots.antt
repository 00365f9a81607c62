-- Tokens at their places, and the words and punctuators that the grammar names (ES3 7.5, 7.7).
use Rattle.std.specs.Prelude.{ℕ, List, [], ◌∷◌, map, Bool, false, nat_eq, Option, Some, None, if◌then◌else◌}
use Rattle.es3_tree.specs.Token.{Token, word, punct}
use Rattle.es3_tokens.specs.Tokens as tokens

-- a token, and the byte of the source where it begins, from 0
abbrev pub Spot : Type 0
Spot = Token × ℕ

abbrev pub spots : List tokens.Placed → List Spot
spots ts = map (λ t. (t.token, t.start)) ts

-- whether two tokens are the same word or punctuator
abbrev pub same_token : Token → Token → Bool
same_token (word n) (word m) = nat_eq m n
same_token (punct n) (punct m) = nat_eq m n
same_token t u = false

-- the spot has this word or punctuator
abbrev pub is : Token → Spot → Bool
is t c = same_token t c.0

-- what a table has beside a word or a punctuator
unfoldable pub look_up : {A : Type 0} → List (Token × A) → Token → Option A
look_up [] t = None
look_up (r ∷ rs) t = if same_token r.0 t then Some r.1 else look_up rs t

abbrev pub break_word : Token
break_word = word 0

abbrev pub case_word : Token
case_word = word 1

abbrev pub catch_word : Token
catch_word = word 2

abbrev pub continue_word : Token
continue_word = word 3

abbrev pub default_word : Token
default_word = word 4

abbrev pub do_word : Token
do_word = word 6

abbrev pub else_word : Token
else_word = word 7

abbrev pub finally_word : Token
finally_word = word 8

abbrev pub for_word : Token
for_word = word 9

abbrev pub function_word : Token
function_word = word 10

abbrev pub if_word : Token
if_word = word 11

abbrev pub in_word : Token
in_word = word 12

abbrev pub new_word : Token
new_word = word 14

abbrev pub return_word : Token
return_word = word 15

abbrev pub switch_word : Token
switch_word = word 16

abbrev pub this_word : Token
this_word = word 17

abbrev pub throw_word : Token
throw_word = word 18

abbrev pub try_word : Token
try_word = word 19

abbrev pub var_word : Token
var_word = word 21

abbrev pub while_word : Token
while_word = word 23

abbrev pub with_word : Token
with_word = word 24

abbrev pub null_word : Token
null_word = word 56

abbrev pub true_word : Token
true_word = word 57

abbrev pub false_word : Token
false_word = word 58

abbrev pub open_brace : Token
open_brace = punct 0

abbrev pub close_brace : Token
close_brace = punct 1

abbrev pub open_paren : Token
open_paren = punct 2

abbrev pub close_paren : Token
close_paren = punct 3

abbrev pub open_bracket : Token
open_bracket = punct 4

abbrev pub close_bracket : Token
close_bracket = punct 5

abbrev pub point : Token
point = punct 6

-- the semicolon of the empty statement and of a `for` head
abbrev pub semicolon : Token
semicolon = punct 7

abbrev pub comma : Token
comma = punct 8

abbrev pub query : Token
query = punct 33

abbrev pub colon : Token
colon = punct 34

abbrev pub equals : Token
equals = punct 35
