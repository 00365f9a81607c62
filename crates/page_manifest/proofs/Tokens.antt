-- A text has at most one token more than it has bytes.
use Rattle.std.proofs.Common.{ℕ, ◌+◌, ◌≤◌, Bool, true, false, List, [], ◌∷◌, length, arith}
use Rattle.json.specs.Token.{Token, begin_object, end_object, begin_array, end_array, key, string, number, boolean, null, bad}
use Rattle.json.specs.Lex.{Lexeme, token, comma, colon, Class, quote, backslash, operator, space, other, Mode, between, in_word, in_string, in_escape, class, lex_byte, lex, Place, fresh, after_value, after_comma, after_key, begins_colon, if_allowed, place_token, punctuate, tokens}

length-lex_byte : (m : Mode) (c : Class) (x : ℕ) (xs : List ℕ) (k : Mode → List Lexeme) (n : ℕ) → ((next : Mode) → length (k next) ≤ n) → length (lex_byte m c x xs k) ≤ n + 1
length-lex_byte between quote x xs k n h = omega (arith, h in_string)
length-lex_byte between backslash x xs k n h = omega (arith, h in_word)
length-lex_byte between operator x xs k n h = omega (arith, h between)
length-lex_byte between space x xs k n h = omega (arith, h between)
length-lex_byte between other x xs k n h = omega (arith, h in_word)
length-lex_byte in_word quote x xs k n h = omega (arith, h in_word)
length-lex_byte in_word backslash x xs k n h = omega (arith, h in_word)
length-lex_byte in_word operator x xs k n h = omega (arith, h between)
length-lex_byte in_word space x xs k n h = omega (arith, h between)
length-lex_byte in_word other x xs k n h = omega (arith, h in_word)
length-lex_byte in_string quote x xs k n h = omega (arith, h between)
length-lex_byte in_string backslash x xs k n h = omega (arith, h in_escape)
length-lex_byte in_string operator x xs k n h = omega (arith, h in_string)
length-lex_byte in_string space x xs k n h = omega (arith, h in_string)
length-lex_byte in_string other x xs k n h = omega (arith, h in_string)
length-lex_byte in_escape c x xs k n h = omega (arith, h in_string)

length-lex : (m : Mode) (xs : List ℕ) → length (lex m xs) ≤ length xs
unfolding lex
length-lex m [] = omega arith
length-lex m (x ∷ xs) = omega (arith, length-lex_byte m (class x) x xs (λ next. lex next xs) (length xs) (λ next. length-lex next xs))

length-if_allowed : (b : Bool) (t : Token) (k : Place → List Token) (next : Place) (n : ℕ) → length (k next) ≤ n → length (if_allowed b t k next) ≤ n + 1
length-if_allowed true t k next n h = omega arith
length-if_allowed false t k next n h = omega arith

length-place_token : (p : Place) (t : Token) (c : Bool) (k : Place → List Token) (n : ℕ) → ((next : Place) → length (k next) ≤ n) → length (place_token p t c k) ≤ n + 1
length-place_token p begin_object c k n h = length-if_allowed _ begin_object k fresh n (h fresh)
length-place_token p end_object c k n h = length-if_allowed _ end_object k after_value n (h after_value)
length-place_token p begin_array c k n h = length-if_allowed _ begin_array k fresh n (h fresh)
length-place_token p end_array c k n h = length-if_allowed _ end_array k after_value n (h after_value)
length-place_token p (key s) c k n h = omega arith
length-place_token p (string s) true k n h = length-if_allowed _ (key s) k after_key n (h after_key)
length-place_token p (string s) false k n h = length-if_allowed _ (string s) k after_value n (h after_value)
length-place_token p (number s) c k n h = length-if_allowed _ (number s) k after_value n (h after_value)
length-place_token p (boolean b) c k n h = length-if_allowed _ (boolean b) k after_value n (h after_value)
length-place_token p null c k n h = length-if_allowed _ null k after_value n (h after_value)
length-place_token p bad c k n h = omega arith

length-punctuate : (p : Place) (ls : List Lexeme) → length (punctuate p ls) ≤ length ls + 1
unfolding punctuate
length-punctuate fresh [] = omega arith
length-punctuate after_value [] = omega arith
length-punctuate after_comma [] = omega arith
length-punctuate after_key [] = omega arith
length-punctuate fresh (token t ∷ ls) = omega (arith, length-place_token fresh t (begins_colon ls) (λ next. punctuate next ls) (length ls + 1) (λ next. length-punctuate next ls))
length-punctuate after_value (token t ∷ ls) = omega (arith, length-place_token after_value t (begins_colon ls) (λ next. punctuate next ls) (length ls + 1) (λ next. length-punctuate next ls))
length-punctuate after_comma (token t ∷ ls) = omega (arith, length-place_token after_comma t (begins_colon ls) (λ next. punctuate next ls) (length ls + 1) (λ next. length-punctuate next ls))
length-punctuate after_key (token t ∷ ls) = omega (arith, length-place_token after_key t (begins_colon ls) (λ next. punctuate next ls) (length ls + 1) (λ next. length-punctuate next ls))
length-punctuate fresh (comma ∷ ls) = omega arith
length-punctuate after_value (comma ∷ ls) = omega (arith, length-punctuate after_comma ls)
length-punctuate after_comma (comma ∷ ls) = omega arith
length-punctuate after_key (comma ∷ ls) = omega arith
length-punctuate fresh (colon ∷ ls) = omega arith
length-punctuate after_value (colon ∷ ls) = omega arith
length-punctuate after_comma (colon ∷ ls) = omega arith
length-punctuate after_key (colon ∷ ls) = omega (arith, length-punctuate fresh ls)

pub length-tokens : (text : List ℕ) → length (tokens text) ≤ length text + 1
length-tokens text = omega (arith, length-punctuate fresh (lex between text), length-lex between text)
