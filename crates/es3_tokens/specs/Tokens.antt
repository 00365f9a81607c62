-- What a whole text is as a token (ES3 7.5 to 7.8), and tokens at their places.
use Rattle.std.specs.Prelude.{ℕ, pos, List, [], ◌∷◌, Bool, false, ◌&&◌, not, Option, Some, None, codes, slice_get, unwrap_or, if◌then◌else◌}
use Rattle.std.specs.List.{list_all, list_any, position_from}
use Rattle.caja_units.specs.Units.{same_units}
use Rattle.es3_tree.specs.Token.{Token, name, word, punct, num, text, words, puncts}
use Rattle.es3_tokens.specs.Characters.{is_letter, is_part}
use Rattle.es3_tokens.specs.Numbers.{number}
use Rattle.es3_tokens.specs.Texts.{text_units}

-- a token in its source: the byte where it begins and the one behind its end, from 0, and whether a line terminator stands
-- between it and the token before it, or before the first token (7.3, 7.9)
pub record Placed : Type 0 where
  pub token : Token
  pub start : ℕ
  pub end : ℕ
  pub line : Bool

abbrev pub placed : Token → ℕ → ℕ → Bool → Placed
placed t start end line = record { token = t; start = start; end = end; line = line }

-- the place of a text in a table
abbrev pub place_in : List (List ℕ) → List ℕ → Option ℕ
place_in table s = position_from (same_units s) 0 table

abbrev pub is_name : List ℕ → Bool
is_name [] = false
is_name (c ∷ s) = is_letter c && list_all is_part s

-- 7.5.1: a keyword or another reserved word is no name
abbrev pub name_or_word : List ℕ → Option ℕ → Token
name_or_word s None = name s
name_or_word s (Some n) = word n

abbrev pub named : List ℕ → Token
named s = name_or_word s (place_in words s)

abbrev pub made : {A : Type 0} → (A → Token) → Option A → Option Token
made f None = None
made f (Some a) = Some (f a)

abbrev pub or_else : {A : Type 0} → Option A → Option A → Option A
or_else None o = o
or_else (Some a) o = Some a

-- 7: the token that is these characters, all of them
abbrev pub whole_token : List ℕ → Option Token
whole_token s =
    if is_name s then Some (named s)
    else or_else (made (λ n. num (pos n)) (number s)) (or_else (made text (text_units s)) (made punct (place_in puncts s)))

-- an entry of a table, or nothing past its end
abbrev pub entry : List (List ℕ) → ℕ → List ℕ
entry table n = unwrap_or (slice_get table n) []

abbrev pub is_one_of : List ℕ → List (List ℕ) → Bool
is_one_of s table = list_any (same_units s) table

-- 7.8.5, 11: behind which tokens `/` is no division, since an operand is wanted there: a word other than these four, a punctuator other than these five
abbrev pub wants_operand : Token → Bool
wants_operand (name s) = false
wants_operand (word n) = not (is_one_of (entry words n) (codes "this" ∷ codes "null" ∷ codes "true" ∷ codes "false" ∷ []))
wants_operand (punct n) = not (is_one_of (entry puncts n) (codes ")" ∷ codes "]" ∷ codes "}" ∷ codes "++" ∷ codes "--" ∷ []))
wants_operand (num n) = false
wants_operand (text s) = false
