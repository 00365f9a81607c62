-- How tokens are written, and when what is written is cut into the same tokens.
use Rattle.std.specs.Prelude.{ℕ, ◌^◌, ◌<◌, ◌≡◌, pos, List, [], ◌∷◌, ◌++◌, Bool, true, false, ◌&&◌, not, nat_eq, Option, Some, None, Ok, Err, length, map}
use Rattle.std.specs.List.{All}
use Rattle.caja_units.specs.Literal.{literal}
use Rattle.caja_units.specs.Number.{number_text}
use Rattle.es3_tree.specs.Token.{Token, name, word, punct, num, text, words, puncts}
use Rattle.es3_tokens.specs.Characters.{is_part, begins}
use Rattle.es3_tokens.specs.Tokens.{is_name, place_in, entry, wants_operand}
use Rattle.es3_tokens.specs.Refusals.{goes_on}
use Rattle.es3_tokens.specs.Cut.{Answer}
use Rattle.es3_tokens.specs.Steps.{is_sign}

-- 7.5 to 7.8: how a token is written: a number in decimal digits, a text in double quotes
abbrev pub spelling : Token → List ℕ
spelling (name us) = us
spelling (word n) = entry words n
spelling (punct n) = entry puncts n
spelling (num n) = number_text n
spelling (text us) = literal us

-- what the tokens of a source are
abbrev pub IsToken : Token → Type 0
IsToken (name us) = (is_name us ≡ true) × (place_in words us ≡ None)
IsToken (word n) = n < length words
IsToken (punct n) = n < length puncts
IsToken (num n) = (m : ℕ) × (n ≡ pos m) × (m < 2 ^ 53)
IsToken (text us) = All (λ u. u < 65536) us

-- whether the text t begins with the text s
abbrev pub is_front : List ℕ → List ℕ → Bool
is_front [] t = true
is_front (c ∷ s) [] = false
is_front (c ∷ s) (d ∷ t) = nat_eq c d && is_front s t

-- whether no entry of a table begins with the text s
abbrev pub fronts_none : List ℕ → List (List ℕ) → Bool
fronts_none s [] = true
fronts_none s (p ∷ ps) = not (is_front s p) && fronts_none s ps

-- 7.7: whether no punctuator goes on from w with the first character of r
abbrev pub is_apart : List ℕ → List ℕ → Bool
is_apart w [] = true
is_apart w (d ∷ r) = fronts_none (w ++ d ∷ []) puncts

-- whether a token is read back as it is before the characters r; o: an operand is wanted where it stands
abbrev pub stays : Bool → Token → List ℕ → Bool
stays o (name us) r = not (begins is_part r)
stays o (word n) r = not (begins is_part r)
stays o (num n) r = not (begins goes_on r)
stays o (text us) r = true
stays o (punct n) r = is_apart (entry puncts n) r && is_sign o (entry puncts n ++ r)

-- tokens one after another, with a space before those that are marked
abbrev pub spaced : Bool → List ℕ → List ℕ
spaced true s = 32 ∷ s
spaced false s = s

abbrev pub spelled : List (Bool × Token) → List ℕ
spelled [] = []
spelled (x ∷ ts) = spaced x.0 (spelling x.1 ++ spelled ts)

-- whether each of them stays before what follows it
abbrev pub AllStay : Bool → List (Bool × Token) → Type 0
AllStay o [] = Unit {0}
AllStay o (x ∷ ts) = IsToken x.1 × (stays o x.1 (spelled ts) ≡ true) × AllStay (wants_operand x.1) ts

-- the tokens of an answer, without their places
abbrev pub tokens_in : Answer → Option (List Token)
tokens_in (Ok ts) = Some (map (λ t. t.token) ts)
tokens_in (Err e) = None
