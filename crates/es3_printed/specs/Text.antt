-- The text of tokens: one after another, with a space where two would run together.
use Rattle.std.specs.Prelude.{ℕ, ◌&&◌, ◌||◌, Bool, List, [], ◌∷◌, ◌++◌, Option, Some, None, nat_eq, slice_get, if◌then◌else◌}
use Rattle.caja_units.specs.Utf8.{utf8_of}
use Rattle.es3_tree.specs.Token.{Token, name, word, punct, num, text}
use Rattle.es3_tokens.specs.Characters.{is_part}
use Rattle.es3_tokens.specs.Back.{spelling}

-- 7.5 to 7.8: how a token is written, in bytes: a name in UTF-8, a number in decimal digits, a text in double quotes
abbrev pub token_text : Token → List ℕ
token_text (name us) = utf8_of us
token_text (word n) = spelling (word n)
token_text (punct n) = spelling (punct n)
token_text (num n) = spelling (num n)
token_text (text us) = spelling (text us)

-- two characters that a space must keep apart: parts of words, `++`, `--`, `<!` and `]>`
abbrev pub runs_together : ℕ → ℕ → Bool
runs_together a b =
    (is_part a && is_part b) || (nat_eq a 43 && nat_eq b 43) || (nat_eq a 45 && nat_eq b 45) || (nat_eq a 60 && nat_eq b 33) || (nat_eq a 93 && nat_eq b 62)

abbrev pub last_of : List ℕ → Option ℕ
last_of [] = None
last_of (c ∷ []) = Some c
last_of (c ∷ d ∷ s) = last_of (d ∷ s)

abbrev pub gap_between : Option ℕ → Option ℕ → List ℕ
gap_between (Some a) (Some b) = if runs_together a b then 32 ∷ [] else []
gap_between a b = []

-- a token's text behind a text
abbrev pub then_text : List ℕ → List ℕ → List ℕ
then_text out w = out ++ (gap_between (last_of out) (slice_get w 0) ++ w)

-- tokens behind a text
abbrev pub onto : List ℕ → List Token → List ℕ
onto out [] = out
onto out (t ∷ ts) = onto (then_text out (token_text t)) ts
