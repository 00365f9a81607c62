-- Texts that a page may hold in a script element or in a CDATA section, and the tokens whose text is one.
use Rattle.std.specs.Prelude.{ℕ, Bool, true, false, ◌&&◌, ◌||◌, not, IsTrue, List, [], ◌∷◌, nat_lt, nat_eq}
use Rattle.std.specs.List.{All, list_all}
use Rattle.es3_tree.specs.Token.{Token, name}
use Rattle.es3_tokens.specs.Characters.{is_part}

-- two characters that begin or end markup: `</`, `<!` and `]>`
abbrev pub is_markup : ℕ → ℕ → Bool
is_markup a b = (nat_eq a 60 && nat_eq b 47) || (nat_eq a 60 && nat_eq b 33) || (nat_eq a 93 && nat_eq b 62)

-- ASCII, with no `</`, no `<!` and no `]>`, so no `]]>`
abbrev pub is_safe : List ℕ → Bool
is_safe [] = true
is_safe (c ∷ []) = nat_lt c 128
is_safe (c ∷ d ∷ s) = nat_lt c 128 && not (is_markup c d) && is_safe (d ∷ s)

-- 7.6: a token that, where it is a name, has some letters of ASCII, digits, `_` or `$`, and nothing else
abbrev pub is_word : List ℕ → Bool
is_word [] = false
is_word (c ∷ s) = is_part c && list_all is_part s

abbrev pub IsWord : Token → Type 0
IsWord (name us) = IsTrue (is_word us)
IsWord t = Unit {0}

abbrev pub AreWords : List Token → Type 0
AreWords ts = All IsWord ts
