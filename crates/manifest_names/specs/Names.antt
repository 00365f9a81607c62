-- How names are spelled. They are ASCII, so that their bytes are their 16-bit units.
use Rattle.std.specs.Prelude.{ℕ, List, [], ◌∷◌, ◌++◌, Bool, false, ◌&&◌, ◌||◌, not, length, nat_eq, nat_le, nat_lt, codes}
use Rattle.std.specs.List.{list_all}
use Rattle.caja_units.specs.Units.{is_hidden}
use Rattle.es3_tree.specs.Token.{words}
use Rattle.es3_tokens.specs.Characters.{is_digit, begins}
use Rattle.es3_tokens.specs.Tokens.{is_one_of}
use Rattle.es3_tokens.specs.Tokens as tokens
use Rattle.cajita_names.specs.Rules.{fixed_names}

abbrev pub is_small : ℕ → Bool
is_small c = nat_le 97 c && nat_le c 122

-- of a cell or a module: a small letter, then up to 31 small letters and digits
abbrev pub is_name : List ℕ → Bool
is_name [] = false
is_name (c ∷ s) = is_small c && nat_lt (length s) 32 && list_all (λ c. is_small c || is_digit c) s

-- no module may import these by grants of its own
abbrev pub taken_names : List (List ℕ)
taken_names = fixed_names ++ codes "eval" ∷ codes "arguments" ∷ []

-- of a grant: a name of ES3 (7.6) that is no reserved word (7.5.1), isn't hidden, doesn't begin with `$`, and isn't taken
abbrev pub is_grant_name : List ℕ → Bool
is_grant_name s =
    tokens.is_name s && not (is_one_of s words) && not (is_hidden s) && not (begins (λ c. nat_eq c 36) s) && not (is_one_of s taken_names)
