-- The classes of characters of HTML. A character is its number in Unicode.
use Rattle.std.specs.Prelude.{ℕ, List, [], ◌∷◌, Bool, false, ◌&&◌, ◌||◌, nat_eq, nat_le, ◌+◌, if◌then◌else◌}

-- the tab, the line feed, the form feed, the carriage return and the space
abbrev pub is_space : ℕ → Bool
is_space c = nat_eq c 9 || nat_eq c 10 || nat_eq c 12 || nat_eq c 13 || nat_eq c 32

abbrev pub is_large : ℕ → Bool
is_large c = nat_le 65 c && nat_le c 90

abbrev pub is_letter : ℕ → Bool
is_letter c = (nat_le 97 c && nat_le c 122) || is_large c

abbrev pub is_digit : ℕ → Bool
is_digit c = nat_le 48 c && nat_le c 57

abbrev pub is_hex : ℕ → Bool
is_hex c = is_digit c || (nat_le 97 c && nat_le c 102) || (nat_le 65 c && nat_le c 70)

-- what the name of a tag or of a character is made of
abbrev pub is_word : ℕ → Bool
is_word c = is_letter c || is_digit c

-- what the name of an attribute is made of
abbrev pub is_attr : ℕ → Bool
is_attr c = is_word c || nat_eq c 45 || nat_eq c 95 || nat_eq c 58

abbrev pub is_quote : ℕ → Bool
is_quote c = nat_eq c 34 || nat_eq c 39

-- a letter of ASCII as a small one
abbrev pub lower : ℕ → ℕ
lower c = if is_large c then c + 32 else c

-- whether characters begin with one of a class
abbrev pub begins : (ℕ → Bool) → List ℕ → Bool
begins p [] = false
begins p (c ∷ s) = p c

abbrev pub is : ℕ → ℕ → Bool
is d c = nat_eq c d

-- whether what stands behind a `<` makes it markup
abbrev pub is_mark : ℕ → Bool
is_mark c = is_letter c || nat_eq c 47 || nat_eq c 33

-- a `<` that a letter, `/` or `!` follows; any other is text
abbrev pub begins_markup : List ℕ → Bool
begins_markup [] = false
begins_markup (c ∷ s) = nat_eq c 60 && begins is_mark s

-- what ends a value that stands in no quotes
abbrev pub is_bare_end : ℕ → Bool
is_bare_end c = is_space c || nat_eq c 62
