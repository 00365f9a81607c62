-- The classes of characters of a source. A character is its number in Unicode.
use Rattle.std.specs.Prelude.{ℕ, List, [], ◌∷◌, Bool, true, false, ◌&&◌, ◌||◌, nat_eq, nat_le}

-- 7.2: white space is the tab, the vertical tab, the form feed, the space and the no-break space, and no other space separator
abbrev pub is_white : ℕ → Bool
is_white c = nat_eq c 0x9 || nat_eq c 0xB || nat_eq c 0xC || nat_eq c 0x20 || nat_eq c 0xA0

-- 7.3: line terminators are the line feed, the carriage return, the line separator and the paragraph separator
abbrev pub is_line : ℕ → Bool
is_line c = nat_eq c 0xA || nat_eq c 0xD || nat_eq c 0x2028 || nat_eq c 0x2029

-- 7.6: what begins a name is a letter of ASCII, `_` or `$`
abbrev pub is_letter : ℕ → Bool
is_letter c = (nat_le 97 c && nat_le c 122) || (nat_le 65 c && nat_le c 90) || nat_eq c 95 || nat_eq c 36

-- 7.8.3
abbrev pub is_digit : ℕ → Bool
is_digit c = nat_le 48 c && nat_le c 57

abbrev pub is_hex : ℕ → Bool
is_hex c = (nat_le 48 c && nat_le c 57) || (nat_le 97 c && nat_le c 102) || (nat_le 65 c && nat_le c 70)

-- 7.6: what a name goes on with
abbrev pub is_part : ℕ → Bool
is_part c = is_letter c || is_digit c

-- 7.8.4
abbrev pub is_quote : ℕ → Bool
is_quote c = nat_eq c 34 || nat_eq c 39

abbrev pub is_slash : ℕ → Bool
is_slash c = nat_eq c 47

abbrev pub is_star : ℕ → Bool
is_star c = nat_eq c 42

-- whether characters begin with one of a class
abbrev pub begins : (ℕ → Bool) → List ℕ → Bool
begins p [] = false
begins p (c ∷ s) = p c

abbrev pub is_empty : List ℕ → Bool
is_empty [] = true
is_empty (c ∷ s) = false
