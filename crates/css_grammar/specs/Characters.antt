-- The classes of characters of CSS. A character is its number in Unicode.
use Rattle.std.specs.Prelude.{ℕ, Bool, true, false, ◌&&◌, ◌||◌, nat_eq, nat_le, ◌+◌, if◌then◌else◌}

pub data Class : Type 0 where
  -- a letter or `_`; whether it is a hexadecimal digit
  letter : Bool → Class
  digit dash : Class
  -- white space; whether it ends a line
  space : Bool → Class
  -- `.`, `#`, `*`, `/`, `:`, `;`, `,`, `!`, `%`
  dot number_sign star slash colon semicolon comma exclamation percent : Class
  -- `{`, `}`, `(`, `)`, `[`, `]`
  open_brace close_brace open_parenthesis close_parenthesis open_bracket close_bracket : Class
  -- `"` and `'`; `>`, `+` and `~`; the backslash; all else
  quote combinator_sign backslash other : Class

abbrev pub is_large : ℕ → Bool
is_large c = nat_le 65 c && nat_le c 90

-- a letter of ASCII as a small one
unfoldable pub lower : ℕ → ℕ
lower c = if is_large c then c + 32 else c

abbrev pub punctuation : ℕ → Class
punctuation c =
    if nat_eq c 46 then dot else if nat_eq c 35 then number_sign else if nat_eq c 42 then star else if nat_eq c 47 then slash
    else if nat_eq c 58 then colon else if nat_eq c 59 then semicolon else if nat_eq c 44 then comma else if nat_eq c 33 then exclamation
    else if nat_eq c 37 then percent else if nat_eq c 123 then open_brace else if nat_eq c 125 then close_brace else if nat_eq c 40 then open_parenthesis
    else if nat_eq c 41 then close_parenthesis else if nat_eq c 91 then open_bracket else if nat_eq c 93 then close_bracket else if nat_eq c 92 then backslash
    else if nat_eq c 34 || nat_eq c 39 then quote else if nat_eq c 62 || nat_eq c 43 || nat_eq c 126 then combinator_sign else other

unfoldable pub class : ℕ → Class
class c =
    if (nat_le 97 c && nat_le c 102) || (nat_le 65 c && nat_le c 70) then letter true
    else if (nat_le 97 c && nat_le c 122) || is_large c || nat_eq c 95 then letter false
    else if nat_le 48 c && nat_le c 57 then digit
    else if nat_eq c 45 then dash
    else if nat_eq c 10 || nat_eq c 12 || nat_eq c 13 then space true
    else if nat_eq c 9 || nat_eq c 32 then space false
    else punctuation c

-- what a word goes on with
abbrev pub is_more : Class → Bool
is_more (letter h) = true
is_more digit = true
is_more dash = true
is_more _ = false

abbrev pub is_hex : Class → Bool
is_hex (letter h) = h
is_hex digit = true
is_hex _ = false

abbrev pub is_letter : Class → Bool
is_letter (letter h) = true
is_letter _ = false

-- what stands inside parentheses and brackets as it is
abbrev pub is_inner : Class → Bool
is_inner quote = false
is_inner backslash = false
is_inner open_bracket = false
is_inner close_bracket = false
is_inner open_brace = false
is_inner close_brace = false
is_inner open_parenthesis = false
is_inner close_parenthesis = false
is_inner _ = true

-- what stands within a text in quotes q
abbrev pub is_plain : ℕ → Class → ℕ → Bool
is_plain q (space true) c = false
is_plain q backslash c = false
is_plain q quote c = if nat_eq c q then false else true
is_plain q _ c = true
