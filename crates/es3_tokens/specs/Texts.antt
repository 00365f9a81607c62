-- Texts in quotes (ES3 7.8.4).
use Rattle.std.specs.Prelude.{ℕ, zero, suc, ◌+◌, List, [], ◌∷◌, ◌++◌, ◌&&◌, ◌||◌, nat_eq, nat_le, Option, Some, None, if◌then◌else◌, length, take}
use Rattle.std.specs.List.{list_all}
use Rattle.std.specs.Char.Escape.{encode_utf16}
use Rattle.std.specs.Str.Parse.{digits_value}
use Rattle.es3_tokens.specs.Characters.{is_line, is_digit, is_hex, is_quote, begins}

-- what is read of a text: its units, and how many characters it has; or its first fault
pub data Reading : Type 0 where
  closed : List ℕ → ℕ → Reading
  unclosed broken : Reading

-- `\x` or `\u` with n hexadecimal digits
abbrev pub by_digits : ℕ → List ℕ → Reading
by_digits n s = if nat_le n (length s) && list_all is_hex (take n s) then closed (digits_value 16 (take n s) ∷ []) (n + 1) else broken

-- what stands behind a backslash: an escape, and how many characters it has. Where nothing stands there, the text isn't closed; any other
-- character than these, which is no digit and no line terminator, stands for itself
abbrev pub escape : List ℕ → Reading
escape [] = unclosed
escape (c ∷ s) =
    if nat_eq c 98 then closed (8 ∷ []) 1
    else if nat_eq c 116 then closed (9 ∷ []) 1
    else if nat_eq c 110 then closed (10 ∷ []) 1
    else if nat_eq c 118 then closed (11 ∷ []) 1
    else if nat_eq c 102 then closed (12 ∷ []) 1
    else if nat_eq c 114 then closed (13 ∷ []) 1
    else if nat_eq c 120 then by_digits 2 s
    else if nat_eq c 117 then by_digits 4 s
    else if nat_eq c 48 then (if begins is_digit s then broken else closed (0 ∷ []) 1)
    else if is_digit c || is_line c then broken
    else closed (encode_utf16 c) 1

-- the same with n more characters before it, which stand for these units
abbrev pub after : List ℕ → ℕ → Reading → Reading
after us n (closed vs m) = closed (us ++ vs) (n + m)
after us n unclosed = unclosed
after us n broken = broken

-- a backslash, an escape, and by f what follows it
abbrev pub escaped : (ℕ → Reading) → Reading → Reading
escaped f (closed us n) = after us 1 (f n)
escaped f unclosed = unclosed
escaped f broken = broken

-- what stands behind the opening quote q, up to and with the closing one; n characters of an escape are still to be passed
unfoldable pub body : ℕ → ℕ → List ℕ → Reading
body q n [] = unclosed
body q (suc n) (c ∷ s) = after [] 1 (body q n s)
body q zero (c ∷ s) =
    if nat_eq c q then closed [] 1
    else if is_line c then unclosed
    else if nat_eq c 92 then escaped (λ n. body q n s) (escape s)
    else after (encode_utf16 c) 1 (body q zero s)

-- the units, where the text closes with its kth character
abbrev pub units_of : ℕ → Reading → Option (List ℕ)
units_of k (closed us n) = if nat_eq k n then Some us else None
units_of k unclosed = None
units_of k broken = None

-- the units of the text that is these characters, all of them
abbrev pub text_units : List ℕ → Option (List ℕ)
text_units [] = None
text_units (q ∷ s) = if is_quote q then units_of (length s) (body q 0 s) else None
