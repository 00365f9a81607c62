-- The number of a text (ES3 9.3.1). A text whose number is no whole number in range has none.
use Rattle.std.specs.Prelude.{ℕ, ◌-◌, ℤ, pos, Bool, ◌&&◌, ◌||◌, not, nat_eq, List, [], ◌∷◌, length, take, drop, option_map, Option, Some, None, if◌then◌else◌}
use Rattle.std.specs.List.{prefix_len, suffix_len, list_all}
use Rattle.std.specs.Str.Parse.{digits_value}
use Rattle.caja_num.specs.Numbers.{whole, negated}
use Rattle.es3_tokens.specs.Characters.{is_white, is_line, is_digit, is_hex, begins, is_empty}
use Rattle.es3_tokens.specs.Numbers.{is_x}

-- 9.3.1: what may stand at the two ends of a number
abbrev pub is_blank : ℕ → Bool
is_blank u = is_white u || is_line u

abbrev pub without_front : List ℕ → List ℕ
without_front us = drop (prefix_len is_blank us) us

abbrev pub without_end : List ℕ → List ℕ
without_end us = take (length us - suffix_len is_blank us) us

abbrev pub trimmed : List ℕ → List ℕ
trimmed us = without_end (without_front us)

-- the number that one digit or more write
abbrev pub numeral : (ℕ → Bool) → ℕ → List ℕ → Option ℤ
numeral is_a radix us = if not (is_empty us) && list_all is_a us then whole (pos (digits_value radix us)) else None

abbrev pub decimal : List ℕ → Option ℤ
decimal us = numeral is_digit 10 us

abbrev pub hexadecimal : List ℕ → Option ℤ
hexadecimal us = numeral is_hex 16 us

-- `0x` or `0X`
abbrev pub begins_hexadecimal : List ℕ → Bool
begins_hexadecimal us = begins (nat_eq 48) us && begins is_x (drop 1 us)

-- 9.3.1: a number without a sign
abbrev pub unsigned : List ℕ → Option ℤ
unsigned us = if begins_hexadecimal us then hexadecimal (drop 2 us) else decimal us

-- 9.3.1: nothing is 0; a sign stands before decimal digits alone
abbrev pub literal : List ℕ → Option ℤ
literal [] = Some (pos 0)
literal (u ∷ us) =
    if nat_eq u 43 then decimal us
    else if nat_eq u 45 then option_map negated (decimal us)
    else unsigned (u ∷ us)

abbrev pub text_number : List ℕ → Option ℤ
text_number us = literal (trimmed us)
