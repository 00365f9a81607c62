-- Numbers (ES3 7.8.3): `0`, decimal digits that don't begin with it, or hexadecimal digits behind `0x` or `0X`.
use Rattle.std.specs.Prelude.{ℕ, List, [], ◌∷◌, ◌&&◌, ◌||◌, not, Bool, nat_eq, Option, Some, None, if◌then◌else◌}
use Rattle.std.specs.List.{list_all}
use Rattle.std.specs.Str.Parse.{digits_value}
use Rattle.es3_tokens.specs.Characters.{is_digit, is_hex, is_empty}

abbrev pub is_x : ℕ → Bool
is_x c = nat_eq c 120 || nat_eq c 88

-- what stands behind a 0
abbrev pub behind_zero : List ℕ → Option ℕ
behind_zero [] = Some 0
behind_zero (x ∷ s) = if is_x x && not (is_empty s) && list_all is_hex s then Some (digits_value 16 s) else None

-- the value of the number that is these characters, all of them
abbrev pub number : List ℕ → Option ℕ
number [] = None
number (c ∷ s) =
    if nat_eq c 48 then behind_zero s
    else if is_digit c && list_all is_digit s then Some (digits_value 10 (c ∷ s))
    else None
