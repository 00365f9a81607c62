-- Why a source isn't cut.
use Rattle.std.specs.Prelude.{ℕ, ◌^◌, List, [], ◌∷◌, Bool, ◌||◌, nat_eq, nat_lt, Option, Some, None, length, drop, if◌then◌else◌}
use Rattle.es3_tokens.specs.Characters.{is_digit, is_part, is_quote, is_slash, is_star, begins}
use Rattle.es3_tokens.specs.Longest.{longest}
use Rattle.es3_tokens.specs.Numbers.{number}
use Rattle.es3_tokens.specs.Texts.{Reading, closed, unclosed, broken, body}

pub data Refusal : Type 0 where
  not_utf8 bad_char open_string open_comment bad_escape number_form number_too_large escape_in_name reg_exp too_long : Refusal

-- 7.8.4
abbrev pub text_fault : Reading → Option Refusal
text_fault (closed us n) = None
text_fault unclosed = Some open_string
text_fault broken = Some bad_escape

-- 7.8.3: what may not follow a number: a point or part of a name
abbrev pub goes_on : ℕ → Bool
goes_on c = nat_eq c 46 || is_part c

-- 7.8.3: of the longest number, with its length, at the front of s: its form comes before its size
abbrev pub number_fault : Option (ℕ × ℕ) → List ℕ → Option Refusal
number_fault None s = None
number_fault (Some r) s =
    if begins goes_on (drop r.1 s) then Some number_form
    else if nat_lt r.0 (2 ^ 53) then None
    else Some number_too_large

-- the refusal at a point where there is no gap; o: an operand is wanted, so that `/` begins a regular expression (7.8.5)
abbrev pub refusal_at : Bool → List ℕ → Option Refusal
refusal_at o [] = None
refusal_at o (c ∷ s) =
    if nat_eq c 92 then Some escape_in_name
    else if is_quote c then text_fault (body c 0 s)
    else if is_slash c then (if begins is_star s then Some open_comment else if o then Some reg_exp else None)
    else if nat_eq c 46 then (if begins is_digit s then Some number_form else None)
    else number_fault (longest number (length (c ∷ s)) (c ∷ s)) (c ∷ s)
