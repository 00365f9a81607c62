-- A source as tokens (ES3 7): at each point a gap is skipped, or else the longest token is taken.
use Rattle.std.specs.Prelude.{ℕ, zero, suc, ◌+◌, ◌-◌, List, [], ◌∷◌, Bool, true, false, ◌||◌, nat_eq, nat_lt, Option, Some, None, Result, Ok, Err, length, take, if◌then◌else◌}
use Rattle.std.specs.List.{sum_by}
use Rattle.std.specs.Char.{len_utf8}
use Rattle.std.specs.Str.{chars, is_utf8}
use Rattle.std.specs.Str.Lossy.{utf8_valid_len}
use Rattle.es3_tree.specs.Token.{Token}
use Rattle.es3_tokens.specs.Longest.{longest}
use Rattle.es3_tokens.specs.Tokens.{Placed, placed, whole_token, wants_operand}
use Rattle.es3_tokens.specs.Gaps.{gap}
use Rattle.es3_tokens.specs.Refusals.{Refusal, not_utf8, bad_char, too_long, refusal_at}

pub data Step : Type 0 where
  -- so many characters are a gap, and whether there is a line terminator among them
  skip : Bool → ℕ → Step
  -- so many characters are this token
  accept : Token → ℕ → Step
  refuse : Refusal → Step

abbrev pub token_step : Option (Token × ℕ) → Step
token_step None = refuse bad_char
token_step (Some r) = accept r.0 r.1

abbrev pub refusal_step : Option Refusal → Step → Step
refusal_step None e = e
refusal_step (Some r) e = refuse r

abbrev pub gap_step : Option (Bool × ℕ) → Step → Step
gap_step None e = e
gap_step (Some r) e = skip r.0 r.1

-- what is done at a point before the characters s: the longest gap is skipped; else s is refused; else the longest token is taken. o: an operand is wanted
unfoldable pub point : Bool → List ℕ → Step
point o s = gap_step (longest gap (length s) s) (refusal_step (refusal_at o s) (token_step (longest whole_token (length s) s)))

-- the tokens, or the refusal and the byte where it stands
abbrev pub Answer : Type 0
Answer = Result (List Placed) (Refusal × ℕ)

abbrev pub front : Placed → Answer → Answer
front t (Ok ts) = Ok (t ∷ ts)
front t (Err e) = Err e

-- how many bytes characters take in UTF-8
abbrev pub width : List ℕ → ℕ
width s = sum_by len_utf8 s

-- a step at the byte p, at the front of s; f goes on one character later, where n characters of what was found are still to be passed
abbrev pub goes : (ℕ → Bool → Bool → Answer) → ℕ → Bool → Bool → List ℕ → Step → Answer
goes f p l o s (skip m n) = f (n - 1) (l || m) o
goes f p l o s (accept t n) = front (placed t p (p + width (take n s)) l) (f (n - 1) false (wants_operand t))
goes f p l o s (refuse r) = Err (r, p)

-- the tokens of s, which begins at the byte p, where n characters of what was found are still to be passed; l: a line terminator stands behind
-- the token before; o: an operand is wanted
unfoldable pub cut_from : ℕ → ℕ → Bool → Bool → List ℕ → Answer
cut_from n p l o [] = Ok []
cut_from (suc n) p l o (c ∷ s) = cut_from n (p + len_utf8 c) l o s
cut_from zero p l o (c ∷ s) = goes (λ n m q. cut_from n (p + len_utf8 c) m q s) p l o (c ∷ s) (point o (c ∷ s))

-- a byte order mark, which has three bytes, is skipped at the very beginning
abbrev pub cut_chars : List ℕ → Answer
cut_chars [] = Ok []
cut_chars (c ∷ s) = if nat_eq c 0xFEFF then cut_from 0 3 false true s else cut_from 0 0 false true (c ∷ s)

-- a source of bytes: first the limit, then UTF-8, then from left to right
abbrev pub cut : ℕ → List ℕ → Answer
cut limit source =
    if nat_lt limit (length source) then Err (too_long, 0)
    else if is_utf8 source then cut_chars (chars source)
    else Err (not_utf8, utf8_valid_len source)
