-- Words for the laws of `point`. `cut` itself knows nothing of them.
use Rattle.std.specs.Prelude.{ℕ, suc, ◌+◌, ◌^◌, ◌≡◌, ◌<◌, ◌≤◌, ◌++◌, Ok, Err, List, [], ◌∷◌, Bool, true, false, ◌&&◌, ◌||◌, not, nat_eq, Option, Some, None, length, min, pos}
use Rattle.es3_tree.specs.Token.{Token, punct, text, num, puncts}
use Rattle.es3_tokens.specs.Characters.{is_white, is_line, is_letter, is_digit, is_quote, is_slash, is_star, begins}
use Rattle.es3_tokens.specs.Tokens.{Placed, made, place_in}
use Rattle.es3_tokens.specs.Longest.{longest}
use Rattle.es3_tokens.specs.Refusals.{open_string, bad_escape, number_fault}
use Rattle.es3_tokens.specs.Texts.{Reading, closed, unclosed, broken}
use Rattle.es3_tokens.specs.Cut.{Answer, Step, skip, accept, refuse, token_step, refusal_step}

abbrev pub sign : List ℕ → Option Token
sign w = made punct (place_in puncts w)

-- the step at a character that begins a punctuator or nothing: no punctuator has more than four characters
abbrev pub sign_step : List ℕ → Step
sign_step s = token_step (longest sign (min 4 (length s)) s)

-- 7.7: what begins a punctuator or nothing: no gap, but for a comment, no name, no number and no text
abbrev pub begins_sign : ℕ → Bool
begins_sign c = not (is_white c) && not (is_line c) && not (nat_eq c 92) && not (is_quote c) && not (is_letter c) && not (is_digit c)

-- 7.4, 7.8.3, 7.8.5: whether no number, no comment and no regular expression begins with these characters; o: an operand is wanted
abbrev pub is_sign : Bool → List ℕ → Bool
is_sign o [] = true
is_sign o (c ∷ s) = not (nat_eq c 46 && begins is_digit s) && not (is_slash c && (o || begins is_slash s || begins is_star s))

abbrev pub text_step : Reading → Step
text_step (closed us n) = accept (text us) (suc n)
text_step unclosed = refuse open_string
text_step broken = refuse bad_escape

abbrev pub with_number : Option (ℕ × ℕ) → Option (Token × ℕ)
with_number None = None
with_number (Some r) = Some (num (pos r.0), r.1)

-- the step at a digit, by the longest number at the front of s
abbrev pub number_step : Option (ℕ × ℕ) → List ℕ → Step
number_step r s = refusal_step (number_fault r s) (token_step (with_number r))

-- a value, of which only the part up to 2^53 is kept, and a length
abbrev pub IsNumber : ℕ × ℕ → Option (ℕ × ℕ) → Type 0
IsNumber p None = ⊥
IsNumber p (Some r) = (p.0 ≡ min r.0 (2 ^ 53)) × (p.1 ≡ r.1)

-- the same, n characters later
abbrev pub later : ℕ → Option ℕ → Option ℕ
later n None = None
later n (Some k) = Some (n + k)

-- whether characters begin with `*/`
abbrev pub closes : List ℕ → Bool
closes [] = false
closes (c ∷ s) = is_star c && begins is_slash s

-- what is skipped or taken at a point is some characters, and no more than there are
abbrev pub Fits : ℕ → Step → Type 0
Fits n (skip m k) = (0 < k) × (k ≤ n)
Fits n (accept t k) = (0 < k) × (k ≤ n)
Fits n (refuse r) = Unit {0}

-- these tokens before what is answered
abbrev pub fronts : List Placed → Answer → Answer
fronts ts (Ok us) = Ok (ts ++ us)
fronts ts (Err e) = Err e
