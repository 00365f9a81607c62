-- The cut of a source again, by what a point says of its first character: it is computed in line with the length, where the cut itself tries every front.
use Rattle.std.specs.Prelude.{ℕ, zero, suc, ◌+◌, ◌-◌, pos, not, ◌&&◌, Bool, true, false, List, [], ◌∷◌, take, nat_eq, Ok, if◌then◌else◌}
use Rattle.std.specs.List.{prefix_len}
use Rattle.std.specs.Char.{len_utf8}
use Rattle.es3_tokens.specs.Characters.{is_white, is_line, is_letter, is_part, is_quote, is_digit, begins}
use Rattle.es3_tokens.specs.Refusals.{goes_on}
use Rattle.es3_tree.specs.Token.{num}
use Rattle.es3_tokens.specs.Tokens.{named}
use Rattle.es3_tokens.specs.Longest.{longest}
use Rattle.es3_tokens.specs.Texts.{body}
use Rattle.es3_tokens.specs.Steps.{text_step, begins_sign, is_sign}
use Rattle.es3_tokens.specs.Cut.{Step, Answer, skip, accept, token_step, point, goes}
use Rattle.es3_tokens.specs.Steps.{sign}

-- how many characters there are, but at most n
abbrev pub at_most : ℕ → List ℕ → ℕ
at_most zero s = zero
at_most (suc n) [] = zero
at_most (suc n) (c ∷ s) = suc (at_most n s)

-- at a gap, a name, a text, a single digit or a punctuator the first character tells which token is longest; at all else the point itself does
abbrev pub quick_point : Bool → ℕ → List ℕ → Step
quick_point o c s =
    if is_white c then skip false 1
    else if is_line c then skip true 1
    else if is_letter c then accept (named (c ∷ take (prefix_len is_part s) s)) (suc (prefix_len is_part s))
    else if is_quote c then text_step (body c 0 s)
    else if is_digit c && not (begins goes_on s) then accept (num (pos (c - 48))) 1
    else if begins_sign c && is_sign o (c ∷ s) then token_step (longest sign (at_most 4 (c ∷ s)) (c ∷ s))
    else point o (c ∷ s)

-- the tokens of s, as the cut has them
unfoldable pub quick_from : ℕ → ℕ → Bool → Bool → List ℕ → Answer
quick_from n p l o [] = Ok []
quick_from (suc n) p l o (c ∷ s) = quick_from n (p + len_utf8 c) l o s
quick_from zero p l o (c ∷ s) = goes (λ n m q. quick_from n (p + len_utf8 c) m q s) p l o (c ∷ s) (quick_point o c s)

-- of characters, with the byte order mark skipped at the very beginning
abbrev pub quick_chars : List ℕ → Answer
quick_chars [] = Ok []
quick_chars (c ∷ s) = if nat_eq c 0xFEFF then quick_from 0 3 false true s else quick_from 0 0 false true (c ∷ s)
