-- The laws of a point for characters that are not split, as the code has them: white space, line terminators, backslashes and texts.
use Rattle.std.proofs.Common.{◌≡◌, ℕ, ◌-◌, ◌<◌, Bool, true, false, List, [], ◌∷◌, sym, ap, ◌∙◌, arith, length, take, drop, get_or}
use Rattle.std.proofs.Math.Seq.{take-length}
use Rattle.std.proofs.lemmas.List.{length-drop}
use Rattle.es3_tokens.proofs.Gaps.{point_backslash, point_line, point_white}
use Rattle.es3_tokens.proofs.Texts.{point_text}
use Rattle.es3_tokens.specs.Characters.{begins, is_line, is_quote, is_white}
use Rattle.es3_tokens.specs.Cut.{point, refuse, skip}
use Rattle.es3_tokens.specs.Refusals.{escape_in_name}
use Rattle.es3_tokens.specs.Steps.{text_step}
use Rattle.es3_tokens.specs.Texts.{body}

-- what is left of a text, as a slice to its end has it
pub rest_is : (n : ℕ) (s : List ℕ) → take (length s - n) (drop n s) ≡ drop n s
rest_is n s = ap (λ k. take k (drop n s)) (sym (length-drop n s)) ∙ take-length (drop n s)

pub white_front : (o : Bool) (s : List ℕ) (d : ℕ) → 0 < length s → is_white (get_or s 0 d) ≡ true → point o s ≡ skip false 1
white_front o [] d lt h = absurd (omega arith)
white_front o (c ∷ s) d lt h = point_white o c s h

pub line_front : (o : Bool) (s : List ℕ) (d : ℕ) → 0 < length s → is_white (get_or s 0 d) ≡ false → is_line (get_or s 0 d) ≡ true → point o s ≡ skip true 1
line_front o [] d lt g h = absurd (omega arith)
line_front o (c ∷ s) d lt g h = point_line o c s g h

pub first_front : (p : ℕ → Bool) (s : List ℕ) (d : ℕ) → 0 < length s → p (get_or s 0 d) ≡ true → begins p s ≡ true
first_front p [] d lt h = absurd (omega arith)
first_front p (c ∷ s) d lt h = h

pub backslash_front : (o : Bool) (s : List ℕ) (d : ℕ) → 0 < length s → get_or s 0 d ≡ 92 → point o s ≡ refuse escape_in_name
backslash_front o [] d lt h = absurd (omega arith)
backslash_front o (c ∷ s) d lt h = rw h (point_backslash o s)

pub text_front : (o : Bool) (s : List ℕ) (d : ℕ) → begins is_quote s ≡ true → point o s ≡ text_step (body (get_or s 0 d) 0 (drop 1 s))
text_front o [] d h = absurd cc
text_front o (c ∷ s) d h = point_text o c s h
