-- The quick cut is the cut.
use Rattle.std.proofs.Common.{◌≡◌, ℕ, zero, suc, ◌+◌, ◌-◌, ◌||◌, ◌&&◌, Bool, true, false, cond, List, [], ◌∷◌, take, length, arith, ◌<◌, ◌≤◌, ◌++◌, subst, refl, ap, sym, ◌∙◌}
use Rattle.std.proofs.lemmas.Bool.Decides.{nat_tests}
use Rattle.std.specs.Fmt.{digits}
use Rattle.std.specs.Char.{len_utf8}
use Rattle.std.specs.List.{prefix_len}
use Rattle.std.specs.Prelude.{min, not, pos, nat_eq}
use Rattle.caja_units.specs.Number.{number_text}
use Rattle.es3_tree.specs.Token.{num}
use Rattle.es3_tokens.specs.Refusals.{goes_on}
use Rattle.es3_tokens.proofs.BackTokens.{back_token}
use Rattle.es3_tokens.specs.Characters.{is_white, is_line, is_letter, is_part, is_quote, is_digit, begins}
use Rattle.es3_tokens.specs.Tokens.{named, placed, wants_operand}
use Rattle.es3_tokens.specs.Longest.{longest}
use Rattle.es3_tokens.specs.Steps.{sign}
use Rattle.es3_tokens.specs.Texts.{body}
use Rattle.es3_tokens.specs.Steps.{text_step, begins_sign, is_sign}
use Rattle.es3_tokens.specs.Cut.{Step, token_step, Answer, skip, accept, refuse, point, goes, front, cut_from, cut_chars, width}
use Rattle.es3_tokens.proofs.Gaps.{point_white, point_line}
use Rattle.es3_tokens.proofs.Names.{point_name}
use Rattle.es3_tokens.proofs.Texts.{point_text}
use Rattle.es3_tokens.proofs.Punctuators.{point_punctuator}
use Rattle.es3_tokens.specs.Quick.{at_most, quick_point, quick_from, quick_chars}

both_true : (a b : Bool) → (a && b) ≡ true → (a ≡ true) × (b ≡ true)
both_true true true e = (refl, refl)
both_true true false e = absurd cc
both_true false b e = absurd cc

short : (n : ℕ) (s : List ℕ) → at_most n s ≡ min n (length s)
short zero s = omega arith
short (suc n) [] = omega arith
short (suc n) (c ∷ s) = let e = short n s in omega (arith, e)

digit_range : (c : ℕ) → is_digit c ≡ true → (48 ≤ c) × (c < 58)
digit_range c h = (grind (arith, nat_tests), grind (arith, nat_tests))

digit_text : (d : ℕ) → d < 10 → number_text (pos d) ≡ (48 + d) ∷ []
unfolding digits
digit_text zero lt = refl
digit_text (suc zero) lt = refl
digit_text (suc (suc zero)) lt = refl
digit_text (suc (suc (suc zero))) lt = refl
digit_text (suc (suc (suc (suc zero)))) lt = refl
digit_text (suc (suc (suc (suc (suc zero))))) lt = refl
digit_text (suc (suc (suc (suc (suc (suc zero)))))) lt = refl
digit_text (suc (suc (suc (suc (suc (suc (suc zero))))))) lt = refl
digit_text (suc (suc (suc (suc (suc (suc (suc (suc zero)))))))) lt = refl
digit_text (suc (suc (suc (suc (suc (suc (suc (suc (suc zero))))))))) lt = refl
digit_text (suc (suc (suc (suc (suc (suc (suc (suc (suc (suc d)))))))))) lt = absurd (omega (arith, lt))

point_digit : (o : Bool) (c : ℕ) (s : List ℕ) → is_digit c ≡ true → not (begins goes_on s) ≡ true → point o (c ∷ s) ≡ accept (num (pos (c - 48))) 1
point_digit o c s h g =
    let r = digit_range c h in
    let w : number_text (pos (c - 48)) ≡ c ∷ [] = digit_text (c - 48) (omega (arith, r.0, r.1)) ∙ ap (λ (n : ℕ). n ∷ []) (omega (arith, r.0)) in
    subst (λ (u : List ℕ). point o (u ++ s) ≡ accept (num (pos (c - 48))) (length u)) w (back_token o (num (pos (c - 48))) s (c - 48, refl, omega (arith, r.0, r.1)) g)

pub point_quick : (o : Bool) (c : ℕ) (s : List ℕ) → quick_point o c s ≡ point o (c ∷ s)
point_quick o c s = at_white (is_white c) refl
  where
    at_sign : (b : Bool) → (begins_sign c && is_sign o (c ∷ s)) ≡ b → cond b (token_step (longest sign (at_most 4 (c ∷ s)) (c ∷ s))) (point o (c ∷ s)) ≡ point o (c ∷ s)
    at_sign true e = let h = both_true (begins_sign c) (is_sign o (c ∷ s)) e in ap (λ n. token_step (longest sign n (c ∷ s))) (short 4 (c ∷ s)) ∙ sym (point_punctuator o c s h.0 h.1)
    at_sign false e = refl

    at_digit : (b : Bool) → (is_digit c && not (begins goes_on s)) ≡ b → cond b (accept (num (pos (c - 48))) 1) (cond (begins_sign c && is_sign o (c ∷ s)) (token_step (longest sign (at_most 4 (c ∷ s)) (c ∷ s))) (point o (c ∷ s))) ≡ point o (c ∷ s)
    at_digit true e = let h = both_true (is_digit c) (not (begins goes_on s)) e in sym (point_digit o c s h.0 h.1)
    at_digit false e = at_sign (begins_sign c && is_sign o (c ∷ s)) refl

    at_quote : (b : Bool) → is_quote c ≡ b → cond b (text_step (body c 0 s)) (cond (is_digit c && not (begins goes_on s)) (accept (num (pos (c - 48))) 1) (cond (begins_sign c && is_sign o (c ∷ s)) (token_step (longest sign (at_most 4 (c ∷ s)) (c ∷ s))) (point o (c ∷ s)))) ≡ point o (c ∷ s)
    at_quote true e = sym (point_text o c s e)
    at_quote false e = at_digit (is_digit c && not (begins goes_on s)) refl

    at_letter : (b : Bool) → is_letter c ≡ b → cond b (accept (named (c ∷ take (prefix_len is_part s) s)) (suc (prefix_len is_part s))) (cond (is_quote c) (text_step (body c 0 s)) (cond (is_digit c && not (begins goes_on s)) (accept (num (pos (c - 48))) 1) (cond (begins_sign c && is_sign o (c ∷ s)) (token_step (longest sign (at_most 4 (c ∷ s)) (c ∷ s))) (point o (c ∷ s))))) ≡ point o (c ∷ s)
    at_letter true e = sym (point_name o c s e)
    at_letter false e = at_quote (is_quote c) refl

    at_line : (b : Bool) → is_white c ≡ false → is_line c ≡ b → cond b (skip true 1) (cond (is_letter c) (accept (named (c ∷ take (prefix_len is_part s) s)) (suc (prefix_len is_part s))) (cond (is_quote c) (text_step (body c 0 s)) (cond (is_digit c && not (begins goes_on s)) (accept (num (pos (c - 48))) 1) (cond (begins_sign c && is_sign o (c ∷ s)) (token_step (longest sign (at_most 4 (c ∷ s)) (c ∷ s))) (point o (c ∷ s)))))) ≡ point o (c ∷ s)
    at_line true w e = sym (point_line o c s w e)
    at_line false w e = at_letter (is_letter c) refl

    at_white : (b : Bool) → is_white c ≡ b → cond b (skip false 1) (cond (is_line c) (skip true 1) (cond (is_letter c) (accept (named (c ∷ take (prefix_len is_part s) s)) (suc (prefix_len is_part s))) (cond (is_quote c) (text_step (body c 0 s)) (cond (is_digit c && not (begins goes_on s)) (accept (num (pos (c - 48))) 1) (cond (begins_sign c && is_sign o (c ∷ s)) (token_step (longest sign (at_most 4 (c ∷ s)) (c ∷ s))) (point o (c ∷ s))))))) ≡ point o (c ∷ s)
    at_white true e = sym (point_white o c s e)
    at_white false e = at_line (is_line c) e refl

goes_same : (f g : ℕ → Bool → Bool → Answer) → ((n : ℕ) (m q : Bool) → f n m q ≡ g n m q) → (p : ℕ) (l o : Bool) (s : List ℕ) (x : Step) → goes f p l o s x ≡ goes g p l o s x
goes_same f g h p l o s (skip m n) = h (n - 1) (l || m) o
goes_same f g h p l o s (accept t n) = ap (front (placed t p (p + width (take n s)) l)) (h (n - 1) false (wants_operand t))
goes_same f g h p l o s (refuse r) = refl

pub quick_same : (n p : ℕ) (l o : Bool) (s : List ℕ) → quick_from n p l o s ≡ cut_from n p l o s
unfolding cut_from quick_from
quick_same zero p l o [] = refl
quick_same (suc n) p l o [] = refl
quick_same (suc n) p l o (c ∷ s) = quick_same n (p + len_utf8 c) l o s
quick_same zero p l o (c ∷ s) =
    goes_same (λ n m q. quick_from n (p + len_utf8 c) m q s) (λ n m q. cut_from n (p + len_utf8 c) m q s) (λ n m q. quick_same n (p + len_utf8 c) m q s) p l o (c ∷ s) (quick_point o c s)
    ∙ ap (goes (λ n m q. cut_from n (p + len_utf8 c) m q s) p l o (c ∷ s)) (point_quick o c s)

pub chars_same : (s : List ℕ) → quick_chars s ≡ cut_chars s
chars_same [] = refl
chars_same (c ∷ s) = by_mark (nat_eq c 0xFEFF)
  where
    by_mark : (b : Bool) → cond b (quick_from 0 3 false true s) (quick_from 0 0 false true (c ∷ s)) ≡ cond b (cut_from 0 3 false true s) (cut_from 0 0 false true (c ∷ s))
    by_mark true = quick_same 0 3 false true s
    by_mark false = quick_same 0 0 false true (c ∷ s)
