use Rattle.std.proofs.Common.{ℕ, ◌≡◌, List, sym, ap, subst, ◌∙◌, arith, true, false, drop}
use Rattle.std.proofs.lemmas.Bool.Decides.{nat_tests}
use Rattle.es3_lexer.proofs.point.step_at.Goals as goal
use Rattle.es3_lexer.proofs.Fronts.{backslash_front, first_front, line_front, rest_is, text_front, white_front}
use Rattle.es3_lexer.proofs.Oks.{ok_more}
use Rattle.es3_lexer.proofs.SignFronts.{sign_front}
use Rattle.es3_tokens.specs.Characters.{is_digit, is_letter, is_line, is_quote, is_white}
use Rattle.es3_tokens.specs.Steps.{text_step}
use Rattle.es3_tokens.specs.Texts.{body}

pub returns-then-is_white : goal.returns-then-is_white
returns-then-is_white c = sym (white_front c.args.operand c.args.s.now c.index-s-0.result c.requires (ap is_white (sym c.index-s-0.is) ∙ sym c.is_white.ensures ∙ c.if-is_white.true))

pub returns-then-is_line : goal.returns-then-is_line
returns-then-is_line c = sym (line_front c.args.operand c.args.s.now c.index-s-0.result c.requires (ap is_white (sym c.index-s-0.is) ∙ sym c.is_white.ensures ∙ c.if-is_white.false) (ap is_line (sym c.index-s-0.is) ∙ sym c.is_line.ensures ∙ c.if-is_line.true))

pub returns-then-is_quote : goal.returns-then-is_quote
returns-then-is_quote c =
    ok_more c.text_at.result _ _ (λ r e. e ∙ ap (λ (w : List ℕ). text_step (body c.index-s-0.result 0 w)) (rest_is 1 c.args.s.now) ∙ ap (λ q. text_step (body q 0 (drop 1 c.args.s.now))) c.index-s-0.is
    ∙ sym (text_front c.args.operand c.args.s.now c.index-s-0.result (first_front is_quote c.args.s.now c.index-s-0.result c.requires (ap is_quote (sym c.index-s-0.is) ∙ sym c.is_quote.ensures ∙ c.if-is_quote.true)))) c.text_at.ensures

pub returns-then-c-eq92 : goal.returns-then-c-eq92
returns-then-c-eq92 c = sym (backslash_front c.args.operand c.args.s.now c.index-s-0.result c.requires (sym c.index-s-0.is ∙ c.if-c-eq92.true))

-- what a character is not
other : (k x y : ℕ) → (x ≡ k → ⊥) → x ≡ y → Rattle.std.proofs.Common.nat_eq y k ≡ false
other k x y h e = subst (λ (z : ℕ). Rattle.std.proofs.Common.nat_eq z k ≡ false) e (grind (arith, nat_tests))

pub returns : goal.returns
returns c =
    let at = c.index-s-0.is in
    c.sign_at.ensures ∙ sym (sign_front c.args.operand c.args.s.now c.index-s-0.result c.requires
    (record { white = ap is_white (sym at) ∙ sym c.is_white.ensures ∙ c.if-is_white.false; line = ap is_line (sym at) ∙ sym c.is_line.ensures ∙ c.if-is_line.false; slash = other 47 _ _ c.if-c-eq47.false at })
    (record { backslash = other 92 _ _ c.if-c-eq92.false at; quote = ap is_quote (sym at) ∙ sym c.is_quote.ensures ∙ c.if-is_quote.false; slash = other 47 _ _ c.if-c-eq47.false at; dot = other 46 _ _ c.if-c-eq46.false at })
    (record { letter = ap is_letter (sym at) ∙ sym c.is_letter.ensures ∙ c.if-is_letter.false; digit = ap is_digit (sym at) ∙ sym c.is_digit.ensures ∙ c.if-is_digit.false; quote = ap is_quote (sym at) ∙ sym c.is_quote.ensures ∙ c.if-is_quote.false }))
