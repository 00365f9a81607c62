use Rattle.std.proofs.Common.{ℕ, ◌≡◌, ◌+◌, ◌<◌, ◌≤◌, ◌||◌, Bool, true, false, List, length, take, drop, map, sym, ap, subst, ◌∙◌, arith}
use Rattle.std.specs.List.{sum_by}
use Rattle.std.specs.Char.{len_utf8}
use Rattle.std.proofs.lemmas.List.{map-append, length-drop}
use Rattle.es3_lexer.proofs.cutting.cut_all.Goals as goal
use Rattle.es3_lexer.proofs.cutting.cut_all.Goals.{then-line, else-line}
use Rattle.es3_lexer.proofs.Fronts.{rest_is}
use Rattle.es3_lexer.proofs.Loop.{loop_accept, loop_end, loop_refuse, loop_skip, width_split}
use Rattle.es3_lexer.specs.Answers.{Refuses}
use Rattle.es3_lexer.specs.Views.{placed_of, refusal_view, step_of, token_of}
use Rattle.es3_tokens.specs.Cut.{Step, accept, cut_from, skip}
use Rattle.es3_tree.specs.Token.{Token}
use Rattle.es3_tokens.specs.Tokens.{Placed}
use Rattle.es3_tokens.specs.Steps.{Fits, fronts}

or_true : (a b c : Bool) → a ≡ true → c ≡ a → c ≡ (a || b)
or_true a b c h e = e ∙ h ∙ sym (ap (λ x. x || b) h)

or_else : (a b c : Bool) → a ≡ false → c ≡ b → c ≡ (a || b)
or_else a b c h e = e ∙ sym (ap (λ x. x || b) h)

fits_skip : (n m : ℕ) (l : Bool) (p : Step) → p ≡ skip l m → Fits n p → (0 < m) × (m ≤ n)
fits_skip n m l p e h = subst (λ p. Fits n p) e h

fits_take : (n m : ℕ) (t : Token) (p : Step) → p ≡ accept t m → Fits n p → (0 < m) × (m ≤ n)
fits_take n m t p e h = subst (λ p. Fits n p) e h

placed : (s w : List ℕ) (i n p q a : ℕ) → w ≡ drop i s → q ≡ sum_by len_utf8 (take n w) → p + sum_by len_utf8 (drop i s) ≡ a → p + q + sum_by len_utf8 (drop (i + n) s) ≡ a
placed s w i n p q a e f h = let g = width_split s w i n e in omega (arith, g)

fitted : (s w : List ℕ) (i n : ℕ) → w ≡ drop i s → i < length s → n ≤ length w → i + n ≤ length s
fitted s w i n e lt h = omega (arith, ap length e, length-drop i s)

pub loop-i-preserved-in-Skip : goal.loop-i-preserved-in-Skip
loop-i-preserved-in-Skip c =
    let at = sym c.in_ok-has_line.ensures.is ∙ ap step_of c.in-Skip.is in
    let f = fits_skip _ c.in-Skip.n c.in-Skip.has_line _ (ap step_of c.in-Skip.is) c.in_ok-has_line.ensures.fits in
    let o = elim c.if-line.branch as (λ v. c.if-line.line ≡ (c.loop-i.line || c.in-Skip.has_line)) [
      | then-line w ↦ or_true _ _ _ w.if-line.true w.line-is
      | else-line w ↦ or_else _ _ _ w.if-line.false w.line-is
    ] in
    record {
      rest = ap (λ b. fronts (map placed_of c.loop-i.list.items) (cut_from 0 (c.loop-i.at + c.width-at.result) b c.loop-i.operand (drop (c.loop-i.i + c.in-Skip.n) c.args.chars.now))) o
          ∙ loop_skip (map placed_of c.loop-i.list.items) c.args.chars.now _ c.loop-i.i c.loop-i.at _ c.in-Skip.n c.loop-i.line c.loop-i.operand c.in-Skip.has_line _ (rest_is c.loop-i.i c.args.chars.now) c.loop-i-test.true at f.0 (ap (λ q. c.loop-i.at + q) c.width-at.ensures) c.loop-i.invariant.rest;
      place = placed c.args.chars.now _ c.loop-i.i c.in-Skip.n c.loop-i.at c.width-at.result _ (rest_is c.loop-i.i c.args.chars.now) c.width-at.ensures c.loop-i.invariant.place;
      within = fitted c.args.chars.now _ c.loop-i.i c.in-Skip.n (rest_is c.loop-i.i c.args.chars.now) c.loop-i-test.true f.1;
    }

pub loop-i-preserved : goal.loop-i-preserved
loop-i-preserved c =
    let at = sym c.in_ok-has_line.ensures.is ∙ ap step_of c.in-Accept.is in
    let f = fits_take _ c.in-Accept.n (token_of c.in-Accept.kind) _ (ap step_of c.in-Accept.is) c.in_ok-has_line.ensures.fits in
    record {
      rest = ap (λ (ts : List Placed). fronts ts (cut_from 0 (c.loop-i.at + c.width.result) false c.wants_operand-operand.result (drop (c.loop-i.i + c.in-Accept.n) c.args.chars.now))) (ap (map placed_of) c.in_ok-push-in-Accept.ensures ∙ map-append placed_of c.loop-i.list.items _)
          ∙ loop_accept (map placed_of c.loop-i.list.items) c.args.chars.now _ c.loop-i.i c.loop-i.at _ c.in-Accept.n c.loop-i.line c.loop-i.operand (token_of c.in-Accept.kind) _ _ (rest_is c.loop-i.i c.args.chars.now) c.loop-i-test.true at f.0 (ap (λ q. c.loop-i.at + q) c.width.ensures) c.wants_operand-operand.ensures c.loop-i.invariant.rest;
      place = placed c.args.chars.now _ c.loop-i.i c.in-Accept.n c.loop-i.at c.width.result _ (rest_is c.loop-i.i c.args.chars.now) c.width.ensures c.loop-i.invariant.place;
      within = fitted c.args.chars.now _ c.loop-i.i c.in-Accept.n (rest_is c.loop-i.i c.args.chars.now) c.loop-i-test.true f.1;
    }

pub returns-in-Refuse : goal.returns-in-Refuse
returns-in-Refuse c =
    let at = sym c.in_ok-has_line.ensures.is ∙ ap step_of c.in-Refuse.is in
    subst (λ o. Refuses o (cut_from 0 c.args.start false true c.args.chars.now)) (sym c.refused.ensures)
    (loop_refuse (map placed_of c.loop-i.list.items) c.args.chars.now _ c.loop-i.i c.loop-i.at c.loop-i.line c.loop-i.operand (refusal_view c.in-Refuse.refusal) _ (rest_is c.loop-i.i c.args.chars.now) c.loop-i-test.true at c.loop-i.invariant.rest)

pub returns : goal.returns
returns c = loop_end (map placed_of c.loop-i.list.items) c.args.chars.now c.loop-i.i c.loop-i.at c.loop-i.line c.loop-i.operand _ (omega arith) c.loop-i.invariant.rest
