use Rattle.std.proofs.Common.{ℕ, ◌+◌, List, [], ◌∷◌, drop, sym, ap, ◌∙◌, arith, refl}
use Rattle.es3_lexer.proofs.texts.text_at.Goals as goal
use Rattle.es3_lexer.proofs.Fronts.{rest_is}
use Rattle.es3_lexer.proofs.TextLoop.{text_char, text_closed, text_ended, text_escape, text_lined, text_past, text_start}
use Rattle.es3_tree.specs.Token.{text}
use Rattle.es3_tokens.specs.Cut.{accept}
use Rattle.es3_tokens.specs.Steps.{text_step}
use Rattle.es3_tokens.specs.Texts.{after, body, broken, closed, escape, unclosed}

pub loop-i-init : goal.loop-i-init
loop-i-init c = ap (λ (us : List ℕ). after us 0 (body c.args.quote 0 c.args.s.now)) c.new-units.ensures.items ∙ text_start c.args.quote c.args.s.now

pub returns-then-c-quote : goal.returns-then-c-quote
returns-then-c-quote c = ap (λ (us : List ℕ). accept (text us) (c.loop-i.i + 2)) (c.in_ok-from_units.ensures ∙ c.deref.ensures.value) ∙ text_closed c.args.quote c.args.s.now c.loop-i.units.items c.loop-i.i c.index-s-i.result _ _ _ c.loop-i-test.true c.index-s-i.is c.if-c-quote.true refl c.loop-i.invariant

pub returns-then-is_line : goal.returns-then-is_line
returns-then-is_line c = text_lined c.args.quote c.args.s.now c.loop-i.units.items c.loop-i.i c.index-s-i.result _ _ c.loop-i-test.true c.index-s-i.is c.if-c-quote.false (sym c.is_line.ensures ∙ c.if-is_line.true) c.loop-i.invariant

pub loop-i-preserved-then-c-ne92 : goal.loop-i-preserved-then-c-ne92
loop-i-preserved-then-c-ne92 c = ap (λ (us : List ℕ). after us (c.loop-i.i + 1) (body c.args.quote 0 (drop (c.loop-i.i + 1) c.args.s.now))) c.in_ok-push_char.ensures
    ∙ text_char c.args.quote c.args.s.now c.loop-i.units.items c.loop-i.i c.index-s-i.result _ _ c.loop-i-test.true c.index-s-i.is c.if-c-quote.false (sym c.is_line.ensures ∙ c.if-is_line.false) c.if-c-ne92.true c.loop-i.invariant

pub loop-i-preserved-in-Unit : goal.loop-i-preserved-in-Unit
loop-i-preserved-in-Unit c = ap (λ (us : List ℕ). after us (c.loop-i.i + 1 + c.in-Unit.n) (body c.args.quote 0 (drop (c.loop-i.i + 1 + c.in-Unit.n) c.args.s.now))) c.in_ok-push-in-Unit.ensures.items
    ∙ text_past c.args.quote c.args.s.now c.loop-i.units.items (c.in-Unit.unit ∷ []) c.loop-i.i c.in-Unit.n _ _ refl
    (text_escape c.args.quote c.args.s.now c.loop-i.units.items [] c.loop-i.i 0 c.index-s-i.result _ _ (closed (c.in-Unit.unit ∷ []) c.in-Unit.n) c.loop-i-test.true c.index-s-i.is c.if-c-quote.false (sym c.is_line.ensures ∙ c.if-is_line.false) (omega arith)
    (ap escape (sym (rest_is (c.loop-i.i + 1) c.args.s.now)) ∙ sym c.in-Unit.ensures.is) c.loop-i.invariant)

pub loop-i-preserved : goal.loop-i-preserved
loop-i-preserved c = ap (λ (us : List ℕ). after us (c.loop-i.i + 2) (body c.args.quote 0 (drop (c.loop-i.i + 2) c.args.s.now))) c.in_ok-push_char-in-Itself.ensures
    ∙ text_past c.args.quote c.args.s.now c.loop-i.units.items _ c.loop-i.i 1 _ _ (omega arith)
    (text_escape c.args.quote c.args.s.now c.loop-i.units.items [] c.loop-i.i 0 c.index-s-i.result _ _ _ c.loop-i-test.true c.index-s-i.is c.if-c-quote.false (sym c.is_line.ensures ∙ c.if-is_line.false) (omega arith)
    (ap escape (sym (rest_is (c.loop-i.i + 1) c.args.s.now)) ∙ sym c.in-Itself.ensures.is) c.loop-i.invariant)

pub returns-in-End : goal.returns-in-End
returns-in-End c = ap text_step (text_escape c.args.quote c.args.s.now c.loop-i.units.items [] c.loop-i.i 0 c.index-s-i.result _ _ unclosed c.loop-i-test.true c.index-s-i.is c.if-c-quote.false (sym c.is_line.ensures ∙ c.if-is_line.false) (omega arith)
    (ap escape (sym (rest_is (c.loop-i.i + 1) c.args.s.now)) ∙ sym c.in-End.ensures.is) c.loop-i.invariant)

pub returns-in-Broken : goal.returns-in-Broken
returns-in-Broken c = ap text_step (text_escape c.args.quote c.args.s.now c.loop-i.units.items [] c.loop-i.i 0 c.index-s-i.result _ _ broken c.loop-i-test.true c.index-s-i.is c.if-c-quote.false (sym c.is_line.ensures ∙ c.if-is_line.false) (omega arith)
    (ap escape (sym (rest_is (c.loop-i.i + 1) c.args.s.now)) ∙ sym c.in-Broken.ensures.is) c.loop-i.invariant)

pub returns : goal.returns
returns c = text_ended c.args.quote c.args.s.now c.loop-i.units.items c.loop-i.i _ (omega arith) c.loop-i.invariant
