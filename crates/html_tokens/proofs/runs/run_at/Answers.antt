use Rattle.std.proofs.Common.{ℕ, ◌≡◌, ◌+◌, ◌-◌, ◌≤◌, Bool, false, true, List, take, drop, length, sym, ap, ◌∙◌, arith}
use Rattle.std.proofs.lemmas.List.{length-drop}
use Rattle.html_grammar.specs.References.{reference}
use Rattle.html_grammar.specs.ReadSoFar.{joined, told}
use Rattle.html_grammar.specs.Runs.{run}
use Rattle.html_grammar.proofs.Runs.{loop_stop, loop_end, loop_char, loop_reference, loop_unknown, loop_absent}
use Rattle.html_tokens.specs.Views.{until_of}
use Rattle.html_tokens.specs.declared.runs.Until.{Until}
use Rattle.html_tokens.proofs.Fronts.{rest_is}
use Rattle.html_tokens.proofs.Oks.{ok_is}
use Rattle.html_tokens.proofs.runs.run_at.Goals as goal

tested : (u : Until) (s : List ℕ) (i : ℕ) (b c : Bool) → b ≡ until_of u (take (length s - i) (drop i s)) → b ≡ c → until_of u (drop i s) ≡ c
tested u s i b c e f = ap (until_of u) (sym (rest_is i s)) ∙ sym e ∙ f

pub returns-then-ends : goal.returns-then-ends
returns-then-ends c = ok_is _ _ _ _ c.read_so_far.ensures
    (ap (λ (us : List ℕ). told c.loop-i.wrong us c.loop-i.i) c.deref.ensures.value ∙ loop_stop (until_of c.args.until) c.args.s.now c.loop-i.units.items c.loop-i.wrong c.loop-i.i 0 _ c.loop-i-test.true (tested c.args.until c.args.s.now c.loop-i.i _ true c.ends.ensures c.if-ends.true) c.loop-i.invariant.rest)

pub loop-i-preserved-then-c-ne38 : goal.loop-i-preserved-then-c-ne38
loop-i-preserved-then-c-ne38 c = record {
  rest = ap (λ (us : List ℕ). joined c.loop-i.wrong us (c.loop-i.i + 1) (run (until_of c.args.until) 0 (drop (c.loop-i.i + 1) c.args.s.now))) c.in_ok-push_char.ensures
      ∙ loop_char (until_of c.args.until) c.args.s.now c.loop-i.units.items c.loop-i.wrong c.loop-i.i c.index-s-i.result _ _ c.loop-i-test.true c.index-s-i.is (tested c.args.until c.args.s.now c.loop-i.i _ false c.ends.ensures c.if-ends.false) c.if-c-ne38.true c.loop-i.invariant.rest;
  within = omega arith;
}

pub loop-i-preserved-in-Is : goal.loop-i-preserved-in-Is
loop-i-preserved-in-Is c =
    let le : c.in-Is.n ≤ length (drop (c.loop-i.i + 1) c.args.s.now) = omega (arith, c.in-Is.ensures.within, ap length (rest_is (c.loop-i.i + 1) c.args.s.now)) in
    record {
      rest = ap (λ (us : List ℕ). joined c.loop-i.wrong us (c.loop-i.i + 1 + c.in-Is.n) (run (until_of c.args.until) 0 (drop (c.loop-i.i + 1 + c.in-Is.n) c.args.s.now))) c.in_ok-push_char-in-Is.ensures
          ∙ loop_reference (until_of c.args.until) c.args.s.now c.loop-i.units.items c.loop-i.wrong c.loop-i.i c.index-s-i.result _ c.in-Is.d c.in-Is.n _ c.loop-i-test.true c.index-s-i.is (tested c.args.until c.args.s.now c.loop-i.i _ false c.ends.ensures c.if-ends.false) (omega arith)
          (ap reference (sym (rest_is (c.loop-i.i + 1) c.args.s.now)) ∙ sym c.in-Is.ensures.is) le c.loop-i.invariant.rest;
      within = omega (arith, le, length-drop (c.loop-i.i + 1) c.args.s.now);
    }

pub loop-i-preserved-in-Unknown : goal.loop-i-preserved-in-Unknown
loop-i-preserved-in-Unknown c = record {
  rest = ap (λ w. joined w c.loop-i.units.items (c.loop-i.i + 1) (run (until_of c.args.until) 0 (drop (c.loop-i.i + 1) c.args.s.now))) c.first-wrong.ensures
      ∙ loop_unknown (until_of c.args.until) c.args.s.now c.loop-i.units.items c.loop-i.wrong c.loop-i.i c.index-s-i.result _ _ c.loop-i-test.true c.index-s-i.is (tested c.args.until c.args.s.now c.loop-i.i _ false c.ends.ensures c.if-ends.false) (omega arith)
      (ap reference (sym (rest_is (c.loop-i.i + 1) c.args.s.now)) ∙ sym c.in-Unknown.ensures.is) c.loop-i.invariant.rest;
  within = omega arith;
}

pub loop-i-preserved : goal.loop-i-preserved
loop-i-preserved c = record {
  rest = ap (λ (us : List ℕ). joined c.loop-i.wrong us (c.loop-i.i + 1) (run (until_of c.args.until) 0 (drop (c.loop-i.i + 1) c.args.s.now))) c.in_ok-push_char-in-Absent.ensures
      ∙ loop_absent (until_of c.args.until) c.args.s.now c.loop-i.units.items c.loop-i.wrong c.loop-i.i c.index-s-i.result _ _ c.loop-i-test.true c.index-s-i.is (tested c.args.until c.args.s.now c.loop-i.i _ false c.ends.ensures c.if-ends.false) (omega arith)
      (ap reference (sym (rest_is (c.loop-i.i + 1) c.args.s.now)) ∙ sym c.in-Absent.ensures.is) c.loop-i.invariant.rest;
  within = omega arith;
}

pub returns : goal.returns
returns c = ok_is _ _ _ _ c.read_so_far-2.ensures
    (ap (λ (us : List ℕ). told c.loop-i.wrong us c.loop-i.i) c.deref-2.ensures.value ∙ loop_end (until_of c.args.until) c.args.s.now c.loop-i.units.items c.loop-i.wrong c.loop-i.i _ (omega arith) c.loop-i.invariant.rest)
