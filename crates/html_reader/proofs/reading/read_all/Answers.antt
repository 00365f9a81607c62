use Rattle.std.proofs.Common.{◌≤◌, ◌<◌, length, drop, sym, ap, subst, ◌∙◌, arith, refl}
use Rattle.html_grammar.specs.Trees.{snoc, most}
use Rattle.html_grammar.specs.Reading.{inner_name, ended}
use Rattle.html_tree.specs.Views.{trees}
use Rattle.html_pieces.specs.Views.{step_of, refusal_of}
use Rattle.html_reader.specs.Gives.{Refuses, Gives}
use Rattle.html_tokens.proofs.Fronts.{rest_is}
use Rattle.html_reader.specs.Stacks.{stack}
use Rattle.html_reader.proofs.StackLemmas.{stack_length}
use Rattle.html_reader.proofs.LoopLemmas.{at_point, fits_at, placed, fitted, loop_text, loop_skip, after, start_deep, start_checked, end_checked, loop_tag, loop_refuse, loop_end}
use Rattle.html_reader.proofs.reading.read_all.Goals as goal

pub loop-i-preserved-in-Text : goal.loop-i-preserved-in-Text
loop-i-preserved-in-Text c =
    let rest = rest_is c.loop-i.i c.args.chars.now in
    let at = at_point c.loop-i.first _ _ _ _ _ _ c.in_ok-units.ensures.is (c.innermost.ensures ∙ ap (λ os. inner_name (stack os)) c.deref.ensures.value) rest (ap step_of c.in-Text.is) in
    let f = fits_at _ _ _ (ap step_of c.in-Text.is) c.in_ok-units.ensures.fits in
    record {
      rest = loop_text c.loop-i.at c.width.result c.loop-i.i c.in-Text.n c.loop-i.first _ (stack c.loop-i.open.items) (trees c.loop-i.here.items) _ c.in-Text.units c.args.chars.now _ _ rest at f c.width.ensures c.still_first-first.ensures
          (c.in_ok-push-in-Text.ensures.pushed ∙ ap (snoc (trees c.loop-i.here.items)) c.text.ensures) c.loop-i.invariant.rest;
      place = placed c.args.chars.now _ c.loop-i.i c.in-Text.n c.loop-i.at c.width.result _ rest c.width.ensures c.loop-i.invariant.place;
      within = fitted c.args.chars.now _ c.loop-i.i c.in-Text.n rest c.loop-i-test.true f.1;
    }

pub loop-i-preserved-in-Skip : goal.loop-i-preserved-in-Skip
loop-i-preserved-in-Skip c =
    let rest = rest_is c.loop-i.i c.args.chars.now in
    let at = at_point c.loop-i.first _ _ _ _ _ _ c.in_ok-units.ensures.is (c.innermost.ensures ∙ ap (λ os. inner_name (stack os)) c.deref.ensures.value) rest (ap step_of c.in-Skip.is) in
    let f = fits_at _ _ _ (ap step_of c.in-Skip.is) c.in_ok-units.ensures.fits in
    record {
      rest = loop_skip c.loop-i.at c.width-in-Skip.result c.loop-i.i c.in-Skip.n c.loop-i.first (stack c.loop-i.open.items) (trees c.loop-i.here.items) c.args.chars.now _ _ rest at f c.width-in-Skip.ensures c.loop-i.invariant.rest;
      place = placed c.args.chars.now _ c.loop-i.i c.in-Skip.n c.loop-i.at c.width-in-Skip.result _ rest c.width-in-Skip.ensures c.loop-i.invariant.place;
      within = fitted c.args.chars.now _ c.loop-i.i c.in-Skip.n rest c.loop-i-test.true f.1;
    }

pub returns-then-len-ge-MOST : goal.returns-then-len-ge-MOST
returns-then-len-ge-MOST c =
    let rest = rest_is c.loop-i.i c.args.chars.now in
    let at = at_point c.loop-i.first _ _ _ _ _ _ c.in_ok-units.ensures.is (c.innermost.ensures ∙ ap (λ os. inner_name (stack os)) c.deref.ensures.value) rest (ap step_of c.in-Start.is) in
    let f = fits_at _ _ _ (ap step_of c.in-Start.is) c.in_ok-units.ensures.fits in
    let deep : most ≤ length (stack c.loop-i.open.items) = omega (arith, stack_length c.loop-i.open.items, c.len.ensures, c.if-len-ge-MOST.true) in
    start_deep c.loop-i.at c.loop-i.i c.in-Start.n c.loop-i.first (stack c.loop-i.open.items) (trees c.loop-i.here.items) _ c.args.chars.now _ _ _ _ rest at f deep c.loop-i.invariant.rest

pub returns-in-Err : goal.returns-in-Err
returns-in-Err c =
    let rest = rest_is c.loop-i.i c.args.chars.now in
    let at = at_point c.loop-i.first _ _ _ _ _ _ c.in_ok-units.ensures.is (c.innermost.ensures ∙ ap (λ os. inner_name (stack os)) c.deref.ensures.value) rest (ap step_of c.in-Start.is) in
    let f = fits_at _ _ _ (ap step_of c.in-Start.is) c.in_ok-units.ensures.fits in
    let lt : length (stack c.loop-i.open.items) < most = omega (arith, stack_length c.loop-i.open.items, c.len.ensures, c.if-len-ge-MOST.false) in
    let e = start_checked c.loop-i.at c.loop-i.i c.in-Start.n c.loop-i.first (stack c.loop-i.open.items) (trees c.loop-i.here.items) _ c.args.chars.now _ _ _ _ rest at f lt c.loop-i.invariant.rest in
    subst (λ a. Refuses c.in-Err.error a) (sym e) (c.in-Err.ensures.err _)

pub loop-i-preserved-in-Start : goal.loop-i-preserved-in-Start
loop-i-preserved-in-Start c =
    let rest = rest_is c.loop-i.i c.args.chars.now in
    let at = at_point c.loop-i.first _ _ _ _ _ _ c.in_ok-units.ensures.is (c.innermost.ensures ∙ ap (λ os. inner_name (stack os)) c.deref.ensures.value) rest (ap step_of c.in-Start.is) in
    let f = fits_at _ _ _ (ap step_of c.in-Start.is) c.in_ok-units.ensures.fits in
    let lt : length (stack c.loop-i.open.items) < most = omega (arith, stack_length c.loop-i.open.items, c.len.ensures, c.if-len-ge-MOST.false) in
    let e = start_checked c.loop-i.at c.loop-i.i c.in-Start.n c.loop-i.first (stack c.loop-i.open.items) (trees c.loop-i.here.items) _ c.args.chars.now _ _ _ _ rest at f lt c.loop-i.invariant.rest in
    record {
      rest = loop_tag c.loop-i.at c.width-in-Start.result c.loop-i.i c.in-Start.n (stack c.begin.new.open.items) (trees c.begin.new.here.items) c.args.chars.now _ _ _ _ rest c.width-in-Start.ensures e (c.in-Ok.ensures.ok _) (c.in_ok-begin-in-Start.ensures (after c.loop-i.at c.in-Start.n (drop c.loop-i.i c.args.chars.now)));
      place = placed c.args.chars.now _ c.loop-i.i c.in-Start.n c.loop-i.at c.width-in-Start.result _ rest c.width-in-Start.ensures c.loop-i.invariant.place;
      within = fitted c.args.chars.now _ c.loop-i.i c.in-Start.n rest c.loop-i-test.true f.1;
    }

pub returns-then-not-branch : goal.returns-then-not-branch
returns-then-not-branch c =
    let rest = rest_is c.loop-i.i c.args.chars.now in
    let at = at_point c.loop-i.first _ _ _ _ _ _ c.in_ok-units.ensures.is (c.innermost.ensures ∙ ap (λ os. inner_name (stack os)) c.deref.ensures.value) rest (ap step_of c.in-End.is) in
    let f = fits_at _ _ _ (ap step_of c.in-End.is) c.in_ok-units.ensures.fits in
    let e = end_checked c.loop-i.at c.loop-i.i c.in-End.n c.loop-i.first (stack c.loop-i.open.items) (trees c.loop-i.here.items) _ c.args.chars.now _ _ _ rest at f c.loop-i.invariant.rest in
    e ∙ c.in_ok-finish-in-End.ensures.other c.if-not-branch.true (after c.loop-i.at c.in-End.n (drop c.loop-i.i c.args.chars.now)) c.loop-i.at _ _

pub returns-in-Err-check : goal.returns-in-Err-check
returns-in-Err-check c =
    let rest = rest_is c.loop-i.i c.args.chars.now in
    let at = at_point c.loop-i.first _ _ _ _ _ _ c.in_ok-units.ensures.is (c.innermost.ensures ∙ ap (λ os. inner_name (stack os)) c.deref.ensures.value) rest (ap step_of c.in-End.is) in
    let f = fits_at _ _ _ (ap step_of c.in-End.is) c.in_ok-units.ensures.fits in
    let e = end_checked c.loop-i.at c.loop-i.i c.in-End.n c.loop-i.first (stack c.loop-i.open.items) (trees c.loop-i.here.items) _ c.args.chars.now _ _ _ rest at f c.loop-i.invariant.rest in
    let d = e ∙ c.in_ok-finish-in-End.ensures.closed c.if-not-branch.false (after c.loop-i.at c.in-End.n (drop c.loop-i.i c.args.chars.now)) c.loop-i.at _ _ in
    subst (λ a. Refuses c.in-Err-check.error a) (sym d) (c.in-Err-check.ensures.err _)

pub loop-i-preserved : goal.loop-i-preserved
loop-i-preserved c =
    let rest = rest_is c.loop-i.i c.args.chars.now in
    let at = at_point c.loop-i.first _ _ _ _ _ _ c.in_ok-units.ensures.is (c.innermost.ensures ∙ ap (λ os. inner_name (stack os)) c.deref.ensures.value) rest (ap step_of c.in-End.is) in
    let f = fits_at _ _ _ (ap step_of c.in-End.is) c.in_ok-units.ensures.fits in
    let e = end_checked c.loop-i.at c.loop-i.i c.in-End.n c.loop-i.first (stack c.loop-i.open.items) (trees c.loop-i.here.items) _ c.args.chars.now _ _ _ rest at f c.loop-i.invariant.rest in
    let d = e ∙ c.in_ok-finish-in-End.ensures.closed c.if-not-branch.false (after c.loop-i.at c.in-End.n (drop c.loop-i.i c.args.chars.now)) c.loop-i.at _ _ in
    record {
      rest = loop_tag c.loop-i.at c.width-in-End.result c.loop-i.i c.in-End.n (stack c.finish.new.open.items) (trees c.finish.new.here.items) c.args.chars.now _ _ _ _ rest c.width-in-End.ensures d (c.in-Ok-check.ensures.ok _) refl;
      place = placed c.args.chars.now _ c.loop-i.i c.in-End.n c.loop-i.at c.width-in-End.result _ rest c.width-in-End.ensures c.loop-i.invariant.place;
      within = fitted c.args.chars.now _ c.loop-i.i c.in-End.n rest c.loop-i-test.true f.1;
    }

pub returns-in-Refuse : goal.returns-in-Refuse
returns-in-Refuse c =
    let rest = rest_is c.loop-i.i c.args.chars.now in
    let at = at_point c.loop-i.first _ _ _ _ _ _ c.in_ok-units.ensures.is (c.innermost.ensures ∙ ap (λ os. inner_name (stack os)) c.deref.ensures.value) rest (ap step_of c.in-Refuse.is) in
    subst (λ a. Refuses c.refused.result a)
    (loop_refuse c.loop-i.at c.width-in-Refuse.result c.loop-i.i c.in-Refuse.n c.loop-i.first (stack c.loop-i.open.items) (trees c.loop-i.here.items) c.args.chars.now _ (refusal_of c.in-Refuse.refusal) _ rest c.loop-i-test.true at c.width-in-Refuse.ensures c.loop-i.invariant.rest)
    c.refused.ensures

pub returns : goal.returns
returns c =
    subst (λ a. Gives c.end.result a)
    (ap (λ os. ended c.loop-i.at (stack os) (trees c.loop-i.here.items)) c.deref-2.ensures.value ∙ loop_end c.loop-i.at c.loop-i.i c.loop-i.first (stack c.loop-i.open.items) (trees c.loop-i.here.items) c.args.chars.now _ (omega arith) c.loop-i.invariant.rest)
    c.end.ensures
