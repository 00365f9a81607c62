use Rattle.std.proofs.Common.{sym, arith}
use Rattle.std.proofs.lemmas.List.{length-drop}
use Rattle.builtin_string.proofs.Standing.{begins_long, begins_at_test, begins_at_rest}
use Rattle.builtin_string.proofs.places.begins_at.Goals as goal

pub returns-then-len-place : goal.returns-then-len-place
returns-then-len-place c =
    sym (begins_long c.args.part.now _ (omega (arith, length-drop c.args.place c.args.text.now, c.len.ensures.count, c.len-2.ensures.count, c.if-len-place.true)))

pub returns-then-ne : goal.returns-then-ne
returns-then-ne c =
    begins_at_test c.args.part.now c.args.text.now c.loop-at.at _ _ _ _ (omega (arith, c.len-at-end.ensures.count, c.loop-at-test.true)) c.at.ensures.is c.at-in-loop-at.ensures.is c.if-ne.ensures c.loop-at.invariant

pub loop-at-preserved : goal.loop-at-preserved
loop-at-preserved c =
    begins_at_rest c.args.part.now c.args.text.now c.args.place c.loop-at.at _ _ _ (omega (arith, c.len-at-end.ensures.count, c.loop-at-test.true)) c.at.ensures.is c.at-in-loop-at.ensures.is c.if-ne.ensures c.loop-at.invariant
