use Rattle.std.proofs.Common.{sym, ◌∙◌, arith, length, ◌≡◌}
use Rattle.html_pieces.proofs.Points.{raw_stops, raw_more, raw_all}
use Rattle.html_pieces.proofs.point.raw_len.Goals as goal
use Rattle.html_tokens.proofs.Fronts.{rest_is}

pub returns-then-begins_end-clause-is : goal.returns-then-begins_end-clause-is
returns-then-begins_end-clause-is c = raw_stops c.args.name.now c.args.s.now _ c.loop-i.i _ (rest_is c.loop-i.i c.args.s.now) c.loop-i-test.true (sym c.begins_end.ensures ∙ c.if-begins_end.true) c.loop-i.invariant

pub loop-i-preserved : goal.loop-i-preserved
loop-i-preserved c = raw_more c.args.name.now c.args.s.now _ c.loop-i.i _ (rest_is c.loop-i.i c.args.s.now) c.loop-i-test.true (sym c.begins_end.ensures ∙ c.if-begins_end.false) c.loop-i.invariant

pub returns-clause-is : goal.returns-clause-is
returns-clause-is c =
    let e : length c.args.s.now ≡ c.loop-i.i = omega arith in
    e ∙ raw_all c.args.name.now c.args.s.now c.loop-i.i _ (omega arith) c.loop-i.invariant
