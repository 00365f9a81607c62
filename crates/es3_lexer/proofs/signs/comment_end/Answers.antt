use Rattle.std.proofs.Common.{◌∙◌, sym, ap, arith}
use Rattle.es3_lexer.proofs.signs.comment_end.Goals as goal
use Rattle.es3_lexer.proofs.CommentFronts.{end_found, end_last, end_more}
use Rattle.es3_lexer.proofs.Fronts.{rest_is}
use Rattle.es3_tokens.specs.Steps.{closes}

pub returns-then-closes-clause-is : goal.returns-then-closes-clause-is
returns-then-closes-clause-is c = end_found c.args.s.now c.loop-i.i _ c.loop-i-test.true (ap closes (sym (rest_is c.loop-i.i c.args.s.now)) ∙ sym c.closes.ensures.is ∙ c.if-closes.true) c.loop-i.invariant.rest

pub loop-i-preserved : goal.loop-i-preserved
loop-i-preserved c = record { rest = end_more c.args.s.now c.loop-i.i _ c.loop-i-test.true (ap closes (sym (rest_is c.loop-i.i c.args.s.now)) ∙ sym c.closes.ensures.is ∙ c.if-closes.false) c.loop-i.invariant.rest; within = omega arith }

pub returns-clause-is : goal.returns-clause-is
returns-clause-is c = end_last c.args.s.now c.loop-i.i _ (omega arith) c.loop-i.invariant.rest
