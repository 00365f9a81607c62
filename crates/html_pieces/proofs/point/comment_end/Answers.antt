use Rattle.std.proofs.Common.{sym, ◌∙◌, arith}
use Rattle.html_pieces.proofs.Points.{comment_here, comment_more, comment_nowhere}
use Rattle.html_pieces.proofs.point.comment_end.Goals as goal
use Rattle.html_tokens.proofs.Fronts.{rest_is}

pub returns-then-ends_comment-clause-is : goal.returns-then-ends_comment-clause-is
returns-then-ends_comment-clause-is c = comment_here c.args.s.now _ c.loop-i.i _ (rest_is c.loop-i.i c.args.s.now) c.loop-i-test.true (sym c.ends_comment.ensures ∙ c.if-ends_comment.true) c.loop-i.invariant

pub loop-i-preserved : goal.loop-i-preserved
loop-i-preserved c = comment_more c.args.s.now _ c.loop-i.i _ (rest_is c.loop-i.i c.args.s.now) c.loop-i-test.true (sym c.ends_comment.ensures ∙ c.if-ends_comment.false) c.loop-i.invariant

pub returns-clause-is : goal.returns-clause-is
returns-clause-is c = comment_nowhere c.args.s.now c.loop-i.i _ (omega arith) c.loop-i.invariant
