use Rattle.std.proofs.Common.{ap, map, Option}
use Rattle.es3_tree.specs.declared.Expr.{Expr}
use Rattle.es3_grammar.specs.Frames.{want}
use Rattle.es3_grammar.specs.Machine.{ending, read_phrase}
use Rattle.es3_frames.specs.Views.{spot_of, stack_of, state_of}
use Rattle.es3_phrase.specs.ReadsExpr.{Phrased}
use Rattle.es3_phrase.proofs.AllTokens.{begins, breaks, goes_further, ended, if_ok_on}
use Rattle.es3_phrase.proofs.whole.Goals as goal

pub loop-token-init : goal.loop-token-init
loop-token-init c = begins _ _ (ap want c.new-stack.ensures)

pub returns-in-None : goal.returns-in-None
returns-in-None c = breaks _ _ c.token-item.result _ c.loop-token-test.true c.token-item.is c.loop-token.invariant (rw c.in-None.is at c.in_ok-next.ensures)

pub loop-token-preserved : goal.loop-token-preserved
loop-token-preserved c = goes_further _ _ c.token-item.result _ c.loop-token-test.true c.token-item.is c.loop-token.invariant _ (rw c.in-Some.is at c.in_ok-next.ensures)

pub returns : goal.returns
returns c = if_ok_on
    (λ (e : Option Expr). Phrased e (ending (state_of c.loop-token.state (stack_of c.loop-token.stack))))
    (λ (e : Option Expr). Phrased e (read_phrase (map spot_of c.args.tokens.now)))
    c.phrase.result
    (λ (e : Option Expr) p. ended c.loop-token.token-index c.args.tokens.now (state_of c.loop-token.state (stack_of c.loop-token.stack)) e c.loop-token-test.false c.loop-token.invariant p)
    c.phrase.ensures
