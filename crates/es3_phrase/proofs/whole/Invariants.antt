use Rattle.es3_frames.specs.Views.{stack_of, state_of}
use Rattle.es3_phrase.proofs.AllTokens.{WholeOn}
use Rattle.es3_phrase.proofs.whole.Given as goal

abbrev pub invariant-loop-token : goal.invariant-loop-token
invariant-loop-token l = WholeOn l.token-index l.tokens (state_of l.state (stack_of l.stack))
