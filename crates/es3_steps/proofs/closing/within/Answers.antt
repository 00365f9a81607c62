use Rattle.std.proofs.Common.{◌∷◌, sym, ap, ◌∙◌}
use Rattle.es3_grammar.specs.Machine.{when}
use Rattle.es3_frames.specs.Views.{frame_of, next_of, stack_of, state_of}
use Rattle.es3_steps.proofs.Settled.{if_ok_is}
use Rattle.es3_steps.proofs.closing.within.Goals as goal

pub returns : goal.returns
returns c =
    if_ok_is c.opens.result (λ s. next_of s (stack_of c.opens.new.stack)) _ _
    (ap (λ b. when b (state_of c.args.state (frame_of c.args.frame ∷ stack_of c.args.stack.now))) (sym (sym c.is_punct.ensures ∙ c.if-not-is_punct.false)))
    c.opens.ensures
