use Rattle.std.proofs.Common.{ap, ◌∙◌}
use Rattle.es3_tree.specs.PlacedView.{expr}
use Rattle.es3_expr.specs.Views.{maybe_behind}
use Rattle.es3_steps.specs.Settling.{bound}
use Rattle.es3_frames.specs.Views.{next_of, spot_of, stack_of}
use Rattle.es3_steps.proofs.Settled.{goes_shifted, goes_nowhere, goes_filled, goes_unfilled, goes_closed, if_ok_is}
use Rattle.es3_steps.proofs.settle.settle.Goals as goal

pub returns-in_default : goal.returns-in_default
returns-in_default c =
    goes_nowhere c.args.no_in (stack_of c.loop-stack.stack) (expr c.loop-stack.part.tree.value) (spot_of c.args.token.now) _ c.binds.result _
    (record { token = c.as_behind-behind.ensures; level = c.binds.ensures ∙ ap (bound (maybe_behind c.as_behind-behind.result)) c.asked.ensures }) c.loop-stack-test.true c.in_default.ensures.0 c.loop-stack.invariant

pub returns-in-None : goal.returns-in-None
returns-in-None c =
    goes_unfilled c.args.no_in (stack_of c.loop-stack.stack) (stack_of c.pop.new.self) (expr c.loop-stack.part.tree.value) (spot_of c.args.token.now) _ c.binds.result _ c.in-Some.frame c.in-Waiting.waiting c.in_ok-made-in-Waiting.field-0
    (record { token = c.as_behind-behind.ensures; level = c.binds.ensures ∙ ap (bound (maybe_behind c.as_behind-behind.result)) c.asked.ensures }) c.loop-stack-test.true c.in-Some.ensures c.in-Waiting.is c.in_ok-made-in-Waiting.ensures c.in-None.is c.loop-stack.invariant

pub returns-in_default-frame : goal.returns-in_default-frame
returns-in_default-frame c =
    if_ok_is c.closes.result (λ s. next_of s (stack_of c.closes.new.stack)) _ _
    (goes_closed c.args.no_in (stack_of c.loop-stack.stack) (stack_of c.pop.new.self) (expr c.loop-stack.part.tree.value) (spot_of c.args.token.now) _ c.binds.result _ c.in-Some.frame
    (record { token = c.as_behind-behind.ensures; level = c.binds.ensures ∙ ap (bound (maybe_behind c.as_behind-behind.result)) c.asked.ensures }) c.loop-stack-test.true c.in-Some.ensures c.in_default-frame.not-Waiting c.loop-stack.invariant)
    c.closes.ensures

pub loop-stack-preserved : goal.loop-stack-preserved
loop-stack-preserved c =
    goes_filled c.args.no_in (stack_of c.loop-stack.stack) (stack_of c.pop.new.self) (expr c.loop-stack.part.tree.value) (spot_of c.args.token.now) _ c.binds.result _ c.in-Some.frame c.in-Waiting.waiting c.in_ok-made-in-Waiting.field-0 c.in-Some-2.made
    (record { token = c.as_behind-behind.ensures; level = c.binds.ensures ∙ ap (bound (maybe_behind c.as_behind-behind.result)) c.asked.ensures }) c.loop-stack-test.true c.in-Some.ensures c.in-Waiting.is c.in_ok-made-in-Waiting.ensures c.in-Some-2.is c.loop-stack.invariant

pub returns : goal.returns
returns c =
    if_ok_is c.shifted.result (λ s. next_of s (stack_of c.shifted.new.stack)) _ _
    (goes_shifted c.args.no_in (stack_of c.loop-stack.stack) (expr c.loop-stack.part.tree.value) (spot_of c.args.token.now) _ c.binds.result _
    (record { token = c.as_behind-behind.ensures; level = c.binds.ensures ∙ ap (bound (maybe_behind c.as_behind-behind.result)) c.asked.ensures }) c.loop-stack-test.false c.loop-stack.invariant)
    c.shifted.ensures
