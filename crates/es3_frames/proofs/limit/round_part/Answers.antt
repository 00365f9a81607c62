use Rattle.std.proofs.Common.{true, false, ap, sym, ◌∙◌}
use Rattle.es3_grammar.specs.Sums.{capped}
use Rattle.es3_grammar.proofs.Sums.{at_sums}
use Rattle.es3_frames.specs.Views.{stack_of}
use Rattle.es3_frames.proofs.limit.round_part.Goals as goal

pub returns-then-is_target : goal.returns-then-is_target
returns-then-is_target c =
    rw c.if-is_target.true (λ d e. c.rise.ensures _ d c.sums-sums.ensures.target_is e ∙ ap capped (sym (at_sums (stack_of c.args.stack.now) true d)))

pub returns-else-is_target : goal.returns-else-is_target
returns-else-is_target c =
    rw c.if-is_target.false (λ d e. c.rise-else-is_target.ensures _ d c.sums-sums.ensures.other_is e ∙ ap capped (sym (at_sums (stack_of c.args.stack.now) false d)))
