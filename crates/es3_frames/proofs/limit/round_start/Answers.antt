use Rattle.std.proofs.Common.{true, false, refl, sym, ◌∙◌}
use Rattle.es3_frames.specs.Views.{stack_of}
use Rattle.es3_frames.proofs.Starts.{start_at}
use Rattle.es3_frames.proofs.limit.round_start.Goals as goal

pub returns-then-lists : goal.returns-then-lists
returns-then-lists c = rw (start_at (stack_of c.args.stack.now) true (sym c.lists.ensures ∙ c.if-lists.true)) (c.round_statement.ensures 0 refl)

pub returns-else-lists : goal.returns-else-lists
returns-else-lists c = rw (start_at (stack_of c.args.stack.now) false (sym c.lists.ensures ∙ c.if-lists.false)) (c.round_statement-else-lists.ensures 1 refl)
