use Rattle.std.proofs.Common.{sym}
use Rattle.es3_frames.proofs.Stacks.{ends, last_sums}
use Rattle.es3_frames.proofs.stack.Stack.sums.Goals as goal

pub returns-in-Some : goal.returns-in-Some
returns-in-Some c = last_sums _ _ (ends c.args.self.now.entries.items _ (sym (rw c.deref.ensures.value at c.in-Some.ensures.value))) c.args.self.now.kept
