use Rattle.std.proofs.Common.{sym}
use Rattle.es3_frames.proofs.Stacks.{ends, innermost_is}
use Rattle.es3_frames.proofs.stack.Stack.innermost.Goals as goal

pub returns-in-Some : goal.returns-in-Some
returns-in-Some c = innermost_is _ _ (ends c.args.self.now.entries.items _ (sym (rw c.deref.ensures.value at c.in-Some.ensures.value)))
