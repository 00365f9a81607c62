use Rattle.es3_frames.proofs.Stacks.{kept_either}
use Rattle.es3_frames.proofs.stack.Stack.push.Goals as goal

pub invariant_of-self : goal.invariant_of-self
invariant_of-self c = record { kept = kept_either _ _ _ _ c.push.ensures.items c.args.self.now.kept (c.after-sums.ensures _ c.sums.ensures) }
