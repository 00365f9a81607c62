use Rattle.es3_frames.proofs.Stacks.{kept_rest}
use Rattle.es3_frames.proofs.stack.Stack.pop.Goals as goal

pub invariant_of-self : goal.invariant_of-self
invariant_of-self c = record { kept = kept_rest _ _ _ c.pop.ensures.items c.args.self.now.kept }
