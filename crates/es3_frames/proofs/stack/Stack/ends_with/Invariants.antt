use Rattle.std.proofs.Common.{◌≡◌, []}
use Rattle.es3_frames.specs.Ending.{ends_all}
use Rattle.es3_frames.specs.Kept.{over}
use Rattle.es3_frames.specs.Views.{stack_of}
use Rattle.es3_frames.proofs.stack.Stack.ends_with.Given as goal

-- what is left tells what the whole tells
abbrev pub invariant-loop-entry : goal.invariant-loop-entry
invariant-loop-entry l = ends_all l.fn.is_target (stack_of l.fn.self) ≡ ends_all l.target (over l.entry-iterator.iter.rest.now [])
