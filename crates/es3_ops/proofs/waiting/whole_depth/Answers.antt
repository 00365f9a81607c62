use Rattle.std.proofs.Common.{arith}
use Rattle.std.specs.Iterator.Adapters.{rev_source}
use Rattle.std.specs.Slice.Iter.{iter_rest}
use Rattle.es3_ops.proofs.Closing.{fits_behind}
use Rattle.es3_ops.proofs.waiting.whole_depth.Goals as goal

pub overflow_add-depth : goal.overflow_add-depth
overflow_add-depth c =
    omega (arith, fits_behind (iter_rest (rev_source c.loop-left.left-iterator)) (iter_rest (rev_source c.next.new.self)) c.in-Some.field-0.now c.loop-left.depth _ c.in-Some.ensures.steps c.loop-left.invariant)
