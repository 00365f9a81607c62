use Rattle.std.proofs.Common.{refl, sym, ◌∙◌, arith}
use Rattle.es3_ops.proofs.Closing.{depth_end, outside_end, fits_behind}
use Rattle.es3_ops.proofs.waiting.close_depths.Goals as goal

pub overflow_add-depth : goal.overflow_add-depth
overflow_add-depth c = omega (arith, fits_behind c.loop-left.waiting.items c.taken.new.waiting.items (c.in-Some.left, c.in-Some.field-0-1) c.loop-left.depth _ c.in-Some.ensures.taken.0 refl)

pub returns-clause-depth : goal.returns-clause-depth
returns-clause-depth c = sym (depth_end c.args.level c.loop-left.waiting.items c.taken.new.waiting.items c.loop-left.depth c.in_default.ensures.taken) ∙ c.loop-left.invariant.depth

pub returns-clause-rest : goal.returns-clause-rest
returns-clause-rest c = sym (outside_end c.args.level c.loop-left.waiting.items c.taken.new.waiting.items c.in_default.ensures.taken) ∙ c.loop-left.invariant.rest
