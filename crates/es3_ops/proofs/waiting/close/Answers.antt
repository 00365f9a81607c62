use Rattle.std.proofs.Common.{sym, ◌∙◌}
use Rattle.es3_tree.specs.PlacedView.{expr}
use Rattle.es3_ops.proofs.Closing.{part_end, left_end}
use Rattle.es3_ops.proofs.waiting.close.Goals as goal

pub returns-clause-part : goal.returns-clause-part
returns-clause-part c = sym (part_end c.args.level c.loop-left.waiting.items c.taken.new.waiting.items (expr c.loop-left.part) c.in_default.ensures.taken) ∙ c.loop-left.invariant.part

pub returns-clause-rest : goal.returns-clause-rest
returns-clause-rest c = sym (left_end c.args.level c.loop-left.waiting.items c.taken.new.waiting.items c.in_default.ensures.taken) ∙ c.loop-left.invariant.rest
