-- Each label is a representative by the links that were taken.
use Rattle.std.proofs.Common.{length}
use Rattle.reach_report.proofs.Loops.{IsHalfway}
use Rattle.reach_report.proofs.list.labels_of.Given as goal

abbrev pub invariant-loop-to : goal.invariant-loop-to
invariant-loop-to l = IsHalfway l.links l.modules l.ahead.items l.labels.items

abbrev pub decreases-loop-to : goal.decreases-loop-to
decreases-loop-to l = length l.ahead.items
