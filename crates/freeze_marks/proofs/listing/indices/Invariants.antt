use Rattle.std.proofs.Common.{◌≡◌, ◌++◌, ◌-◌}
use Rattle.freeze_marks.specs.Listing.{indices_from}
use Rattle.freeze_marks.proofs.listing.indices.Given as goal

abbrev pub invariant-loop-index : goal.invariant-loop-index
invariant-loop-index l = l.keys.items ++ indices_from l.index (l.count - l.index) ≡ indices_from 0 l.count
