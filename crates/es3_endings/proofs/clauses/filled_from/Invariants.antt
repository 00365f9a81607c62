use Rattle.std.proofs.Common.{◌≡◌, ◌-◌, length}
use Rattle.es3_moves.specs.Code.{cases_at}
use Rattle.es3_endings.specs.Cases.{filled}
use Rattle.es3_endings.proofs.clauses.filled_from.Given as goal

abbrev pub invariant-loop-at : goal.invariant-loop-at
invariant-loop-at l = filled (cases_at l.cs l.at) ≡ filled (cases_at l.cs l.from)

abbrev pub decreases-loop-at : goal.decreases-loop-at
decreases-loop-at l = length l.cs - l.at
