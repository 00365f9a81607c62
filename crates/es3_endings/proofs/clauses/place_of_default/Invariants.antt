use Rattle.std.proofs.Common.{◌≡◌, ◌-◌, length}
use Rattle.es3_moves.specs.Code.{cases_at}
use Rattle.es3_endings.specs.Cases.{from_default}
use Rattle.es3_endings.proofs.clauses.place_of_default.Given as goal

abbrev pub invariant-loop-at : goal.invariant-loop-at
invariant-loop-at l = from_default (cases_at l.cs l.at) ≡ from_default (cases_at l.cs 0)

abbrev pub decreases-loop-at : goal.decreases-loop-at
decreases-loop-at l = length l.cs - l.at
