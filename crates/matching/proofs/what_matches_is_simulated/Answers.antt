-- The contract is the law of a turn.
use Rattle.matching.proofs.Turn as turn
use Rattle.matching.proofs.what_matches_is_simulated.Goals as goal

pub returns : goal.returns
returns g c = turn.turn_simulated g.A.SideBySide.sides
