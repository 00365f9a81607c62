use Rattle.std.proofs.Common.{◌≡◌, ◌-◌, length}
use Rattle.es3_moves.specs.Code.{vars_at}
use Rattle.es3_statements.specs.Lists.{valued}
use Rattle.es3_statements.proofs.vars.next_valued.Given as goal

abbrev pub invariant-loop-at : goal.invariant-loop-at
invariant-loop-at l = valued (vars_at l.items l.at) ≡ valued (vars_at l.items l.from)

abbrev pub decreases-loop-at : goal.decreases-loop-at
decreases-loop-at l = length l.items - l.at
