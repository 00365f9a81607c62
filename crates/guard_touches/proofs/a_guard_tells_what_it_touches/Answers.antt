use Rattle.guard_touches.proofs.Rows.{touches_are, guard_unheard}
use Rattle.guard_touches.proofs.a_guard_tells_what_it_touches.Goals as goal

pub returns-clause-touches : goal.returns-clause-touches
returns-clause-touches c = touches_are

pub returns-clause-unheard : goal.returns-clause-unheard
returns-clause-unheard c = guard_unheard
