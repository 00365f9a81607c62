use Rattle.std.proofs.Common.{arith}
use Rattle.std.proofs.lemmas.Grind.{common_steps}
use Rattle.caja_io.proofs.Known.{TakesUpTo-append}
use Rattle.caja_io.proofs.source.read_all.Goals as goal

pub returns-then-room-count-clause-takes : goal.returns-then-room-count-clause-takes
returns-then-room-count-clause-takes g c =
    TakesUpTo-append _ _ _ _ _ _ c.loop-all.invariant.taken c.in_ok-count.ensures.takes (grind (arith, common_steps))

pub returns-in_err-extend_from_slice-clause-takes : goal.returns-in_err-extend_from_slice-clause-takes
returns-in_err-extend_from_slice-clause-takes g c =
    TakesUpTo-append _ _ _ _ _ _ c.loop-all.invariant.taken c.in_ok-count.ensures.takes (grind (arith, common_steps))
