use Rattle.std.proofs.Common.{refl, true}
use Rattle.es3_frames.proofs.sums.within_outer.Goals as goal

pub returns-in-Do : goal.returns-in-Do
returns-in-Do c = rw c.in-Do.is (λ k h. c.round_statement.ensures _ true (c.raise.ensures k.behind 1 h.behind_is refl) refl)
