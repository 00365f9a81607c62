use Rattle.std.proofs.Common.{refl, true, false}
use Rattle.std.proofs.Common.{inl, inr}
use Rattle.es3_frames.proofs.sums.within_root.Goals as goal

pub returns-in-ForFirst : goal.returns-in-ForFirst
returns-in-ForFirst c = rw c.in-ForFirst.is (λ k h. c.round_part.ensures k.behind 1 false true h.behind_is refl refl refl)

pub returns-in-If : goal.returns-in-If
returns-in-If c =
    λ k h.
    let at = c.within_head-in-If.ensures k 1 h refl in
    elim c.in-If.is [ inl e ↦ rw e at | inr s ↦ elim s [ inl e ↦ rw e at | inr e ↦ rw e.1 at ] ]
