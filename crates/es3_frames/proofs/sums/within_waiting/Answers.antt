use Rattle.std.proofs.Common.{refl}
use Rattle.es3_frames.proofs.sums.within_waiting.Goals as goal

pub returns-in-Step : goal.returns-in-Step
returns-in-Step c =
    rw c.in-Step.is (λ k h. record {
      target_is = c.raise.ensures k.other 0 h.other_is refl;
      other_is = c.raise-in-Step.ensures k.other 0 h.other_is refl;
      behind_is = c.level-in-Step.ensures;
      part_opens_is = h.part_opens_is;
      behind_opens_is = refl;
      stepped_is = refl;
      no_in_is = h.no_in_is;
    })
