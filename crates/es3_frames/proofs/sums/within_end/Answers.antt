use Rattle.std.proofs.Common.{refl, false}
use Rattle.es3_frames.proofs.sums.within_end.Goals as goal

pub returns : goal.returns
returns c = λ k d h e. c.round_part.ensures k.behind d k.behind_opens false h.behind_is e h.behind_opens_is refl
