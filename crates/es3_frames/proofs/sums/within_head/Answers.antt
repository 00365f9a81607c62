use Rattle.std.proofs.Common.{refl, false}
use Rattle.es3_frames.proofs.sums.within_head.Goals as goal

pub returns : goal.returns
returns c = λ k d h e. c.round_part.ensures k.behind d false false h.behind_is e refl refl
