use Rattle.std.proofs.Common.{refl, false}
use Rattle.es3_frames.proofs.sums.within_list.Goals as goal

pub returns : goal.returns
returns c = λ k d h e. c.round_part.ensures k.other d false false h.other_is e refl refl
