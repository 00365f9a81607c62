use Rattle.std.proofs.Common.{refl}
use Rattle.es3_frames.proofs.sums.round_part.Goals as goal

pub returns : goal.returns
returns c =
    λ r d o n h e p q.
    let i = c.raise-rise.ensures r d h e in
    record {
      target_is = i;
      other_is = i;
      behind_is = c.level.ensures;
      part_opens_is = p;
      behind_opens_is = refl;
      stepped_is = refl;
      no_in_is = q;
    }
