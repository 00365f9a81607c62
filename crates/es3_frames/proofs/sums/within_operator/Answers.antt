use Rattle.es3_frames.proofs.sums.within_operator.Goals as goal

pub returns : goal.returns
returns c = λ k d h e. c.round_part.ensures k.other d k.part_opens k.no_in h.other_is e h.part_opens_is h.no_in_is
