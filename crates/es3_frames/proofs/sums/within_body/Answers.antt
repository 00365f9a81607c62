use Rattle.es3_frames.proofs.sums.within_body.Goals as goal

pub returns : goal.returns
returns c = λ k d h e. c.round_statement.ensures _ k.behind_opens (c.raise.ensures k.behind d h.behind_is e) h.behind_opens_is
