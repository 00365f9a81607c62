use Rattle.es3_frames.proofs.sums.list_rise.Goals as goal

pub returns-in-Program : goal.returns-in-Program
returns-in-Program c = rw c.in-Program.is (λ k d h e. c.raise.ensures _ d c.level.ensures e)
