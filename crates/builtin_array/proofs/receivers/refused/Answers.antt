use Rattle.builtin_array.proofs.receivers.refused.Goals as goal

pub returns-in-Other-clause-outcome : goal.returns-in-Other-clause-outcome
returns-in-Other-clause-outcome c = rw c.in-Other.is c.thrown.ensures.outcome

pub returns-in-Frozen-clause-outcome : goal.returns-in-Frozen-clause-outcome
returns-in-Frozen-clause-outcome c = rw c.in-Frozen.is c.thrown-in-Frozen.ensures.outcome
