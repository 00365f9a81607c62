use Rattle.es3_grammar.proofs.sums_tell_heights.Goals as goal
use Rattle.es3_grammar.proofs.Sums.{at_sums, height_sums, stepped_sums, no_in_sums}

pub returns-clause-at : goal.returns-clause-at
returns-clause-at c = at_sums

pub returns-clause-behind : goal.returns-clause-behind
returns-clause-behind c = height_sums

pub returns-clause-steps : goal.returns-clause-steps
returns-clause-steps c = stepped_sums

pub returns-clause-bars : goal.returns-clause-bars
returns-clause-bars c = no_in_sums
