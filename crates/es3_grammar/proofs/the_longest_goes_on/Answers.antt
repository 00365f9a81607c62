use Rattle.es3_grammar.proofs.the_longest_goes_on.Goals as goal
use Rattle.es3_grammar.proofs.Known.{counted_on}
use Rattle.es3_grammar.proofs.Longest.{best_first, best_on, best_refused, best_deep}

pub returns-clause-first : goal.returns-clause-first
returns-clause-first c = best_first

pub returns-clause-on : goal.returns-clause-on
returns-clause-on c = best_on

pub returns-clause-counts : goal.returns-clause-counts
returns-clause-counts c = λ u d. counted_on u d 0

pub returns-clause-refused : goal.returns-clause-refused
returns-clause-refused c = best_refused

pub returns-clause-deep : goal.returns-clause-deep
returns-clause-deep c = best_deep
