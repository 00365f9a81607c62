use Rattle.es3_grammar.proofs.the_longest_is_found.Goals as goal
use Rattle.es3_grammar.proofs.Longest.{found_best, found_stop, longest_counts, longest_reads, one_longest}

pub returns-clause-best : goal.returns-clause-best
returns-clause-best c = found_best

pub returns-clause-stops : goal.returns-clause-stops
returns-clause-stops c = found_stop

pub returns-clause-counts : goal.returns-clause-counts
returns-clause-counts c = longest_counts

pub returns-clause-reads : goal.returns-clause-reads
returns-clause-reads c = longest_reads

pub returns-clause-one : goal.returns-clause-one
returns-clause-one c = one_longest
