use Rattle.std.proofs.Common.{refl}
use Rattle.es3_grammar.proofs.sums_tell_brackets.Goals as goal
use Rattle.es3_grammar.proofs.Turns.{step_turned}
use Rattle.es3_grammar.proofs.Quickly.{within_same, read_same}

pub returns-clause-first : goal.returns-clause-first
returns-clause-first c = (refl, tt)

pub returns-clause-counts : goal.returns-clause-counts
returns-clause-counts c = λ s r d h e. (step_turned s d r h e).counted

pub returns-clause-steady : goal.returns-clause-steady
returns-clause-steady c = λ s r d h e. (step_turned s d r h e).steady

pub returns-clause-tests : goal.returns-clause-tests
returns-clause-tests c = within_same

pub returns-clause-reads : goal.returns-clause-reads
returns-clause-reads c = read_same
