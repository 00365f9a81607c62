use Rattle.es3_grammar.specs.Longest.{known_first, known_on}
use Rattle.es3_grammar.proofs.reading_expressions_within_is_the_grammar.Goals as goal
use Rattle.es3_grammar.proofs.Longest.{expr_whole, expr_ends, expr_reached, expr_alone}

pub returns-clause-first : goal.returns-clause-first
returns-clause-first c = λ n h. known_first h

pub returns-clause-on : goal.returns-clause-on
returns-clause-on c = λ n u s r d k e w. known_on u s r d k e w

pub returns-clause-sound : goal.returns-clause-sound
returns-clause-sound c = expr_whole

pub returns-clause-complete : goal.returns-clause-complete
returns-clause-complete c = expr_ends

pub returns-clause-reached : goal.returns-clause-reached
returns-clause-reached c = expr_reached

pub returns-clause-apart : goal.returns-clause-apart
returns-clause-apart c = expr_alone
