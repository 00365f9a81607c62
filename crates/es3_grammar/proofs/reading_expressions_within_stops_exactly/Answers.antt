use Rattle.es3_grammar.proofs.reading_expressions_within_stops_exactly.Goals as goal
use Rattle.es3_grammar.proofs.Longest.{expr_begins, expr_stops, expr_deepens}

pub returns-clause-begins : goal.returns-clause-begins
returns-clause-begins c = expr_begins

pub returns-clause-refused : goal.returns-clause-refused
returns-clause-refused c = expr_stops

pub returns-clause-deep : goal.returns-clause-deep
returns-clause-deep c = expr_deepens
