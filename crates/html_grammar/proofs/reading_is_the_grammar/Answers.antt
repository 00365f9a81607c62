use Rattle.html_grammar.proofs.Sound.{spelled_is_read}
use Rattle.html_grammar.proofs.Exact.{refused_is_read, read_is_spelled, read_is_refused}
use Rattle.html_grammar.proofs.reading_is_the_grammar.Goals as goal

pub returns-clause-spelled : goal.returns-clause-spelled
returns-clause-spelled c = spelled_is_read

pub returns-clause-read : goal.returns-clause-read
returns-clause-read c = read_is_spelled

pub returns-clause-stopped : goal.returns-clause-stopped
returns-clause-stopped c = refused_is_read

pub returns-clause-refused : goal.returns-clause-refused
returns-clause-refused c = read_is_refused
