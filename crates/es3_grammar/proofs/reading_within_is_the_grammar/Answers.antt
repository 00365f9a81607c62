use Rattle.es3_grammar.proofs.reading_within_is_the_grammar.Goals as goal
use Rattle.es3_grammar.proofs.Limits.{within_sound}

pub returns-clause-sound : goal.returns-clause-sound
returns-clause-sound c = within_sound
