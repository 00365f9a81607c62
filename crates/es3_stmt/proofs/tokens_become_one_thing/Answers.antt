use Rattle.es3_stmt.proofs.Telling.{refused_spell_none, deep_spell_none}
use Rattle.es3_stmt.proofs.tokens_become_one_thing.Goals as goal

pub returns-clause-refused : goal.returns-clause-refused
returns-clause-refused c = refused_spell_none

pub returns-clause-deep : goal.returns-clause-deep
returns-clause-deep c = deep_spell_none
