use Rattle.std.proofs.Common.{sym}
use Rattle.es3_lexer.proofs.spelling.spells.Goals as goal
use Rattle.es3_lexer.proofs.Tables.{same_longer}

pub returns-then-s-entry : goal.returns-then-s-entry
returns-then-s-entry c = sym (same_longer c.args.s.now c.args.entry.now c.if-s-entry.true)
