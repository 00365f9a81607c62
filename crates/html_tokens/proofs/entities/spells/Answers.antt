use Rattle.std.proofs.Common.{sym}
use Rattle.html_tokens.proofs.entities.spells.Goals as goal
use Rattle.html_tokens.proofs.Spellings.{same_longer}

pub returns-then-s-entry : goal.returns-then-s-entry
returns-then-s-entry c = sym (same_longer c.args.s.now c.args.entry.now c.if-s-entry.true)
