use Rattle.std.proofs.Common.{◌≡◌, ◌-◌, length, drop}
use Rattle.es3_lexer.proofs.texts.text_at.Given as goal
use Rattle.es3_tokens.specs.Texts.{after, body}

abbrev pub invariant-loop-i : goal.invariant-loop-i
invariant-loop-i l = after l.units.items l.i (body l.quote 0 (drop l.i l.s)) ≡ body l.quote 0 l.s

abbrev pub decreases-loop-i : goal.decreases-loop-i
decreases-loop-i l = length l.s - l.i
