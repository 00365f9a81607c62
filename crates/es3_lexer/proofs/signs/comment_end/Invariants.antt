use Rattle.std.proofs.Common.{◌≡◌, ◌≤◌, ◌-◌, length, drop}
use Rattle.es3_lexer.proofs.signs.comment_end.Given as goal
use Rattle.es3_tokens.specs.Gaps.{comment_end}
use Rattle.es3_tokens.specs.Steps.{later}

abbrev pub invariant-loop-i : goal.invariant-loop-i
invariant-loop-i l = record { rest : later l.i (comment_end (drop l.i l.s)) ≡ comment_end l.s; within : l.i ≤ length l.s }

abbrev pub decreases-loop-i : goal.decreases-loop-i
decreases-loop-i l = length l.s - l.i
