use Rattle.std.proofs.Common.{◌≡◌, ◌≤◌, length}
use Rattle.es3_lexer.proofs.signs.sign_at.Given as goal
use Rattle.es3_tokens.specs.Cut.{token_step}
use Rattle.es3_tokens.specs.Longest.{longest}
use Rattle.es3_tokens.specs.Steps.{sign, sign_step}

abbrev pub invariant-loop-n : goal.invariant-loop-n
invariant-loop-n l = record { rest : token_step (longest sign l.n l.s) ≡ sign_step l.s; within : l.n ≤ length l.s }

abbrev pub decreases-loop-n : goal.decreases-loop-n
decreases-loop-n l = l.n
