-- What the steps behind an operand say.
use Rattle.std.specs.Prelude.{ℕ, Bool, false, Option, Some, None, nat_le}
use Rattle.es3_grammar.specs.Levels.{Infix}
use Rattle.es3_grammar.specs.Machine.{infix_own}

-- the operator belongs within a place that asks this level
abbrev pub bound : Option Infix → ℕ → Bool
bound None n = false
bound (Some i) n = nat_le n (infix_own i)
