use Rattle.std.proofs.Common.{◌≡◌, ◌-◌, ◌≤◌, length, drop}
use Rattle.html_tokens.proofs.runs.run_at.Given as goal
use Rattle.html_grammar.specs.ReadSoFar.{joined}
use Rattle.html_grammar.specs.Runs.{run}
use Rattle.html_tokens.specs.Views.{until_of}

abbrev pub invariant-loop-i : goal.invariant-loop-i
invariant-loop-i l = record { rest : joined l.wrong l.units.items l.i (run (until_of l.until) 0 (drop l.i l.s)) ≡ run (until_of l.until) 0 l.s; within : l.i ≤ length l.s }

abbrev pub decreases-loop-i : goal.decreases-loop-i
decreases-loop-i l = length l.s - l.i
