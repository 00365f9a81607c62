use Rattle.std.proofs.Common.{◌≡◌, drop, length}
use Rattle.html_tokens.proofs.entities.spells.Given as goal
use Rattle.caja_units.specs.Units.{same_units}

abbrev pub invariant-loop-i : goal.invariant-loop-i
invariant-loop-i l = record { rest : same_units (drop l.i l.s) (drop l.i l.entry) ≡ same_units l.fn.s l.fn.entry; level : length l.s ≡ length l.entry }
