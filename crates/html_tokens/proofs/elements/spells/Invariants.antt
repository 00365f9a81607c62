use Rattle.std.proofs.Common.{◌≡◌, drop, length}
use Rattle.html_tokens.proofs.elements.spells.Given as goal
use Rattle.caja_units.specs.Units.{same_units}

abbrev pub invariant-loop-i : goal.invariant-loop-i
invariant-loop-i l = record { rest : same_units (drop l.i l.text) (drop l.i l.ascii) ≡ same_units l.fn.text l.fn.ascii; level : length l.text ≡ length l.ascii }
