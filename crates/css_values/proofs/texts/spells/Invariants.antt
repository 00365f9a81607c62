use Rattle.std.proofs.Common.{◌≡◌, drop, length}
use Rattle.caja_units.specs.Units.{same_units}
use Rattle.css_values.proofs.texts.spells.Given as goal

abbrev pub invariant-loop-i : goal.invariant-loop-i
invariant-loop-i l = record { rest : same_units (drop l.i l.text) (drop l.i l.ascii) ≡ same_units l.text l.ascii; level : length l.text ≡ length l.ascii }
