-- What is left of both decides.
use Rattle.std.proofs.Common.{◌≡◌, drop}
use Rattle.caja_units.specs.Units.{same_units}
use Rattle.cajita_names.proofs.words.spells.Given as goal

abbrev pub invariant-loop-i : goal.invariant-loop-i
invariant-loop-i l = same_units (drop l.i l.text) (drop l.i l.fn.word) ≡ same_units l.text l.fn.word
