use Rattle.std.proofs.Common.{◌≡◌, drop}
use Rattle.caja_units.specs.Units.{comes_before}
use Rattle.caja_units.proofs.compare.is_before.Given as goal

abbrev pub invariant-loop-i : goal.invariant-loop-i
invariant-loop-i l =
    comes_before (drop l.i l.one) (drop l.i l.other) ≡ comes_before l.one l.other
