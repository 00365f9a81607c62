use Rattle.std.proofs.Common.{◌≡◌, ◌++◌, take}
use Rattle.css_values.proofs.texts.append_units.Given as goal

abbrev pub invariant-loop-i : goal.invariant-loop-i
invariant-loop-i l = l.units.items ≡ l.initial.units.items ++ take l.i l.text
