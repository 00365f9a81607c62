use Rattle.std.proofs.Common.{◌≡◌, ◌++◌, take}
use Rattle.es3_convert.proofs.text.push_text.Given as goal

abbrev pub invariant-loop-at : goal.invariant-loop-at
invariant-loop-at l = l.units.items ≡ l.initial.units.items ++ take l.at l.text
