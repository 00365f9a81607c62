use Rattle.std.proofs.Common.{◌≡◌, take}
use Rattle.url_rule.proofs.texts.utf8.Given as goal

abbrev pub invariant-loop-i : goal.invariant-loop-i
invariant-loop-i l = l.units.items ≡ take l.i l.text
