use Rattle.std.proofs.Common.{◌≡◌, take}
use Rattle.html_pieces.proofs.names.key.Given as goal

abbrev pub invariant-loop-i : goal.invariant-loop-i
invariant-loop-i l = l.key.items ≡ take l.i l.name
