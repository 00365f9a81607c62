use Rattle.std.proofs.Common.{◌≡◌, take}
use Rattle.es3_lexer.proofs.names.letters.Given as goal

abbrev pub invariant-loop-c : goal.invariant-loop-c
invariant-loop-c l = l.units.items ≡ take l.c-index l.s
