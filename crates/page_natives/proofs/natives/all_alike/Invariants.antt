use Rattle.std.proofs.Common.{◌≡◌, replicate}
use Rattle.page_natives.proofs.natives.all_alike.Given as goal

abbrev pub invariant-loop-module : goal.invariant-loop-module
invariant-loop-module l = l.places.items ≡ replicate l._module l.o
