use Rattle.std.proofs.Common.{◌≡◌, ◌++◌, take}
use Rattle.std.specs.List.{flat_map}
use Rattle.builtin_array.specs.Arrays.{spread}
use Rattle.builtin_array.proofs.together.push_all.Given as goal

abbrev pub invariant-loop-value : goal.invariant-loop-value
invariant-loop-value l = l.items.items ≡ l.fn.items.items ++ flat_map (spread l.h) (take l.value-index l.values)
