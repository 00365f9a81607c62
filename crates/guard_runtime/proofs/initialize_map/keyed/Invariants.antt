use Rattle.std.proofs.Common.{◌≡◌, ◌++◌, ◌-◌, Ok, length, drop}
use Rattle.es3_convert.specs.Conversions.{and_then}
use Rattle.guard_runtime.specs.Guards.{keyed}
use Rattle.guard_runtime.proofs.initialize_map.keyed.Given as goal

abbrev pub invariant-loop-at : goal.invariant-loop-at
invariant-loop-at l = keyed l.h l.items ≡ and_then (keyed l.h (drop l.at l.items)) (λ rest. Ok (l.pairs.items ++ rest))

abbrev pub decreases-loop-at : goal.decreases-loop-at
decreases-loop-at l = length l.items - l.at
