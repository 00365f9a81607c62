use Rattle.std.proofs.Common.{◌≡◌, drop}
use Rattle.builtin_core.specs.Numbers.{better, best_from}
use Rattle.builtin_core.proofs.math.best_from.Given as goal

-- the best so far and the rest give what all give
abbrev pub invariant-loop-value : goal.invariant-loop-value
invariant-loop-value l = best_from (better l.wanted) l.best (drop l.value-index l.values) l.h ≡ best_from (better l.wanted) l.fn.first l.values l.h
