use Rattle.std.proofs.Common.{◌≡◌}
use Rattle.es3_moves.specs.Where.{plain_labels}
use Rattle.es3_endings.specs.Turns.{has_label}
use Rattle.es3_endings.proofs.loops.has_label.Given as goal

abbrev pub invariant-loop-rest : goal.invariant-loop-rest
invariant-loop-rest l = has_label l.label.value (plain_labels l.rest) ≡ has_label l.label.value (plain_labels l.labels)
