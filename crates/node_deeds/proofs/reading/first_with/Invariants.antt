use Rattle.std.proofs.Common.{◌≡◌, drop}
use Rattle.node_deeds.specs.Deeds.{first_with}
use Rattle.node_deeds.proofs.reading.first_with.Given as goal

abbrev pub invariant-loop-n : goal.invariant-loop-n
invariant-loop-n l = first_with l.id l.document l.nodes ≡ first_with l.id l.document (drop l.n-index l.nodes)
