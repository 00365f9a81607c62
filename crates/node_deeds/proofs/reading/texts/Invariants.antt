use Rattle.std.proofs.Common.{◌≡◌, ◌++◌, drop}
use Rattle.node_deeds.specs.Deeds.{texts}
use Rattle.node_deeds.proofs.reading.texts.Given as goal

abbrev pub invariant-loop-n : goal.invariant-loop-n
invariant-loop-n l = l.units.items ++ texts l.document (drop l.n-index l.nodes) ≡ texts l.document l.nodes
