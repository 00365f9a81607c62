use Rattle.std.proofs.Common.{arith}
use Rattle.std.proofs.lemmas.Grind.{common_steps}
use Rattle.es3_heap.proofs.Names.{keys-named}
use Rattle.es3_heap.proofs.heap.Heap.own_keys.Goals as goal

pub loop-name-init : goal.loop-name-init
loop-name-init c = grind (arith, common_steps, keys-named)
