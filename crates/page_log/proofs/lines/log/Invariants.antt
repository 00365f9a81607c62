use Rattle.std.proofs.Common.{◌≡◌, ◌++◌, drop}
use Rattle.page_log.specs.Items.{all_told, names_of}
use Rattle.page_log.specs.Log.{log}
use Rattle.page_log.proofs.lines.log.Given as goal

abbrev pub invariant-loop-item : goal.invariant-loop-item
invariant-loop-item l = l.out.items ++ log (names_of l.names) (all_told (drop l.item-index l.items)) ≡ log (names_of l.names) (all_told l.items)
