use Rattle.std.proofs.Common.{◌≡◌, ◌++◌, take}
use Rattle.property_tables.specs.Indexed.{present}
use Rattle.property_tables.proofs.indexed.as_table.Given as goal

abbrev pub invariant-loop-i : goal.invariant-loop-i
invariant-loop-i g l = l.all ≡ present 0 (take l.i l.slots)

abbrev pub invariant-loop-at : goal.invariant-loop-at
invariant-loop-at g l = l.all ≡ present 0 l.slots ++ take l.at l.others
