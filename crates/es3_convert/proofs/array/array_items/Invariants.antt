use Rattle.std.proofs.Common.{◌≡◌, ◌++◌, ◌-◌}
use Rattle.es3_convert.specs.Conversions.{items_from}
use Rattle.es3_convert.proofs.array.array_items.Given as goal

abbrev pub invariant-loop-index : goal.invariant-loop-index
invariant-loop-index l = l.items.items ++ items_from (l.count - l.index) l.index l.h l.o ≡ items_from l.count 0 l.h l.o
