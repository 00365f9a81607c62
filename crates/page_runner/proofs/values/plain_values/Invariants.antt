use Rattle.std.proofs.Common.{◌≡◌, ◌++◌, map}
use Rattle.std.specs.Vec.Iter.{into_iter_items}
use Rattle.module_loader.specs.Turns.{plain_value}
use Rattle.host_rules.specs.Plain.{plain}
use Rattle.page_runner.proofs.values.plain_values.Given as goal

abbrev pub invariant-loop-plain : goal.invariant-loop-plain
invariant-loop-plain l = l.values.items ++ map plain_value (map plain (into_iter_items l.plain-iterator)) ≡ map plain_value (map plain l.fn.plains.items)
