use Rattle.std.proofs.Common.{◌≡◌, ◌++◌, take}
use Rattle.property_tables.specs.Indexed.{present}
use Rattle.es3_objects.specs.Held.{listed, names_of}
use Rattle.es3_objects.proofs.properties.push_slots.Given as goal

abbrev pub invariant-loop-i : goal.invariant-loop-i
invariant-loop-i l = l.names.items ≡ l.fn.names.items ++ names_of (listed (present 0 (take l.i l.slots)))
