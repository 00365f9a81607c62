use Rattle.std.proofs.Common.{◌≡◌, ◌++◌, take}
use Rattle.es3_objects.specs.Held.{listed, names_of}
use Rattle.es3_objects.proofs.properties.push_others.Given as goal

abbrev pub invariant-loop-at : goal.invariant-loop-at
invariant-loop-at l = l.names.items ≡ l.fn.names.items ++ names_of (listed (take l.at l.others))
