use Rattle.std.proofs.Common.{◌≡◌, ◌++◌, take}
use Rattle.std.specs.List.{flat_map}
use Rattle.html_kept.specs.Printed.{shown_value}
use Rattle.html_cajoler.proofs.printing.put_all_shown_value.Given as goal

abbrev pub invariant-loop-byte : goal.invariant-loop-byte
invariant-loop-byte l = l.out.items ≡ l.initial.out.items ++ flat_map shown_value (take l.byte-index l.bytes)
