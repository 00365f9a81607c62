use Rattle.std.proofs.Common.{◌≡◌, ◌++◌, take, drop}
use Rattle.std.specs.List.{list_all}
use Rattle.std.specs.Char.{is_ascii}
use Rattle.css_cajoler.proofs.printing.put_text.Given as goal

abbrev pub invariant-loop-i : goal.invariant-loop-i
invariant-loop-i l = record { written : l.out.items ≡ l.initial.out.items ++ take l.i l.text; rest : list_all is_ascii (drop l.i l.text) ≡ list_all is_ascii l.text }
