use Rattle.std.proofs.Common.{◌≡◌, drop}
use Rattle.std.specs.List.{list_all}
use Rattle.html_cajoler.specs.Views.{is_of}
use Rattle.html_cajoler.proofs.values.all_are.Given as goal

abbrev pub invariant-loop-i : goal.invariant-loop-i
invariant-loop-i l = list_all (is_of l.class) (drop l.i l.text) ≡ list_all (is_of l.class) l.text
