use Rattle.std.proofs.Common.{◌≡◌, true, drop}
use Rattle.html_kept.specs.Table.{are_words}
use Rattle.html_cajoler.proofs.values.are_words.Given as goal

abbrev pub invariant-loop-i : goal.invariant-loop-i
invariant-loop-i l = are_words l.begins (drop l.i l.text) ≡ are_words true l.text
