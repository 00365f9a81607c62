use Rattle.std.proofs.Common.{◌≡◌, drop}
use Rattle.std.specs.List.{list_all}
use Rattle.css_kept.specs.Table.{is_length}
use Rattle.css_cajoler.proofs.table.all_lengths.Given as goal

abbrev pub invariant-loop-value : goal.invariant-loop-value
invariant-loop-value l = list_all is_length (drop l.value-index l.list) ≡ list_all is_length l.list
