use Rattle.std.proofs.Common.{◌≡◌, take}
use Rattle.url_rule.specs.Table.{rows_of}
use Rattle.url_rule.proofs.table.copy_rows.Given as goal

abbrev pub invariant-loop-row : goal.invariant-loop-row
invariant-loop-row l = rows_of l.copy.items ≡ rows_of (take l.row-index l.rows)
