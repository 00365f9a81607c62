use Rattle.std.proofs.Common.{◌≡◌, map, option_copied, take}
use Rattle.url_rule.specs.Table.{rows_of}
use Rattle.url_tables.specs.Rows.{row_in}
use Rattle.url_tables.proofs.rule_of.Given as goal

abbrev pub invariant-loop-entry : goal.invariant-loop-entry
invariant-loop-entry l = rows_of l.table.items ≡ map (λ r. row_in r.0 r.1.now (option_copied r.2) r.3) (take l.entry-index l.rows)
