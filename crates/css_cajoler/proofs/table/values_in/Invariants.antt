use Rattle.std.proofs.Common.{◌≡◌, drop, map}
use Rattle.std.specs.Prelude.{option_copied}
use Rattle.css_kept.specs.Table.{values_in}
use Rattle.url_rule.specs.Table.{rows_of}
use Rattle.css_urls.specs.Answers.{for_sheets}
use Rattle.css_cajoler.specs.Views.{row_of}
use Rattle.css_cajoler.proofs.table.values_in.Given as goal

abbrev pub invariant-loop-row : goal.invariant-loop-row
invariant-loop-row g l =
    let a = for_sheets (rows_of l.urls.table.items) (option_copied l.base) in
    values_in (map row_of (drop l.row-index l.rows)) a l.name l.list ≡ values_in (map row_of l.rows) a l.name l.list
