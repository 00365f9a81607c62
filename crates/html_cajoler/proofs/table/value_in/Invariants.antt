use Rattle.std.proofs.Common.{◌≡◌, drop, map}
use Rattle.std.specs.Prelude.{option_copied}
use Rattle.html_kept.specs.Table.{value_in}
use Rattle.url_rule.specs.Table.{rows_of}
use Rattle.html_urls.specs.Answers.{for_documents}
use Rattle.html_cajoler.specs.Views.{row_of}
use Rattle.html_cajoler.proofs.table.value_in.Given as goal

abbrev pub invariant-loop-row : goal.invariant-loop-row
invariant-loop-row g l =
    let a = for_documents (rows_of l.urls.table.items) (option_copied l.base) in
    value_in (map row_of (drop l.row-index l.rows)) a l.tag l.name l.value ≡ value_in (map row_of l.rows) a l.tag l.name l.value
