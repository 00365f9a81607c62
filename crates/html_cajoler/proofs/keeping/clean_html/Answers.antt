use Rattle.std.proofs.Common.{subst, sym}
use Rattle.std.specs.Prelude.{option_copied}
use Rattle.html_cajoler.proofs.keeping.clean_html.Goals as goal
use Rattle.html_grammar.specs.Trees.{many}
use Rattle.html_kept.proofs.Back.{cleaned_of_table}
use Rattle.html_kept.specs.OfTable.{OfTable}
use Rattle.html_tree.specs.Views.{trees}
use Rattle.html_urls.specs.Answers.{for_documents}
use Rattle.url_rule.specs.Table.{rows_of}

pub invariant_of-result : goal.invariant_of-result
invariant_of-result g c =
    let rows = rows_of c.args.urls.now.table.items in
    let base = option_copied c.args.base in
    let a = for_documents rows base in
    (rows, base, subst (OfTable a many) (sym c.in_ok-list.ensures) (cleaned_of_table a (trees c.args.document.now)))
