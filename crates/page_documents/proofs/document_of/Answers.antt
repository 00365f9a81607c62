use Rattle.std.proofs.Common.{◌≡◌, Ok, subst}
use Rattle.html_tree.specs.Views.{trees}
use Rattle.html_urls.specs.Answers.{for_documents}
use Rattle.url_rule.specs.Table.{rows_of}
use Rattle.page_manifest.specs.View.{page}
use Rattle.page_documents.specs.Html.{clean_of}
use Rattle.page_documents.proofs.Answered.{of_page}
use Rattle.page_documents.proofs.document_of.Goals as goal

pub styled-requires-clause-clean : goal.styled-requires-clause-clean
styled-requires-clause-clean g c =
    let p = page c.args.page.now in
    let rows = rows_of c.args.rule.now.table.items in
    let bytes = c.deref.result.now in
    let cleaned : clean_of (for_documents rows p.base) bytes ≡ Ok (trees c.in-Ok.clean) = subst (λ b. clean_of (for_documents rows b) bytes ≡ Ok (trees c.in-Ok.clean)) c.as_ref.ensures.value c.in-Ok.ensures in
    of_page p rows bytes (Ok (trees c.in-Ok.clean)) c.requires.rule c.deref.ensures.value cleaned
