use Rattle.std.proofs.Common.{ap, ◌∙◌}
use Rattle.std.specs.Prelude.{option_copied}
use Rattle.html_kept.specs.Kept.{cleaned}
use Rattle.html_tree.specs.Views.{trees}
use Rattle.html_urls.specs.Answers.{for_documents}
use Rattle.url_rule.specs.Table.{rows_of}
use Rattle.page_documents.proofs.Answered.{cleans}
use Rattle.page_documents.proofs.cleaned.Goals as goal

pub returns-in_ok-clean_html-in-Ok : goal.returns-in_ok-clean_html-in-Ok
returns-in_ok-clean_html-in-Ok g c =
    let answers = for_documents (rows_of c.args.rule.now.table.items) (option_copied c.args.base) in
    cleans c.args.html.now c.in-Ok.list.items c.in_ok-clean_html-in-Ok.field-0 answers c.in-Ok.ensures (c.in_ok-clean_html-in-Ok.ensures ∙ ap (λ l. cleaned answers (trees l)) c.deref.ensures.value)
