-- What a table of URLs answers for documents.
use Rattle.std.specs.Prelude.{List, Option}
use Rattle.url.specs.Parts.{Parts}
use Rattle.html_grammar.specs.Trees.{Tree, many}
use Rattle.html_kept.specs.Table.{Answers}
use Rattle.html_kept.specs.OfTable.{OfTable}
use Rattle.url_rule.specs.declared.ask.UriKind.TheVariants.{Link, Image}
use Rattle.url_rule.specs.Table.{Row}
use Rattle.url_rule.specs.Reading.{read}

-- for links and for images, joined to the base where there is one
abbrev pub for_documents : List Row → Option Parts → Answers
for_documents rows base = record { for_link = read rows Link base; for_image = read rows Image base }

-- trees that are of the table of HTML, with what some table of URLs answers with some base
abbrev pub IsKept : Tree many → Type 0
IsKept ts = (rows : List Row) × (base : Option Parts) × OfTable (for_documents rows base) many ts
