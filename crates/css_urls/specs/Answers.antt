-- What a table of URLs answers for sheets.
use Rattle.std.specs.Prelude.{List, Option}
use Rattle.url.specs.Parts.{Parts}
use Rattle.css_kept.specs.Table.{Answers}
use Rattle.url_rule.specs.declared.ask.UriKind.TheVariants.{Style}
use Rattle.url_rule.specs.Table.{Row}
use Rattle.url_rule.specs.Reading.{read}

-- for images, joined to the base where there is one
abbrev pub for_sheets : List Row → Option Parts → Answers
for_sheets rows base = record { for_style = read rows Style base }
