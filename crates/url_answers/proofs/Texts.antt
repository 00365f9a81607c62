-- What is answered for documents and for sheets is as they want it.
use Rattle.std.proofs.Common.{List, Option}
use Rattle.url.specs.Parts.{Parts}
use Rattle.html_kept.specs.Texts.{OfTexts}
use Rattle.css_kept.specs.Back.{Quotable}
use Rattle.url_rule.specs.declared.ask.UriKind.TheVariants.{Link, Image, Style}
use Rattle.url_rule.specs.Table.{Row}
use Rattle.url_rule.proofs.Shown.{of_chars}
use Rattle.html_urls.specs.Answers.{for_documents}
use Rattle.css_urls.specs.Answers.{for_sheets}
use Rattle.url_answers.proofs.Sheets.{all_quotable}

pub documents : (rows : List Row) (base : Option Parts) → OfTexts (for_documents rows base)
documents rows base = record { links = λ us vs _ e. of_chars rows Link base us vs e; images = λ us vs _ e. of_chars rows Image base us vs e }

pub sheets : (rows : List Row) (base : Option Parts) → Quotable (for_sheets rows base)
sheets rows base us vs _ e = (all_quotable rows base us vs e, of_chars rows Style base us vs e)
