use Rattle.html_kept.proofs.Back.{read_back}
use Rattle.css_kept.proofs.Bytes.{bytes_back}
use Rattle.html_urls.specs.Answers.{for_documents}
use Rattle.css_urls.specs.Answers.{for_sheets}
use Rattle.url_answers.proofs.Texts.{documents, sheets}
use Rattle.url_answers.proofs.what_is_kept_is_read_back.Goals as goal

pub returns-clause-documents : goal.returns-clause-documents
returns-clause-documents c = λ rows base t bytes u h. read_back (for_documents rows base) t bytes (documents rows base) u h

pub returns-clause-sheets : goal.returns-clause-sheets
returns-clause-sheets c = λ rows base scope rs u i h. bytes_back (for_sheets rows base) scope rs u (sheets rows base) i h
