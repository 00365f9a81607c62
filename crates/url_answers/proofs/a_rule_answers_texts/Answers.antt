use Rattle.url_answers.proofs.Texts.{documents, sheets}
use Rattle.url_answers.proofs.a_rule_answers_texts.Goals as goal

pub returns-clause-documents : goal.returns-clause-documents
returns-clause-documents c = documents

pub returns-clause-sheets : goal.returns-clause-sheets
returns-clause-sheets c = sheets
