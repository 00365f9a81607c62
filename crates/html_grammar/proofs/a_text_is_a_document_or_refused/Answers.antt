use Rattle.html_grammar.proofs.Exact.{one_of_both, not_both, one_refusal}
use Rattle.html_grammar.proofs.a_text_is_a_document_or_refused.Goals as goal

pub returns-clause-either : goal.returns-clause-either
returns-clause-either c = one_of_both

pub returns-clause-apart : goal.returns-clause-apart
returns-clause-apart c = not_both

pub returns-clause-once : goal.returns-clause-once
returns-clause-once c = one_refusal
