use Rattle.css_grammar.proofs.Refusals as lemma
use Rattle.css_grammar.proofs.a_text_is_a_sheet_or_refused.Goals as goal

pub returns-clause-either : goal.returns-clause-either
returns-clause-either c = lemma.either
