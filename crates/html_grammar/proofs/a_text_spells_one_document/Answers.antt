use Rattle.html_grammar.proofs.Exact.{one_document}
use Rattle.html_grammar.proofs.a_text_spells_one_document.Goals as goal

pub returns : goal.returns
returns c = one_document
