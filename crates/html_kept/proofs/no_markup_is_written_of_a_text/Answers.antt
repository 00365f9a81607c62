use Rattle.html_kept.proofs.Quiet.{text_is_quiet, value_is_quiet}
use Rattle.html_kept.proofs.no_markup_is_written_of_a_text.Goals as goal

pub returns-clause-text : goal.returns-clause-text
returns-clause-text c = text_is_quiet

pub returns-clause-value : goal.returns-clause-value
returns-clause-value c = value_is_quiet
