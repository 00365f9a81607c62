use Rattle.html_kept.proofs.Back.{read_back, no_urls_of_texts}
use Rattle.html_kept.proofs.what_is_kept_is_read_back.Goals as goal

pub returns-clause-back : goal.returns-clause-back
returns-clause-back c = read_back

pub returns-clause-dropped : goal.returns-clause-dropped
returns-clause-dropped c = no_urls_of_texts
