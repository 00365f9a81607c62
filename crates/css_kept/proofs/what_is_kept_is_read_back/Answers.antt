use Rattle.css_kept.proofs.Bytes.{bytes_back}
use Rattle.css_kept.proofs.what_is_kept_is_read_back.Goals as goal

pub returns-clause-back : goal.returns-clause-back
returns-clause-back c = bytes_back
