use Rattle.es3_printed.proofs.SafeText.{safe_program}
use Rattle.es3_printed.proofs.ReadBack.{safe_where_spelled}
use Rattle.es3_printed.proofs.printed_is_safe.Goals as goal

pub returns-clause-words : goal.returns-clause-words
returns-clause-words c = safe_program

pub returns-clause-spelled : goal.returns-clause-spelled
returns-clause-spelled c = safe_where_spelled
