use Rattle.html_kept.proofs.Back.{cleaned_of_table}
use Rattle.html_kept.proofs.Names.{kept_named, no_event}
use Rattle.html_kept.proofs.what_is_kept_is_of_the_table.Goals as goal

pub returns-clause-table : goal.returns-clause-table
returns-clause-table c = cleaned_of_table

pub returns-clause-named : goal.returns-clause-named
returns-clause-named c = kept_named

pub returns-clause-no_event : goal.returns-clause-no_event
returns-clause-no_event c = no_event
