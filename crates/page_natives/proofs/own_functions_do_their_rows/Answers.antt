use Rattle.page_natives.proofs.OwnFunctions.{say_does_its_row, later_does_its_row, get_does_its_row, set_does_its_row}
use Rattle.page_natives.proofs.own_functions_do_their_rows.Goals as goal

pub returns-clause-say : goal.returns-clause-say
returns-clause-say c = say_does_its_row

pub returns-clause-later : goal.returns-clause-later
returns-clause-later c = later_does_its_row

pub returns-clause-get : goal.returns-clause-get
returns-clause-get c = get_does_its_row

pub returns-clause-set : goal.returns-clause-set
returns-clause-set c = set_does_its_row
