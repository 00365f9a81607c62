use Rattle.page_natives.proofs.Numbers.{say_has_its_number, later_has_its_number, get_has_its_number, set_has_its_number}
use Rattle.page_natives.proofs.own_functions_have_their_numbers.Goals as goal

pub returns-clause-say : goal.returns-clause-say
returns-clause-say c = say_has_its_number

pub returns-clause-later : goal.returns-clause-later
returns-clause-later c = later_has_its_number

pub returns-clause-get : goal.returns-clause-get
returns-clause-get c = get_has_its_number

pub returns-clause-set : goal.returns-clause-set
returns-clause-set c = set_has_its_number
