use Rattle.es3_grammar.proofs.Unplaced.{program_plain}
use Rattle.es3_printed.proofs.places_are_all_that_is_left_out.Goals as goal

pub returns : goal.returns
returns c = program_plain
