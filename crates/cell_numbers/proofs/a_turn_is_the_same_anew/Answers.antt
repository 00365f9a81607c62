use Rattle.cell_numbers.proofs.Turns.{loads_anew, questions_anew, calls_anew, keys_anew, ticks_anew, node_turns_anew}
use Rattle.cell_numbers.proofs.a_turn_is_the_same_anew.Goals as goal

pub returns-clause-load : goal.returns-clause-load
returns-clause-load c = loads_anew

pub returns-clause-question : goal.returns-clause-question
returns-clause-question c = questions_anew

pub returns-clause-call : goal.returns-clause-call
returns-clause-call c = calls_anew

pub returns-clause-key_event : goal.returns-clause-key_event
returns-clause-key_event c = keys_anew

pub returns-clause-tick : goal.returns-clause-tick
returns-clause-tick c = ticks_anew

pub returns-clause-node : goal.returns-clause-node
returns-clause-node c = node_turns_anew
