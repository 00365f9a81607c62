use Rattle.cajita_laws.proofs.Turns.{load_isolates, question_isolates, call_isolates, key_isolates, tick_isolates, node_isolates}
use Rattle.cajita_laws.proofs.a_turn_is_the_same_for_its_group.Goals as goal

pub returns-clause-load : goal.returns-clause-load
returns-clause-load c = load_isolates

pub returns-clause-question : goal.returns-clause-question
returns-clause-question c = question_isolates

pub returns-clause-call : goal.returns-clause-call
returns-clause-call c = call_isolates

pub returns-clause-key_event : goal.returns-clause-key_event
returns-clause-key_event c = key_isolates

pub returns-clause-tick : goal.returns-clause-tick
returns-clause-tick c = tick_isolates

pub returns-clause-node : goal.returns-clause-node
returns-clause-node c = node_isolates
