use Rattle.cajita_laws.proofs.Turns.{load_reaches, question_reaches, call_reaches, closure_reaches, key_reaches, tick_reaches, node_reaches}
use Rattle.cajita_laws.proofs.a_turn_lies_in_what_its_module_has.Goals as goal

pub returns-clause-load : goal.returns-clause-load
returns-clause-load c = load_reaches

pub returns-clause-question : goal.returns-clause-question
returns-clause-question c = question_reaches

pub returns-clause-call : goal.returns-clause-call
returns-clause-call c = call_reaches

pub returns-clause-closure : goal.returns-clause-closure
returns-clause-closure c = closure_reaches

pub returns-clause-key_event : goal.returns-clause-key_event
returns-clause-key_event c = key_reaches

pub returns-clause-tick : goal.returns-clause-tick
returns-clause-tick c = tick_reaches

pub returns-clause-node : goal.returns-clause-node
returns-clause-node c = node_reaches
