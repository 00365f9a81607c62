use Rattle.cajita_laws.proofs.Others.{load_leaves_alone, question_leaves_alone, call_leaves_alone, key_leaves_alone, tick_leaves_alone, node_leaves_alone}
use Rattle.cajita_laws.proofs.a_turn_leaves_other_groups_alone.Goals as goal

pub returns-clause-load : goal.returns-clause-load
returns-clause-load c = load_leaves_alone

pub returns-clause-question : goal.returns-clause-question
returns-clause-question c = question_leaves_alone

pub returns-clause-call : goal.returns-clause-call
returns-clause-call c = call_leaves_alone

pub returns-clause-key_event : goal.returns-clause-key_event
returns-clause-key_event c = key_leaves_alone

pub returns-clause-tick : goal.returns-clause-tick
returns-clause-tick c = tick_leaves_alone

pub returns-clause-node : goal.returns-clause-node
returns-clause-node c = node_leaves_alone
