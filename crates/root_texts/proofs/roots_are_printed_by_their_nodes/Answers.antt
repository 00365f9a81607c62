use Rattle.root_texts.proofs.Printed.{nodes_are_printed, roots_are_printed}
use Rattle.root_texts.proofs.roots_are_printed_by_their_nodes.Goals as goal

pub returns-clause-nodes : goal.returns-clause-nodes
returns-clause-nodes c = nodes_are_printed

pub returns-clause-roots : goal.returns-clause-roots
returns-clause-roots c = roots_are_printed
