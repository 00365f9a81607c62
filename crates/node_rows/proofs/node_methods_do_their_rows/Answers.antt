use Rattle.node_rows.proofs.Methods.{node_methods_do_their_rows}
use Rattle.node_rows.proofs.node_methods_do_their_rows.Goals as goal

pub returns : goal.returns
returns c = node_methods_do_their_rows
