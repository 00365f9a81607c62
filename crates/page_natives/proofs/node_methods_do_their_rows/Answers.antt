use Rattle.page_natives.proofs.Numbers.{node_methods_have_their_numbers}
use Rattle.page_natives.proofs.NodeMethods.{method_rows, whole_kept}
use Rattle.page_natives.proofs.node_methods_do_their_rows.Goals as goal

pub returns-clause-rows : goal.returns-clause-rows
returns-clause-rows c = method_rows c.node_methods_do_their_rows.ensures

pub returns-clause-numbers : goal.returns-clause-numbers
returns-clause-numbers c = node_methods_have_their_numbers

pub returns-clause-whole : goal.returns-clause-whole
returns-clause-whole c = whole_kept c.node_methods_do_their_rows.ensures
