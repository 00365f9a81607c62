use Rattle.std.proofs.Common.{◌≡◌, ◌++◌}
use Rattle.doc_nodes.specs.Rows.{row_at}
use Rattle.doc_tree.specs.Printing.{opening, ending, shown, printed}
use Rattle.doc_tree.specs.Levels.{left_of_all, weight_of_all}
use Rattle.doc_tree.proofs.document.Document.print_node.Given as goal

abbrev pub invariant-levels : goal.invariant-levels
invariant-levels l = l.out.items ++ left_of_all l.most l.self l.levels.items ≡ l.fn.out.items ++ (opening (row_at l.self l.fn.n) ++ (printed l.most l.self (shown l.self l.fn.n) ++ ending (row_at l.self l.fn.n)))

abbrev pub decreases-levels : goal.decreases-levels
decreases-levels l = weight_of_all l.most l.self l.levels.items
