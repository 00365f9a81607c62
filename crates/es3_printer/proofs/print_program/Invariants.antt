-- What is printed and what is still to be printed make the whole text.
use Rattle.std.proofs.Common.{◌≡◌}
use Rattle.es3_tree.specs.View.{program}
use Rattle.es3_printed.specs.Text.{onto}
use Rattle.es3_printed.specs.Tokens.{printed}
use Rattle.es3_printer.specs.Pieces.{pending}
use Rattle.es3_printer.specs.Nodes.{weight}
use Rattle.es3_printer.proofs.print_program.Given as goal

abbrev pub invariant-loop-piece : goal.invariant-loop-piece
invariant-loop-piece l = onto l.out.items (pending l.rest.items) ≡ printed (program l.fn.p)

abbrev pub decreases-loop-piece : goal.decreases-loop-piece
decreases-loop-piece l = weight l.rest.items
