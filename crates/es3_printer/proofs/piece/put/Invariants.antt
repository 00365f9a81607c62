-- What is left of the pieces stands before what was put.
use Rattle.std.proofs.Common.{◌≡◌, ◌++◌, ◌+◌}
use Rattle.es3_printer.specs.Pieces.{all_tokens, pending}
use Rattle.es3_printer.specs.Nodes.{weight, weights}
use Rattle.es3_printer.proofs.piece.put.Given as goal

abbrev pub invariant-loop-piece : goal.invariant-loop-piece
invariant-loop-piece l =
    (all_tokens l.piece-iterator.iter.rest.now ++ pending l.rest.items ≡ all_tokens l.fn.pieces ++ pending l.fn.rest.items)
    × (weights l.piece-iterator.iter.rest.now + weight l.rest.items ≡ weights l.fn.pieces + weight l.fn.rest.items)
