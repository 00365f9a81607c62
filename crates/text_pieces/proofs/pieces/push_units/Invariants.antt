use Rattle.std.proofs.Common.{◌≡◌, ◌++◌, take}
use Rattle.std.specs.List.{concat}
use Rattle.text_pieces.proofs.pieces.push_units.Given as goal

abbrev pub invariant-loop-piece : goal.invariant-loop-piece
invariant-loop-piece l = l.units.items ≡ l.fn.units.items ++ concat (take l.piece-index l.pieces)
