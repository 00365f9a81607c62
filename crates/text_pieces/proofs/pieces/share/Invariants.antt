use Rattle.std.proofs.Common.{◌≡◌, ◌++◌, take}
use Rattle.text_pieces.proofs.pieces.share.Given as goal

abbrev pub invariant-loop-piece : goal.invariant-loop-piece
invariant-loop-piece l = l.list.items ≡ l.fn.list.items ++ take l.piece-index l.pieces
