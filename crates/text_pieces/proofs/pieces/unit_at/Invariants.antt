use Rattle.std.proofs.Common.{◌≡◌, drop}
use Rattle.std.specs.List.{concat, slice_get}
use Rattle.text_pieces.proofs.pieces.unit_at.Given as goal

abbrev pub invariant-loop-piece : goal.invariant-loop-piece
invariant-loop-piece l = slice_get (concat (drop l.piece-index l.pieces)) l.at ≡ slice_get (concat l.pieces) l.fn.at
