use Rattle.std.proofs.Common.{◌≤◌, length}
use Rattle.text_pieces.proofs.pieces.kept.Given as goal

abbrev pub invariant-loop-piece : goal.invariant-loop-piece
invariant-loop-piece l = l.kept ≤ length l.pieces
