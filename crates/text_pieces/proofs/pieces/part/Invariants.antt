use Rattle.std.proofs.Common.{◌≡◌, ◌++◌, take, drop}
use Rattle.std.specs.List.{concat}
use Rattle.text_pieces.proofs.pieces.part.Given as goal

abbrev pub invariant-loop-piece : goal.invariant-loop-piece
invariant-loop-piece l =
    l.part.items ++ take l.left (drop l.skip (concat (drop l.piece-index l.pieces))) ≡ take l.fn.len (drop l.fn.from (concat l.pieces))
